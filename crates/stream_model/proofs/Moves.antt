-- What an event that moves adds to what was sent, got, walked, built and resolved, in a pass that is whole. Crates above cite
-- these lemmas.
use Rattle.std.proofs.Common.{◌≡◌, ℕ, ◌+◌, List, [], ◌∷◌, ◌++◌, length, refl, ap, sym, subst, ◌∙◌, Bool, true, false, length-append, arith}
use Rattle.std.specs.Prelude.{Option, is_some}
use Rattle.lists.proofs.Tests.{true-false}
use Rattle.flow_model.specs.declared.Loc.{Loc}
use Rattle.flow_model.specs.declared.Message.TheVariants.{Ask, End}
use Rattle.report_model.specs.Rows.{Row}
use Rattle.epoch_model.specs.Summary.{Summary}
use Rattle.stream_model.specs.Passes.{Links, Asking, asking_event, Answering, answering_event}
use Rattle.stream_model.specs.Schedules.{Need, Room, is_met, asking_need, answering_need}
use Rattle.stream_model.specs.ScheduleLaws.{one_if}
use Rattle.stream_model.proofs.Events.{AskEvent, AsksNothing, PushesAsk, WalksSink, TakesAsk, DropsAsk, EndsAsks, ask_event, AnswerEvent, AnswersNothing, PushesAnswer, TakesAnswer, BuildsAnswer, ResolvesRows, DropsAnswer, EndsAnswers, answer_event}
use Rattle.stream_model.proofs.NeverStill.{asking_goes, answering_goes, with_room, still_asking, still_answering}

pub one_longer : {X : Type 0} (xs : List X) (x : X) → length (xs ++ x ∷ []) ≡ length xs + 1
one_longer xs x = length-append xs (x ∷ [])

-- what the links do but for refusals
abbrev pub freed : Links → Links
freed links = record { has_room = links.has_room; item = links.item; is_refused = false }

-- ---- an event of asking

abbrev pub AskCount : Asking → Asking → Bool → Type 0
AskCount a b moves = length b.sent + length b.got + length a.left ≡ length a.sent + length a.got + length b.left + one_if moves

same_met : (need : Need) (links : Links) → is_met need (freed links) ≡ is_met need links
same_met Room links = refl
same_met need links = refl

module _ (first : Bool) (e : Summary) (links : Links) (a : Asking) where
  pub count_asking : (asking_event first e links a).is_whole ≡ true → AskCount a (asking_event first e links a) (is_met (asking_need a) (freed links))
  count_asking t = subst (AskCount a (asking_event first e links a)) (sym (same_met (asking_need a) links)) (by (ask_event first e links a) t) where
    by : {b : Asking} {moves : Bool} → AskEvent first e links a b moves → b.is_whole ≡ true → AskCount a b moves
    by AsksNothing t = omega arith
    by (PushesAsk l waiting o w d r) t = omega (arith, one_longer a.sent (Ask l))
    by (WalksSink true k left o w s) t = true-false (sym t)
    by (WalksSink false k left o w s) t = omega (arith, ap length s)
    by (TakesAsk true m o w l n i) t = true-false (sym t)
    by (TakesAsk false m o w l n i) t = omega (arith, one_longer a.got m)
    by (DropsAsk m o w i) t = true-false (sym t ∙ w)
    by (EndsAsks o n w r) t = omega (arith, one_longer a.sent (End a.is_whole))

  -- what is whole after an event was whole before it
  pub whole_asking_before : (asking_event first e links a).is_whole ≡ true → a.is_whole ≡ true
  whole_asking_before t = by (ask_event first e links a) t where
    by : {b : Asking} {moves : Bool} → AskEvent first e links a b moves → b.is_whole ≡ true → a.is_whole ≡ true
    by (WalksSink refused k left o w s) t = w
    by (TakesAsk refused m o w l n i) t = w
    by other t = t

-- ---- an event of answering

abbrev pub row_count : Option (List Row) → ℕ
row_count rows = one_if (is_some rows)

abbrev pub AnswerCount : Answering → Answering → Bool → Type 0
AnswerCount f g moves = length g.sent + length g.got + row_count g.rows + length f.left ≡ length f.sent + length f.got + row_count f.rows + length g.left + one_if moves

module _ (e : Summary) (asked : List Loc) (links : Links) (f : Answering) where
  pub count_answering : (answering_event e asked links f).is_whole ≡ true → AnswerCount f (answering_event e asked links f) (is_met (answering_need e asked f) (freed links))
  count_answering t = subst (AnswerCount f (answering_event e asked links f)) (sym (same_met (answering_need e asked f) links)) (by (answer_event e asked links f) t) where
    by : {g : Answering} {moves : Bool} → AnswerEvent e asked links f g moves → g.is_whole ≡ true → AnswerCount f g moves
    by AnswersNothing t = omega arith
    by (PushesAnswer m sending o w s r) t = omega (arith, one_longer f.sent m)
    by (TakesAnswer true m o w n i) t = true-false (sym t)
    by (TakesAnswer false m o w n i) t = omega (arith, one_longer f.got m)
    by (BuildsAnswer true l left o w s k r) t = true-false (sym t)
    by (BuildsAnswer false l left o w s k r) t = omega (arith, ap length k)
    by (ResolvesRows true o w r n) t = true-false (sym t)
    by (ResolvesRows false o w r n) t = omega (arith, ap row_count r)
    by (DropsAnswer m o w i) t = true-false (sym t ∙ w)
    by (EndsAnswers o n w r) t = omega (arith, one_longer f.sent (End f.is_whole))

-- ---- which events move

-- where a push goes through and something comes, what is not over moves
pub asking_moves_on : (links : Links) (a : Asking) → a.is_over ≡ false → links.has_room ≡ true → is_some links.item ≡ true → is_met (asking_need a) (freed links) ≡ true
asking_moves_on links a o room next = with_room (asking_need a) (freed links) room (asking_goes (freed links) a o (λ _. next))

pub answering_moves_on : (e : Summary) (asked : List Loc) (links : Links) (f : Answering) → f.is_over ≡ false → links.has_room ≡ true → is_some links.item ≡ true → is_met (answering_need e asked f) (freed links) ≡ true
answering_moves_on e asked links f o room next = with_room (answering_need e asked f) (freed links) room (answering_goes (freed links) e asked f o (λ _. next))

-- what does not move changes nothing, so what came to its end moved
pub asking_moves_over : (first : Bool) (e : Summary) (links : Links) (a : Asking) → a.is_over ≡ false → (asking_event first e links a).is_over ≡ true → is_met (asking_need a) (freed links) ≡ true
asking_moves_over first e links a o t = same_met (asking_need a) links ∙ by _ refl where
  by : (b : Bool) → is_met (asking_need a) links ≡ b → is_met (asking_need a) links ≡ true
  by true m = m
  by false m = true-false (sym t ∙ ap (λ (b : Asking). b.is_over) (still_asking first e links a m) ∙ o)

pub answering_moves_over : (e : Summary) (asked : List Loc) (links : Links) (f : Answering) → f.is_over ≡ false → (answering_event e asked links f).is_over ≡ true → is_met (answering_need e asked f) (freed links) ≡ true
answering_moves_over e asked links f o t = same_met (answering_need e asked f) links ∙ by _ refl where
  by : (b : Bool) → is_met (answering_need e asked f) links ≡ b → is_met (answering_need e asked f) links ≡ true
  by true m = m
  by false m = true-false (sym t ∙ ap (λ (g : Answering). g.is_over) (still_answering e asked links f m) ∙ o)
