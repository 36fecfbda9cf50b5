-- What each event that moves brings forward, also where it breaks a pass, and what a pass that breaks has sent.
use Rattle.std.proofs.Common.{◌≡◌, ◌⊎◌, inl, inr, ℕ, ◌+◌, ◌≤◌, List, [], ◌∷◌, ◌++◌, length, refl, ap, sym, ◌∙◌, Bool, true, false, arith}
use Rattle.std.specs.Prelude.{Option, Some, None, is_some}
use Rattle.lists.proofs.Tests.{true-false}
use Rattle.flow_model.specs.declared.Loc.{Loc}
use Rattle.flow_model.specs.declared.Message.TheVariants.{Ask, End}
use Rattle.report_model.specs.Rows.{Row}
use Rattle.epoch_model.specs.Summary.{Summary}
use Rattle.stream_model.specs.Passes.{Links, Asking, is_whole_message, asking_event, Answering, answering_event}
use Rattle.stream_model.specs.Schedules.{is_met, asking_need, answering_need}
use Rattle.stream_model.specs.ScheduleLaws.{one_if}
use Rattle.stream_model.proofs.Events.{AskEvent, AsksNothing, PushesAsk, WalksSink, TakesAsk, DropsAsk, EndsAsks, ask_event, AnswerEvent, AnswersNothing, PushesAnswer, TakesAnswer, BuildsAnswer, ResolvesRows, DropsAnswer, EndsAnswers, answer_event}
use Rattle.stream_model.proofs.NeverStill.{asking_goes, answering_goes, with_room}
use Rattle.stream_model.proofs.Moves.{one_longer}

pub at_most_one : (b : Bool) → one_if b ≤ 1
at_most_one true = omega arith
at_most_one false = omega arith

-- ---- asking: a sink is walked, a message is sent or got, or the pass breaks

abbrev pub AsksForward : Asking → Asking → Bool → Type 0
AsksForward a b moves = length b.left + one_if b.is_whole + length a.sent + length a.got + one_if moves ≤ length a.left + one_if a.is_whole + length b.sent + length b.got

-- a pass that is broken after an event has sent nothing in it but its End
abbrev pub AsksNoMore : Asking → Asking → Type 0
AsksNoMore a b = b.is_whole ≡ false → (b.sent ≡ a.sent) ⊎ ((a.is_over ≡ false) × (b.sent ≡ a.sent ++ End false ∷ []))

module _ (first : Bool) (e : Summary) (links : Links) (a : Asking) where
  pub asks_forward : AsksForward a (asking_event first e links a) (is_met (asking_need a) links)
  asks_forward = by (ask_event first e links a) where
    by : {b : Asking} {moves : Bool} → AskEvent first e links a b moves → AsksForward a b moves
    by AsksNothing = omega arith
    by (PushesAsk l waiting o w d r) = omega (arith, one_longer a.sent (Ask l))
    by (WalksSink true k left o w s) = omega (arith, ap one_if w)
    by (WalksSink false k left o w s) = omega (arith, ap length s)
    by (TakesAsk true m o w l n i) = omega (arith, one_longer a.got m)
    by (TakesAsk false m o w l n i) = omega (arith, ap one_if w, at_most_one (is_whole_message m), one_longer a.got m)
    by (DropsAsk m o w i) = omega (arith, one_longer a.got m)
    by (EndsAsks o n w r) = omega (arith, one_longer a.sent (End a.is_whole))

  pub asks_no_more : AsksNoMore a (asking_event first e links a)
  asks_no_more = by (ask_event first e links a) where
    by : {b : Asking} {moves : Bool} → AskEvent first e links a b moves → AsksNoMore a b
    by (PushesAsk l waiting o w d r) broken = true-false (sym w ∙ broken)
    by (EndsAsks o n w r) broken = inr (o, ap (λ (b : Bool). a.sent ++ End b ∷ []) broken)
    by (WalksSink true k left o w s) broken = inl refl
    by (TakesAsk true m o w l n i) broken = inl refl
    by other broken = inl refl

-- ---- answering: a message is sent or got, an answer or the rows are made, or the pass breaks

abbrev pub unresolved : Option (List Row) → ℕ
unresolved None = 1
unresolved (Some rows) = 0

abbrev pub AnswersForward : Answering → Answering → Bool → Type 0
AnswersForward f g moves =
    length g.left + one_if g.is_whole + unresolved g.rows + length f.sent + length f.got + one_if moves ≤ length f.left + one_if f.is_whole + unresolved f.rows + length g.sent + length g.got

abbrev pub AnswersNoMore : Answering → Answering → Type 0
AnswersNoMore f g = g.is_whole ≡ false → (g.sent ≡ f.sent) ⊎ ((f.is_over ≡ false) × (g.sent ≡ f.sent ++ End false ∷ []))

module _ (e : Summary) (asked : List Loc) (links : Links) (f : Answering) where
  pub answers_forward : AnswersForward f (answering_event e asked links f) (is_met (answering_need e asked f) links)
  answers_forward = by (answer_event e asked links f) where
    by : {g : Answering} {moves : Bool} → AnswerEvent e asked links f g moves → AnswersForward f g moves
    by AnswersNothing = omega arith
    by (PushesAnswer m sending o w s r) = omega (arith, one_longer f.sent m)
    by (TakesAnswer true m o w n i) = omega (arith, one_longer f.got m)
    by (TakesAnswer false m o w n i) = omega (arith, ap one_if w, at_most_one (is_whole_message m), one_longer f.got m)
    by (BuildsAnswer true l left o w s k r) = omega (arith, ap one_if w)
    by (BuildsAnswer false l left o w s k r) = omega (arith, ap length k)
    by (ResolvesRows true o w r n) = omega (arith, ap one_if w)
    by (ResolvesRows false o w r n) = omega (arith, ap unresolved r)
    by (DropsAnswer m o w i) = omega (arith, one_longer f.got m)
    by (EndsAnswers o n w r) = omega (arith, one_longer f.sent (End f.is_whole))

  pub answers_no_more : AnswersNoMore f (answering_event e asked links f)
  answers_no_more = by (answer_event e asked links f) where
    by : {g : Answering} {moves : Bool} → AnswerEvent e asked links f g moves → AnswersNoMore f g
    by (PushesAnswer m sending o w s r) broken = true-false (sym w ∙ broken)
    by (EndsAnswers o n w r) broken = inr (o, ap (λ (b : Bool). f.sent ++ End b ∷ []) broken)
    by (TakesAnswer true m o w n i) broken = inl refl
    by (BuildsAnswer true l left o w s k r) broken = inl refl
    by (ResolvesRows true o w r n) broken = inl refl
    by other broken = inl refl

-- ---- an event whose links have room and an item moves

module _ (links : Links) (r : links.has_room ≡ true) (n : is_some links.item ≡ true) where
  pub asking_met : (a : Asking) → a.is_over ≡ false → is_met (asking_need a) links ≡ true
  asking_met a o = with_room (asking_need a) links r (asking_goes links a o (λ _. n))

  pub answering_met : (e : Summary) (asked : List Loc) (f : Answering) → f.is_over ≡ false → is_met (answering_need e asked f) links ≡ true
  answering_met e asked f o = with_room (answering_need e asked f) links r (answering_goes links e asked f o (λ _. n))
