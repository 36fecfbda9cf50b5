-- What an event of a pass does, and whether it moves: nothing, or one of these. Crates above cite what follows from it.
use Rattle.std.proofs.Common.{◌≡◌, List, [], ◌∷◌, drop, refl, sym, ◌∙◌, Bool, true, false}
use Rattle.std.specs.Prelude.{Option, Some, None, is_some}
use Rattle.std.proofs.lemmas.Bool.{or_parts}
use Rattle.lists.proofs.Tests.{true-false}
use Rattle.flow_model.specs.declared.Loc.{Loc}
use Rattle.flow_model.specs.declared.Message.{Message}
use Rattle.report_model.specs.Rows.{Row}
use Rattle.epoch_model.specs.Summary.{Summary, SinkTerms}
use Rattle.stream_model.specs.Streams.{is_ended, is_resolvable}
use Rattle.stream_model.specs.Passes.{Links, Asking, Answering, push_ask, walk, take_ask, pop_ask, drop_ask, end_asks, broken_asking, whole_asking, asking_by, asking_event, push_answer, take_answer, pop_answer, build, build_or_pop, resolve, drop_answer, end_answers, resolve_or_end, pop_or_end, broken_answering, whole_answering, answering_by, answering_event}
use Rattle.stream_model.specs.Schedules.{is_met, item_or_room, whole_asking_need, asking_need_by, asking_need, nothing_or_room, last_need, nothing_or_item, whole_answering_need, answering_need_by, answering_need}

-- ---- asking

pub data AskEvent (first : Bool) (e : Summary) (links : Links) (a : Asking) : Asking → Bool → Type 0 where
  AsksNothing : AskEvent first e links a a false
  PushesAsk : (l : Loc) (waiting : List Loc) → a.is_over ≡ false → a.is_whole ≡ true → drop a.pushed a.asked ≡ l ∷ waiting → links.has_room ≡ true → AskEvent first e links a (push_ask true a l) true
  WalksSink : (refused : Bool) (k : SinkTerms) (left : List SinkTerms) → a.is_over ≡ false → a.is_whole ≡ true → a.left ≡ k ∷ left → AskEvent first e links a (walk refused first a k left) true
  TakesAsk : (refused : Bool) (m : Message) → a.is_over ≡ false → a.is_whole ≡ true → a.left ≡ [] → is_ended a.got ≡ false → links.item ≡ Some m → AskEvent first e links a (take_ask refused first e a m) true
  DropsAsk : (m : Message) → a.is_over ≡ false → a.is_whole ≡ false → links.item ≡ Some m → AskEvent first e links a (drop_ask a (Some m)) true
  EndsAsks : a.is_over ≡ false → is_ended a.got ≡ true → (a.is_whole ≡ true → (drop a.pushed a.asked ≡ []) × (a.left ≡ [])) → links.has_room ≡ true → AskEvent first e links a (end_asks true a) true

module _ (first : Bool) (e : Summary) (links : Links) (a : Asking) where
  asks_end : a.is_over ≡ false → is_ended a.got ≡ true → (a.is_whole ≡ true → (drop a.pushed a.asked ≡ []) × (a.left ≡ [])) → (room : Bool) → links.has_room ≡ room → AskEvent first e links a (end_asks room a) room
  asks_end o n w true r = EndsAsks o n w r
  asks_end o n w false r = AsksNothing

  whole_asks : a.is_over ≡ false → a.is_whole ≡ true → (waiting : List Loc) → drop a.pushed a.asked ≡ waiting → (left : List SinkTerms) → a.left ≡ left → (ended : Bool) → is_ended a.got ≡ ended
      → AskEvent first e links a (whole_asking first e links a waiting left ended) (is_met (whole_asking_need waiting left ended) links)
  whole_asks o w (l ∷ waiting) d left s ended n = by links.has_room refl where
    by : (room : Bool) → links.has_room ≡ room → AskEvent first e links a (push_ask room a l) room
    by true r = PushesAsk l waiting o w d r
    by false r = AsksNothing
  whole_asks o w [] d (k ∷ left) s ended n = WalksSink links.is_refused k left o w s
  whole_asks o w [] d [] s true n = asks_end o n (λ _. (d, s)) links.has_room refl
  whole_asks o w [] d [] s false n = by links.item refl where
    by : (next : Option Message) → links.item ≡ next → AskEvent first e links a (pop_ask links.is_refused first e a next) (is_some next)
    by None i = AsksNothing
    by (Some m) i = TakesAsk links.is_refused m o w s n i

  broken_asks : a.is_over ≡ false → a.is_whole ≡ false → (ended : Bool) → is_ended a.got ≡ ended → AskEvent first e links a (broken_asking links a ended) (is_met (item_or_room ended) links)
  broken_asks o w true n = asks_end o n (λ t. true-false (sym t ∙ w)) links.has_room refl
  broken_asks o w false n = by links.item refl where
    by : (next : Option Message) → links.item ≡ next → AskEvent first e links a (drop_ask a next) (is_some next)
    by None i = AsksNothing
    by (Some m) i = DropsAsk m o w i

  pub ask_event : AskEvent first e links a (asking_event first e links a) (is_met (asking_need a) links)
  ask_event = by a.is_over refl a.is_whole refl where
    by : (over : Bool) → a.is_over ≡ over → (whole : Bool) → a.is_whole ≡ whole → AskEvent first e links a (asking_by first e links a over whole) (is_met (asking_need_by a over whole) links)
    by true o whole w = AsksNothing
    by false o true w = whole_asks o w (drop a.pushed a.asked) refl a.left refl (is_ended a.got) refl
    by false o false w = broken_asks o w (is_ended a.got) refl

-- ---- answering

-- nothing is left to be sent before the End
abbrev pub IsAllSent : Answering → Type 0
IsAllSent f = (f.sending ≡ []) × (f.left ≡ []) × (rows : List Row) × (f.rows ≡ Some rows)

pub data AnswerEvent (e : Summary) (asked : List Loc) (links : Links) (f : Answering) : Answering → Bool → Type 0 where
  AnswersNothing : AnswerEvent e asked links f f false
  PushesAnswer : (m : Message) (sending : List Message) → f.is_over ≡ false → f.is_whole ≡ true → f.sending ≡ m ∷ sending → links.has_room ≡ true → AnswerEvent e asked links f (push_answer true f m sending) true
  TakesAnswer : (refused : Bool) (m : Message) → f.is_over ≡ false → f.is_whole ≡ true → is_ended f.got ≡ false → links.item ≡ Some m → AnswerEvent e asked links f (take_answer refused f m) true
  BuildsAnswer : (refused : Bool) (l : Loc) (left : List Loc) → f.is_over ≡ false → f.is_whole ≡ true → f.sending ≡ [] → f.left ≡ l ∷ left → is_resolvable asked f.got (e.ends l) ≡ true
      → AnswerEvent e asked links f (build refused e asked f l left) true
  ResolvesRows : (refused : Bool) → f.is_over ≡ false → f.is_whole ≡ true → f.rows ≡ None → is_ended f.got ≡ true → AnswerEvent e asked links f (resolve refused e asked f) true
  DropsAnswer : (m : Message) → f.is_over ≡ false → f.is_whole ≡ false → links.item ≡ Some m → AnswerEvent e asked links f (drop_answer f (Some m)) true
  EndsAnswers : f.is_over ≡ false → is_ended f.got ≡ true → (f.is_whole ≡ true → IsAllSent f) → links.has_room ≡ true → AnswerEvent e asked links f (end_answers true f) true

module _ (e : Summary) (asked : List Loc) (links : Links) (f : Answering) where
  answers_end : f.is_over ≡ false → is_ended f.got ≡ true → (f.is_whole ≡ true → IsAllSent f) → (room : Bool) → links.has_room ≡ room → AnswerEvent e asked links f (end_answers room f) room
  answers_end o n w true r = EndsAnswers o n w r
  answers_end o n w false r = AnswersNothing

  answer_taken : f.is_over ≡ false → f.is_whole ≡ true → is_ended f.got ≡ false → (next : Option Message) → links.item ≡ next → AnswerEvent e asked links f (pop_answer links.is_refused f next) (is_some next)
  answer_taken o w n None i = AnswersNothing
  answer_taken o w n (Some m) i = TakesAnswer links.is_refused m o w n i

  whole_answers : f.is_over ≡ false → f.is_whole ≡ true → (sending : List Message) → f.sending ≡ sending → (left : List Loc) → f.left ≡ left
      → AnswerEvent e asked links f (whole_answering e asked links f sending left) (is_met (whole_answering_need e asked f sending left) links)
  whole_answers o w (m ∷ sending) s left l = by links.has_room refl where
    by : (room : Bool) → links.has_room ≡ room → AnswerEvent e asked links f (push_answer room f m sending) room
    by true r = PushesAnswer m sending o w s r
    by false r = AnswersNothing
  whole_answers o w [] s (k ∷ left) l = by (is_resolvable asked f.got (e.ends k)) refl where
    by : (b : Bool) → is_resolvable asked f.got (e.ends k) ≡ b → AnswerEvent e asked links f (build_or_pop b e asked links f k left) (is_met (nothing_or_item b) links)
    by true r = BuildsAnswer links.is_refused k left o w s l r
    by false r = answer_taken o w (or_parts (is_ended f.got) _ r).0 links.item refl
  whole_answers o w [] s [] l = by (is_ended f.got) refl where
    made : is_ended f.got ≡ true → (rows : Option (List Row)) → f.rows ≡ rows → AnswerEvent e asked links f (resolve_or_end e asked links f rows) (is_met (nothing_or_room rows) links)
    made n None r = ResolvesRows links.is_refused o w r n
    made n (Some rows) r = answers_end o n (λ _. (s, l, rows, r)) links.has_room refl

    by : (ended : Bool) → is_ended f.got ≡ ended → AnswerEvent e asked links f (pop_or_end e asked links f ended) (is_met (last_need ended f.rows) links)
    by false n = answer_taken o w n links.item refl
    by true n = made n f.rows refl

  broken_answers : f.is_over ≡ false → f.is_whole ≡ false → (ended : Bool) → is_ended f.got ≡ ended → AnswerEvent e asked links f (broken_answering links f ended) (is_met (item_or_room ended) links)
  broken_answers o w true n = answers_end o n (λ t. true-false (sym t ∙ w)) links.has_room refl
  broken_answers o w false n = by links.item refl where
    by : (next : Option Message) → links.item ≡ next → AnswerEvent e asked links f (drop_answer f next) (is_some next)
    by None i = AnswersNothing
    by (Some m) i = DropsAnswer m o w i

  pub answer_event : AnswerEvent e asked links f (answering_event e asked links f) (is_met (answering_need e asked f) links)
  answer_event = by f.is_over refl f.is_whole refl where
    by : (over : Bool) → f.is_over ≡ over → (whole : Bool) → f.is_whole ≡ whole → AnswerEvent e asked links f (answering_by e asked links f over whole) (is_met (answering_need_by e asked f over whole) links)
    by true o whole w = AnswersNothing
    by false o true w = whole_answers o w f.sending refl f.left refl
    by false o false w = broken_answers o w (is_ended f.got) refl
