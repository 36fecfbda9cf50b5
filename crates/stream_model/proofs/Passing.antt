-- The invariants of the two passes.
use Rattle.std.proofs.Common.{◌≡◌, ℕ, suc, ◌+◌, ◌-◌, ◌≤◌, List, [], ◌∷◌, ◌++◌, map, length, take, drop, refl, ap, ap₂, sym, ◌∙◌, Bool, true, false, append-nil, append_assoc, length-append, length-drop, arith}
use Rattle.std.specs.Prelude.{Some}
use Rattle.std.specs.List.{flat_map}
use Rattle.std.proofs.Math.Seq.{take-add}
use Rattle.std.proofs.lemmas.List.{map-append, take-append-le, take-append-drop}
use Rattle.std.proofs.lemmas.List.Concat.{flat_map-append}
use Rattle.std.proofs.lemmas.Bool.{or_left}
use Rattle.lists.proofs.Tests.{true-false}
use Rattle.flow_model.specs.declared.Loc.{Loc}
use Rattle.flow_model.specs.declared.SourceByte.{SourceByte}
use Rattle.flow_model.specs.declared.Message.{Message}
use Rattle.flow_model.specs.declared.Message.TheVariants.{Ask, End}
use Rattle.report_model.specs.Rows.{Row}
use Rattle.epoch_model.specs.Summary.{Summary, SinkTerms}
use Rattle.epoch_model.specs.Crossing.{added_all, wanted, asked_by}
use Rattle.epoch_model.specs.Join.{answer_to, resolved, rows_of}
use Rattle.epoch_model.proofs.Adding.{added_all-append}
use Rattle.stream_model.specs.Streams.{is_ended, requests, heard, is_resolvable, end_if, asks_for, answer, then_if, answers_for, asked_of}
use Rattle.stream_model.specs.StreamLaws.{IsPrefix}
use Rattle.stream_model.specs.Passes.{Links, Asking, Answering, asking_start, got_at_start, asked_more, wanted_for, is_whole_message, asked_if, asking_event, asking_after, answering_start, answering_event, answering_after, rows_or_none}
use Rattle.stream_model.specs.PassLaws.{AsksSent, AskingSends, AnswersSent, AnsweringSends, PassesEndDone}
use Rattle.stream_model.proofs.Events.{AskEvent, AsksNothing, PushesAsk, WalksSink, TakesAsk, DropsAsk, EndsAsks, ask_event, AnswerEvent, AnswersNothing, PushesAnswer, TakesAnswer, BuildsAnswer, ResolvesRows, DropsAnswer, EndsAnswers, answer_event}
use Rattle.stream_model.proofs.Growing.{prefix_same, prefix_trans, added_all_keeps, requests_more, resolvable_stays, ended_stays, answers_stay}

-- ---- parts of a list

module _ {X : Type 0} where
  -- the next item after the first n
  one_more : (n : ℕ) (xs : List X) (x : X) (rest : List X) → drop n xs ≡ x ∷ rest → (take (n + 1) xs ≡ take n xs ++ x ∷ []) × (n + 1 ≤ length xs)
  one_more n xs x rest e =
      let long : length xs - n ≡ suc (length rest) = sym (length-drop n xs) ∙ ap length e in
      (take-add n 1 xs ∙ ap (λ (ys : List X). take n xs ++ take 1 ys) e, omega (arith, long))

  none_more : (n : ℕ) (xs : List X) → drop n xs ≡ [] → take n xs ≡ xs
  none_more n xs e = sym (append-nil (take n xs)) ∙ ap (λ (ys : List X). take n xs ++ ys) (sym e) ∙ take-append-drop n xs

  take_front : (n : ℕ) (xs ys : List X) → n ≤ length xs → IsPrefix xs ys → (take n ys ≡ take n xs) × (n ≤ length ys)
  take_front n xs ys h p =
      let long : length ys ≡ length xs + length p.0 = ap length (sym p.1) ∙ length-append xs p.0 in
      (ap (take n) (sym p.1) ∙ take-append-le n xs p.0 h, omega (arith, long, h))

-- ---- asking

abbrev starts : List SinkTerms → List Loc
starts ks = flat_map (λ k. k.terms.starts) ks

-- a part of what is asked is sent; with the sinks that are left it is all that is to be asked for what was got
pub record AskingHolds (first last : Bool) (e : Summary) (a : Asking) : Type 0 where
  pub sent : a.is_over ≡ false → a.sent ≡ map Ask (take a.pushed a.asked)
  pub within : a.pushed ≤ length a.asked
  pub nothing : first ≡ true → a.asked ≡ []
  pub asked : first ≡ false → added_all a.asked (starts a.left) ≡ asked_by e (requests a.got)
  pub alone : last ≡ true → a.got ≡ End true ∷ []
  pub over : a.is_over ≡ true → (a.left ≡ []) × (is_ended a.got ≡ true) × (a.sent ≡ map Ask a.asked ++ End true ∷ [])

more_keeps : (first : Bool) (asked ls : List Loc) → IsPrefix asked (asked_more first asked ls)
more_keeps true asked ls = ([], append-nil asked)
more_keeps false asked ls = added_all_keeps asked ls

nothing_more : (first : Bool) (asked ls : List Loc) → first ≡ true → asked ≡ [] → asked_more first asked ls ≡ []
nothing_more true asked ls f e = e
nothing_more false asked ls f e = true-false (sym f)

one_request : (e : Summary) (asked : List Loc) (m : Message) → added_all asked (wanted_for e m) ≡ added_all asked (flat_map (λ l. (e.ends l).starts) (requests (m ∷ [])))
one_request e asked (Ask l) = ap (added_all asked) (sym (append-nil (e.ends l).starts))
one_request e asked m = refl

-- what is asked for more requests
asked_then : (e : Summary) (xs ys : List Loc) → asked_by e (xs ++ ys) ≡ added_all (asked_by e xs) (flat_map (λ l. (e.ends l).starts) ys)
asked_then e xs ys =
    let ends : Loc → List Loc = λ l. (e.ends l).starts in
    ap (added_all []) (ap (λ (ls : List Loc). starts e.sinks ++ ls) (flat_map-append ends xs ys) ∙ sym (append_assoc (starts e.sinks) (flat_map ends xs) (flat_map ends ys)))
    ∙ added_all-append [] (wanted e xs) (flat_map ends ys)

-- it is kept by each event that leaves the pass whole
pub asking_keeps : (first last : Bool) (e : Summary) (links : Links) (a : Asking) → (a.is_whole ≡ true → AskingHolds first last e a)
    → (asking_event first e links a).is_whole ≡ true → AskingHolds first last e (asking_event first e links a)
asking_keeps first last e links a holds = by (ask_event first e links a) where
  -- more is asked, and nothing sent
  grown : a.is_over ≡ false → AskingHolds first last e a → (ls : List Loc) (left : List SinkTerms) (got : List Message) (whole : Bool)
      → (first ≡ false → added_all (asked_more first a.asked ls) (starts left) ≡ asked_by e (requests got)) → (last ≡ true → got ≡ End true ∷ [])
      → AskingHolds first last e (record a { asked = asked_more first a.asked ls; left = left; got = got; is_whole = whole })
  grown o h ls left got whole asked alone =
      let front = take_front a.pushed a.asked (asked_more first a.asked ls) h.within (more_keeps first a.asked ls) in
      record {
        sent = λ _. h.sent o ∙ ap (map Ask) (sym front.0);
        within = front.1;
        nothing = λ f. nothing_more first a.asked ls f (h.nothing f);
        asked = asked;
        alone = alone;
        over = λ t. true-false (sym t ∙ o);
      }

  by : {b : Asking} {moves : Bool} → AskEvent first e links a b moves → b.is_whole ≡ true → AskingHolds first last e b
  by AsksNothing t = holds t
  by (PushesAsk l waiting o w d r) t =
      let h = holds w in
      let more = one_more a.pushed a.asked l waiting d in
      record {
        sent = λ _. ap (λ (ms : List Message). ms ++ Ask l ∷ []) (h.sent o) ∙ sym (map-append Ask (take a.pushed a.asked) (l ∷ [])) ∙ ap (map Ask) (sym more.0);
        within = more.1;
        nothing = h.nothing;
        asked = h.asked;
        alone = h.alone;
        over = λ t. true-false (sym t ∙ o);
      }
  by (WalksSink true k left o w s) t = true-false (sym t)
  by (WalksSink false k left o w s) t =
      let h = holds w in
      grown o h k.terms.starts left a.got a.is_whole (λ f. ap (λ (b : Bool). added_all (asked_more b a.asked k.terms.starts) (starts left)) f
      ∙ sym (added_all-append a.asked k.terms.starts (starts left)) ∙ ap (λ (ks : List SinkTerms). added_all a.asked (starts ks)) (sym s) ∙ h.asked f) h.alone
  by (TakesAsk true m o w l n i) t = true-false (sym t)
  by (TakesAsk false m o w l n i) t = taken (is_whole_message m) t where
    taken : (b : Bool) → b ≡ true → AskingHolds first last e (record a { got = a.got ++ m ∷ []; asked = asked_if b (asked_more first a.asked (wanted_for e m)); is_whole = b })
    taken false t = true-false (sym t)
    taken true t =
        let h = holds w in
        grown o h (wanted_for e m) a.left (a.got ++ m ∷ []) true (λ f. ap₂ (λ (b : Bool) (ks : List SinkTerms). added_all (asked_more b a.asked (wanted_for e m)) (starts ks)) f l
        ∙ one_request e a.asked m
        ∙ ap (λ (ls : List Loc). added_all ls (flat_map (λ l. (e.ends l).starts) (requests (m ∷ [])))) (ap (λ (ks : List SinkTerms). added_all a.asked (starts ks)) (sym l) ∙ h.asked f)
        ∙ sym (asked_then e (requests a.got) (requests (m ∷ []))) ∙ ap (asked_by e) (sym (requests_more a.got (m ∷ []) n)))
        (λ last. true-false (sym (ap is_ended (h.alone last)) ∙ n))
  by (DropsAsk m o w i) t = true-false (sym t ∙ w)
  by (EndsAsks o n w r) t =
      let h = holds t in
      let none = w t in
      record {
        sent = true-false;
        within = h.within;
        nothing = h.nothing;
        asked = h.asked;
        alone = h.alone;
        over = λ _. (none.1, n, ap₂ (λ (ms : List Message) (b : Bool). ms ++ End b ∷ []) (h.sent o ∙ ap (map Ask) (none_more a.pushed a.asked none.0)) t);
      }

pub asking_starts : (first last : Bool) (e : Summary) → AskingHolds first last e (asking_start last e)
asking_starts first last e = record {
  sent = λ _. refl;
  within = omega arith;
  nothing = λ _. refl;
  asked = λ _. by last;
  alone = λ l. ap got_at_start l;
  over = λ t. true-false (sym t);
} where
  by : (b : Bool) → added_all [] (starts e.sinks) ≡ asked_by e (requests (got_at_start b))
  by true = ap (added_all []) (sym (append-nil (starts e.sinks)))
  by false = ap (added_all []) (sym (append-nil (starts e.sinks)))

pub asking_after_holds : (first last : Bool) (e : Summary) (schedule : List Links) (a : Asking) → (a.is_whole ≡ true → AskingHolds first last e a)
    → (asking_after first e schedule a).is_whole ≡ true → AskingHolds first last e (asking_after first e schedule a)
asking_after_holds first last e [] a h = h
asking_after_holds first last e (links ∷ schedule) a h = asking_after_holds first last e schedule (asking_event first e links a) (asking_keeps first last e links a h)

asked_front : (xs ys : List Loc) → IsPrefix xs ys → IsPrefix (map Ask xs) (map Ask ys)
asked_front xs ys p = (map Ask p.0, sym (map-append Ask xs p.0) ∙ ap (map Ask) p.1)

pub asks_are_sent : (first last : Bool) (e : Summary) (a : Asking) → AskingHolds first last e a → AsksSent first e a
asks_are_sent first last e a h = record {
  part = λ f. by f a.is_over refl;
  whole = whole;
  asked = λ o. asked o first refl;
  ended = λ o. (h.over o).1;
} where
  all_asked : a.is_over ≡ true → first ≡ false → a.asked ≡ asked_by e (requests a.got)
  all_asked o f = ap (λ (ks : List SinkTerms). added_all a.asked (starts ks)) (sym (h.over o).0) ∙ h.asked f

  whole : a.is_over ≡ true → first ≡ false → a.sent ≡ asks_for e a.got
  whole o f = (h.over o).2 ∙ ap₂ (λ (ls : List Loc) (b : Bool). map Ask ls ++ end_if b) (all_asked o f) (sym (h.over o).1)

  asked : a.is_over ≡ true → (b : Bool) → first ≡ b → a.asked ≡ asked_of b e (requests a.got)
  asked o true f = h.nothing f
  asked o false f = all_asked o f

  by : first ≡ false → (b : Bool) → a.is_over ≡ b → IsPrefix a.sent (asks_for e a.got)
  by f true o = prefix_same _ _ (whole o f)
  by f false o =
      let now = map Ask (take a.pushed a.asked) in
      prefix_trans a.sent now _ (prefix_same a.sent now (h.sent o))
      (prefix_trans now (map Ask (asked_by e (requests a.got))) _
      (asked_front _ _ (prefix_trans (take a.pushed a.asked) a.asked _ (drop a.pushed a.asked, take-append-drop a.pushed a.asked)
      (let kept = added_all_keeps a.asked (starts a.left) in (kept.0, kept.1 ∙ h.asked f))))
      (end_if (is_ended a.got), refl))

pub asking_sends : AskingSends
asking_sends first last e schedule w = asks_are_sent first last e _ (asking_after_holds first last e schedule (asking_start last e) (λ _. asking_starts first last e) w)

-- ---- answering

-- what is sent, what is being sent and what is to be sent for the requests that are left are what is to be sent for all,
-- whatever comes yet
pub record AnsweringHolds (first : Bool) (e : Summary) (asked ls : List Loc) (f : Answering) : Type 0 where
  pub sent : f.is_over ≡ false → (more : List Message) → f.sent ++ (f.sending ++ answers_for e asked f.left (f.got ++ more)) ≡ answers_for e asked ls (f.got ++ more)
  pub alone : first ≡ true → f.got ≡ End true ∷ []
  pub resolved : (r : List Row) → f.rows ≡ Some r → (is_ended f.got ≡ true) × (r ≡ rows_of e (heard asked f.got))
  pub over : f.is_over ≡ true → (is_ended f.got ≡ true) × (f.sent ≡ answers_for e asked ls f.got) × (f.rows ≡ Some (rows_of e (heard asked f.got))) × (f.left ≡ [])

-- the answer to a request that is resolvable, whatever comes yet
first_answer : (e : Summary) (asked : List Loc) (l : Loc) (left : List Loc) (got more : List Message) → is_resolvable asked got (e.ends l) ≡ true
    → answer l (resolved (heard asked got) (e.ends l)) ++ answers_for e asked left (got ++ more) ≡ answers_for e asked (l ∷ left) (got ++ more)
first_answer e asked l left got more h = by (is_ended got) refl where
  both : (is_resolvable asked (got ++ more) (e.ends l) ≡ true) × (resolved (heard asked got) (e.ends l) ≡ resolved (heard asked (got ++ more)) (e.ends l))
      → answer l (resolved (heard asked got) (e.ends l)) ++ answers_for e asked left (got ++ more) ≡ answers_for e asked (l ∷ left) (got ++ more)
  both stays =
      ap (λ (set : List SourceByte). answer l set ++ answers_for e asked left (got ++ more)) stays.1
      ∙ ap (λ (b : Bool). then_if b (answer l (resolved (heard asked (got ++ more)) (e.ends l))) (answers_for e asked left (got ++ more))) (sym stays.0)

  by : (b : Bool) → is_ended got ≡ b → answer l (resolved (heard asked got) (e.ends l)) ++ answers_for e asked left (got ++ more) ≡ answers_for e asked (l ∷ left) (got ++ more)
  by true ended = both (
    or_left (is_ended (got ++ more)) _ (ended_stays got more ended),
    ap (λ (xs : List (List SourceByte)). resolved (answer_to asked xs) (e.ends l)) (answers_stay [] got more ended),
  )
  by false running = both (resolvable_stays asked got more (e.ends l) running h)

-- it is kept by each event that leaves the pass whole
pub answering_keeps : (first : Bool) (e : Summary) (asked ls : List Loc) (links : Links) (f : Answering) → (f.is_whole ≡ true → AnsweringHolds first e asked ls f)
    → (answering_event e asked links f).is_whole ≡ true → AnsweringHolds first e asked ls (answering_event e asked links f)
answering_keeps first e asked ls links f holds = by (answer_event e asked links f) where
  by : {g : Answering} {moves : Bool} → AnswerEvent e asked links f g moves → g.is_whole ≡ true → AnsweringHolds first e asked ls g
  by AnswersNothing t = holds t
  by (PushesAnswer m sending o w s r) t =
      let h = holds w in
      record {
        sent = λ _ more.
            append_assoc f.sent (m ∷ []) (sending ++ answers_for e asked f.left (f.got ++ more))
            ∙ ap (λ (ms : List Message). f.sent ++ (ms ++ answers_for e asked f.left (f.got ++ more))) (sym s) ∙ h.sent o more;
        alone = h.alone;
        resolved = h.resolved;
        over = λ t. true-false (sym t ∙ o);
      }
  by (TakesAnswer true m o w n i) t = true-false (sym t)
  by (TakesAnswer false m o w n i) t =
      let h = holds w in
      record {
        sent = λ _ more.
            let grown = append_assoc f.got (m ∷ []) more in
            ap (λ (got : List Message). f.sent ++ (f.sending ++ answers_for e asked f.left got)) grown ∙ h.sent o (m ∷ more) ∙ ap (answers_for e asked ls) (sym grown);
        alone = λ t. true-false (sym (ap is_ended (h.alone t)) ∙ n);
        resolved = λ r s. true-false (sym (h.resolved r s).0 ∙ n);
        over = λ t. true-false (sym t ∙ o);
      }
  by (BuildsAnswer true l left o w s k r) t = true-false (sym t)
  by (BuildsAnswer false l left o w s k r) t =
      let h = holds w in
      record {
        sent = λ _ more.
            ap (λ (ms : List Message). f.sent ++ ms) (first_answer e asked l left f.got more r)
            ∙ ap₂ (λ (ms : List Message) (ks : List Loc). f.sent ++ (ms ++ answers_for e asked ks (f.got ++ more))) (sym s) (sym k) ∙ h.sent o more;
        alone = h.alone;
        resolved = h.resolved;
        over = λ u. true-false (sym u ∙ o);
      }
  by (ResolvesRows true o w r n) t = true-false (sym t)
  by (ResolvesRows false o w r n) t =
      let h = holds w in
      record { sent = h.sent; alone = h.alone; resolved = λ r same. (n, cc); over = λ u. true-false (sym u ∙ o) }
  by (DropsAnswer m o w i) t = true-false (sym t ∙ w)
  by (EndsAnswers o n w r) t =
      let h = holds t in
      let x = w t in
      let none = append-nil f.got in
      record {
        sent = true-false;
        alone = h.alone;
        resolved = h.resolved;
        over = λ _. (
          n,
          ap (λ (b : Bool). f.sent ++ End b ∷ []) t
              ∙ ap (λ (b : Bool). f.sent ++ end_if b) (sym n)
              ∙ ap (λ (got : List Message). f.sent ++ answers_for e asked [] got) (sym none)
              ∙ ap₂ (λ (ms : List Message) (ks : List Loc). f.sent ++ (ms ++ answers_for e asked ks (f.got ++ []))) (sym x.0) (sym x.1)
              ∙ h.sent o [] ∙ ap (answers_for e asked ls) none,
          x.3 ∙ ap (λ (r : List Row). Some r) (h.resolved x.2 x.3).1,
          x.1,
        );
      }

pub answering_starts : (whole first : Bool) (e : Summary) (asked ls : List Loc) → AnsweringHolds first e asked ls (answering_start whole first ls)
answering_starts whole first e asked ls = record {
  sent = λ _ more. refl;
  alone = λ t. ap got_at_start t;
  resolved = λ r s. cc;
  over = λ t. true-false (sym t);
}

pub answering_after_holds : (first : Bool) (e : Summary) (asked ls : List Loc) (schedule : List Links) (f : Answering) → (f.is_whole ≡ true → AnsweringHolds first e asked ls f)
    → (answering_after e asked schedule f).is_whole ≡ true → AnsweringHolds first e asked ls (answering_after e asked schedule f)
answering_after_holds first e asked ls [] f h = h
answering_after_holds first e asked ls (links ∷ schedule) f h = answering_after_holds first e asked ls schedule (answering_event e asked links f) (answering_keeps first e asked ls links f h)

pub answers_are_sent : (first : Bool) (e : Summary) (asked ls : List Loc) (f : Answering) → AnsweringHolds first e asked ls f → AnswersSent e asked ls f
answers_are_sent first e asked ls f h = record {
  part = by f.is_over refl;
  whole = λ o. (h.over o).1;
  rows = λ o. (h.over o).2;
  ended = λ o. (h.over o).0;
} where
  by : (b : Bool) → f.is_over ≡ b → IsPrefix f.sent (answers_for e asked ls f.got)
  by true o = prefix_same _ _ (h.over o).1
  by false o = (f.sending ++ answers_for e asked f.left (f.got ++ []), h.sent o [] ∙ ap (answers_for e asked ls) (append-nil f.got))

pub answering_sends : AnsweringSends
answering_sends first e asked ls schedule w =
    answers_are_sent first e asked ls _ (answering_after_holds first e asked ls schedule (answering_start true first ls) (λ _. answering_starts true first e asked ls) w)

-- ---- both passes

-- what ends whole began whole
pub begun_whole : (e : Summary) (asked : List Loc) (schedule : List Links) (f : Answering) → (answering_after e asked schedule f).is_whole ≡ true → f.is_whole ≡ true
begun_whole e asked [] f w = w
begun_whole e asked (links ∷ schedule) f w = by (answer_event e asked links f) (begun_whole e asked schedule (answering_event e asked links f) w) where
  by : {g : Answering} {moves : Bool} → AnswerEvent e asked links f g moves → g.is_whole ≡ true → f.is_whole ≡ true
  by (TakesAnswer refused m o w n i) t = w
  by (BuildsAnswer refused l left o w s k r) t = w
  by (ResolvesRows refused o w r n) t = w
  by other t = t

pub passes_end_done : PassesEndDone
passes_end_done first last e schedule later =
    let a = asking_after first e schedule (asking_start last e) in
    let start = answering_start a.is_whole first (requests a.got) in
    let f = answering_after e a.asked later start in
    λ o p w.
    let x = asking_after_holds first last e schedule (asking_start last e) (λ _. asking_starts first last e) (begun_whole e a.asked later start w) in
    let y = answering_after_holds first e a.asked (requests a.got) later start (λ _. answering_starts a.is_whole first e a.asked (requests a.got)) w in
    let asks = asks_are_sent first last e a x in
    let answers = answers_are_sent first e a.asked (requests a.got) f y in (
      record {
        asked = asks.asked o;
        asks = λ t. asks.whole o t;
        answers = λ _. answers.whole p;
        rows = ap rows_or_none (answers.rows p);
      },
      x.alone,
      y.alone,
    )
