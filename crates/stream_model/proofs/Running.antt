-- Whatever the schedule, nodes that are done have the rows of the whole trace.
use Rattle.std.proofs.Common.{◌≡◌, ℕ, zero, suc, List, [], ◌∷◌, ◌++◌, map, refl, ap, sym, subst, ◌∙◌, Bool, true, false, append-nil}
use Rattle.std.specs.Prelude.{Option, Some, None, is_none}
use Rattle.std.specs.List.{AllByRecursion}
use Rattle.lists.proofs.Tests.{true-false}
use Rattle.flow_model.specs.declared.Message.{Message}
use Rattle.flow_model.specs.declared.Message.TheVariants.{Ask, End}
use Rattle.epoch_model.specs.Summary.{Summary, AreSummaries}
use Rattle.stream_model.specs.Streams.{is_ended, requests, answers_for, Node, IsDone, AreDone, AreAllDone, summaries}
use Rattle.stream_model.specs.StreamLaws.{IsPrefix, EndsLast}
use Rattle.stream_model.specs.Passes.{Asking, asking_event, rows_or_none}
use Rattle.stream_model.specs.Schedules.{Phase, Fresh, Asks, Answers, NodeState, Event, asking_links, answering_links, begun, settled_by, node_event, phase_of_first, event_at, nodes_start, nodes_after, is_done, is_whole_in, node_in}
use Rattle.stream_model.specs.ScheduleLaws.{EveryScheduleMeets}
use Rattle.stream_model.proofs.NeverStill.{AllDone}
use Rattle.stream_model.proofs.Growing.{nothing_is_left, asks_end_last, answers_end_last}
use Rattle.stream_model.proofs.Meeting.{done_nodes_meet}
use Rattle.stream_model.proofs.Passing.{AskingHolds, AnsweringHolds, asking_keeps, asking_starts, asks_are_sent, answering_keeps, answering_starts, answers_are_sent, begun_whole}
use Rattle.stream_model.proofs.Moving.{LinkHolds, NodesHold, reached}

-- ---- the invariants of the passes, along a schedule

abbrev pub PassHolds : Bool → Bool → Summary → Phase → Type 0
PassHolds first last e Fresh = Unit {0}
PassHolds first last e (Asks a) = a.is_whole ≡ true → AskingHolds first last e a
PassHolds first last e (Answers a f) =
    (a.is_over ≡ true) × (f.is_whole ≡ true → a.is_whole ≡ true) × (a.is_whole ≡ true → AskingHolds first last e a)
    × (f.is_whole ≡ true → AnsweringHolds first e a.asked (requests a.got) f)

abbrev pub RunHolds : Option Phase → List NodeState → Type 0
RunHolds previous [] = Unit {0}
RunHolds previous (n ∷ ns) = PassHolds (is_none previous) (is_none (phase_of_first ns)) n.summary n.phase × RunHolds (Some n.phase) ns

settled_keeps : (first last : Bool) (e : Summary) (b : Asking) → (b.is_whole ≡ true → AskingHolds first last e b) → (over : Bool) → b.is_over ≡ over → PassHolds first last e (settled_by over first b)
settled_keeps first last e b kept true o = (o, (λ w. w), kept, λ w. answering_starts b.is_whole first e b.asked (requests b.got))
settled_keeps first last e b kept false o = kept

module _ (capacity : ℕ) (refused : Bool) where
  pass_keeps : (previous next : Option Phase) (e : Summary) (p : Phase) → PassHolds (is_none previous) (is_none next) e p
      → PassHolds (is_none previous) (is_none next) e (node_event capacity refused previous next e p)
  pass_keeps previous next e Fresh h = by refused where
    by : (b : Bool) → (begun b (is_none next) e).is_whole ≡ true → AskingHolds (is_none previous) (is_none next) e (begun b (is_none next) e)
    by true t = true-false (sym t)
    by false t = asking_starts (is_none previous) (is_none next) e
  pass_keeps previous next e (Asks a) h =
      let links = asking_links capacity refused previous next a in
      settled_keeps (is_none previous) (is_none next) e (asking_event (is_none previous) e links a) (asking_keeps (is_none previous) (is_none next) e links a h) _ refl
  pass_keeps previous next e (Answers a f) h =
      let links = answering_links capacity refused previous next f in (
        h.0,
        (λ w. h.1 (begun_whole e a.asked (links ∷ []) f w)),
        h.2,
        answering_keeps (is_none previous) e a.asked (requests a.got) links f h.3,
      )

  pub as_many : (k : ℕ) (previous : Option Phase) (ns : List NodeState) → is_none (phase_of_first (event_at capacity refused k previous ns)) ≡ is_none (phase_of_first ns)
  as_many k previous [] = refl
  as_many zero previous (n ∷ ns) = refl
  as_many (suc k) previous (n ∷ ns) = refl

  -- what stands before a node counts only where there is nothing
  previous_any : (p q : Phase) (ns : List NodeState) → RunHolds (Some p) ns → RunHolds (Some q) ns
  previous_any p q [] h = h
  previous_any p q (n ∷ ns) h = h

  run_keeps : (k : ℕ) (previous : Option Phase) (ns : List NodeState) → RunHolds previous ns → RunHolds previous (event_at capacity refused k previous ns)
  run_keeps k previous [] h = h
  run_keeps zero previous (n ∷ ns) h = (pass_keeps previous (phase_of_first ns) n.summary n.phase h.0, previous_any n.phase _ ns h.1)
  run_keeps (suc k) previous (n ∷ ns) h =
      (subst (λ (last : Bool). PassHolds (is_none previous) last n.summary n.phase) (sym (as_many k (Some n.phase) ns)) h.0, run_keeps k (Some n.phase) ns h.1)

  same_summaries : (k : ℕ) (previous : Option Phase) (ns : List NodeState) → summaries (map node_in (event_at capacity refused k previous ns)) ≡ summaries (map node_in ns)
  same_summaries k previous [] = refl
  same_summaries zero previous (n ∷ ns) = refl
  same_summaries (suc k) previous (n ∷ ns) = ap (λ (es : List Summary). n.summary ∷ es) (same_summaries k (Some n.phase) ns)

pub run_holds : (capacity : ℕ) (schedule : List Event) (ns : List NodeState) → RunHolds None ns → RunHolds None (nodes_after capacity schedule ns)
run_holds capacity [] ns h = h
run_holds capacity (m ∷ ms) ns h = run_holds capacity ms (event_at capacity m.is_refused m.node None ns) (run_keeps capacity m.is_refused m.node None ns h)

pub run_starts : (previous : Option Phase) (es : List Summary) → RunHolds previous (nodes_start es)
run_starts previous [] = tt
run_starts previous (e ∷ es) = (tt, run_starts (Some Fresh) es)

pub kept_summaries : (capacity : ℕ) (schedule : List Event) (ns : List NodeState) → summaries (map node_in (nodes_after capacity schedule ns)) ≡ summaries (map node_in ns)
kept_summaries capacity [] ns = refl
kept_summaries capacity (m ∷ ms) ns = kept_summaries capacity ms (event_at capacity m.is_refused m.node None ns) ∙ same_summaries capacity m.is_refused m.node None ns

pub first_summaries : (es : List Summary) → summaries (map node_in (nodes_start es)) ≡ es
first_summaries [] = refl
first_summaries (e ∷ es) = ap (λ (fs : List Summary). e ∷ fs) (first_summaries es)

-- ---- nodes that are done

pub record Facts (first last : Bool) (n : Node) : Type 0 where
  pub done : IsDone first last n
  pub asks_end : is_ended n.asks_got ≡ true
  pub answers_end : is_ended n.answers_got ≡ true
  pub at_last : last ≡ true → n.asks_got ≡ End true ∷ []
  pub at_first : first ≡ true → n.answers_got ≡ End true ∷ []
  pub sent_asks : n.asks_sent ≡ map Ask n.asked ++ End true ∷ []
  pub sent_answers : n.answers_sent ≡ answers_for n.summary n.asked (requests n.asks_got) n.answers_got

pub facts : (first last : Bool) (e : Summary) (p : Phase) → PassHolds first last e p → is_done p ≡ true → is_whole_in p ≡ true → Facts first last (node_in (record { summary = e; phase = p }))
facts first last e Fresh h d w = true-false (sym d)
facts first last e (Asks a) h d w = true-false (sym d)
facts first last e (Answers a f) h d w =
    let x = h.2 (h.1 w) in
    let y = h.3 w in
    let asks = asks_are_sent first last e a x in
    let answers = answers_are_sent first e a.asked (requests a.got) f y in
    record {
      done = record {
        asked = asks.asked h.0;
        asks = λ t. asks.whole h.0 t;
        answers = λ _. answers.whole d;
        rows = ap rows_or_none (answers.rows d);
      };
      asks_end = asks.ended h.0;
      answers_end = answers.ended d;
      at_last = x.alone;
      at_first = y.alone;
      sent_asks = (x.over h.0).2;
      sent_answers = answers.whole d;
    }

-- who got an End got all
pub all_got : (got sent : List Message) → IsPrefix got sent → is_ended got ≡ true → EndsLast sent → got ≡ sent
all_got got sent p g l = sym (append-nil got) ∙ ap (λ (rest : List Message). got ++ rest) (sym (nothing_is_left got p.0 (subst EndsLast (sym p.1) l) g)) ∙ p.1

pub linked : (first last : Bool) (n b : NodeState) → Facts first false (node_in n) → Facts false last (node_in b) → LinkHolds n.phase b.phase
    → ((node_in n).asks_got ≡ (node_in b).asks_sent) × ((node_in b).answers_got ≡ (node_in n).answers_sent)
linked first last n b x y l = (
  all_got _ _ l.asks x.asks_end (subst EndsLast (sym (y.done.asks refl)) (asks_end_last b.summary (node_in b).asks_got)),
  all_got _ _ l.answers y.answers_end
      (subst EndsLast (sym (x.done.answers refl)) (answers_end_last n.summary (node_in n).asked (requests (node_in n).asks_got) (node_in n).answers_got)),
)

abbrev pub AllWhole : List NodeState → Type 0
AllWhole ns = AllByRecursion (λ n. is_whole_in n.phase ≡ true) ns

pub are_done : (previous : Option Phase) (n : NodeState) (ns : List NodeState) → NodesHold previous (n ∷ ns) → RunHolds previous (n ∷ ns) → AllDone (n ∷ ns) → AllWhole (n ∷ ns) → AreDone (is_none previous) (map node_in (n ∷ ns))
are_done previous n [] h r d w = let x = facts (is_none previous) true n.summary n.phase r.0 d.0 w.0 in (x.done, x.at_last refl)
are_done previous n (b ∷ ns) h r d w =
    let x = facts (is_none previous) false n.summary n.phase r.0 d.0 w.0 in
    let y = facts false (is_none (phase_of_first ns)) b.summary b.phase r.1.0 d.1.0 w.1.0 in
    let both = linked (is_none previous) (is_none (phase_of_first ns)) n b x y h.2.1 in
    (x.done, both.0, both.1, are_done (Some n.phase) b ns h.2 r.1 d.1 w.1)

pub all_are_done : (ns : List NodeState) → NodesHold None ns → RunHolds None ns → AllDone ns → AllWhole ns → AreAllDone (map node_in ns)
all_are_done [] h r d w = tt
all_are_done (n ∷ ns) h r d w = ((facts true (is_none (phase_of_first ns)) n.summary n.phase r.0 d.0 w.0).at_first refl, are_done None n ns h r d w)

pub every_schedule_meets : EveryScheduleMeets
every_schedule_meets q trace cuts capacity es schedule steps points c a d w =
    let same = kept_summaries capacity schedule (nodes_start es) ∙ first_summaries es in
    done_nodes_meet q trace cuts _ steps points c (subst (AreSummaries q trace 0 cuts) (sym same) a)
    (all_are_done _ (reached capacity schedule es) (run_holds capacity schedule (nodes_start es) (run_starts None es)) d w)
