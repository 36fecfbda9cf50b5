-- Every schedule that ends with all nodes done, and none broken, has the same number of events that move.
use Rattle.std.proofs.Common.{◌≡◌, ℕ, zero, suc, ◌+◌, List, [], ◌∷◌, ◌++◌, map, length, refl, ap, sym, subst, ◌∙◌, Bool, true, false, arith}
use Rattle.std.specs.Prelude.{Option, Some, None, is_none}
use Rattle.std.proofs.lemmas.List.{length-map}
use Rattle.lists.proofs.Tests.{true-false}
use Rattle.flow_model.specs.declared.Loc.{Loc}
use Rattle.flow_model.specs.declared.Message.{Message}
use Rattle.flow_model.specs.declared.Message.TheVariants.{Ask, End}
use Rattle.epoch_model.specs.Summary.{Summary, AreSummaries}
use Rattle.epoch_model.specs.Join.{resolved_row}
use Rattle.stream_model.specs.Streams.{requests, heard, answers_for, end_if}
use Rattle.stream_model.specs.Passes.{Asking, got_at_start, asking_event, rows_or_none}
use Rattle.stream_model.specs.Work.{node_work, work_in_all, EndsPastLast, EndsOutside}
use Rattle.stream_model.specs.Schedules.{Phase, Fresh, Asks, Answers, NodeState, Event, asking_links, answering_links, begun, settled_by, node_event, phase_of_first, event_at, nodes_start, nodes_after, node_moves, moves_at, is_done, is_whole_in, node_in}
use Rattle.stream_model.specs.ScheduleLaws.{one_if, moves_in, SameWork}
use Rattle.stream_model.proofs.NeverStill.{AllDone}
use Rattle.stream_model.proofs.Passing.{begun_whole}
use Rattle.stream_model.proofs.Moving.{reached}
use Rattle.stream_model.proofs.Running.{PassHolds, RunHolds, AllWhole, facts, all_are_done, run_holds, run_starts, kept_summaries, first_summaries, as_many}
use Rattle.stream_model.proofs.Moves.{AskCount, count_asking, whole_asking_before, row_count, count_answering}
use Rattle.stream_model.proofs.NodeWork.{seen, done_nodes_work}

-- ---- the count of a node, and of all

abbrev gain : Summary → Phase → ℕ
gain e Fresh = 0
gain e (Asks a) = 1 + length e.sinks + length a.sent + length a.got
gain e (Answers a f) = 1 + length e.sinks + length a.sent + length a.got + length (requests a.got) + length f.sent + length f.got + row_count f.rows

abbrev debt : Bool → Bool → Phase → ℕ
debt first last Fresh = 0
debt first last (Asks a) = length a.left + length (got_at_start last)
debt first last (Answers a f) = length a.left + length (got_at_start last) + length f.left + length (got_at_start first)

module _ (capacity : ℕ) (refused : Bool) where
  node_count : (previous next : Option Phase) (e : Summary) (p : Phase) → is_whole_in (node_event capacity refused previous next e p) ≡ true
      → gain e (node_event capacity refused previous next e p) + debt (is_none previous) (is_none next) p
      ≡ gain e p + debt (is_none previous) (is_none next) (node_event capacity refused previous next e p) + one_if (node_moves capacity previous next e p)
  node_count previous next e Fresh t = by refused t where
    by : (b : Bool) → (begun b (is_none next) e).is_whole ≡ true
        → gain e (Asks (begun b (is_none next) e)) + 0 ≡ 0 + debt (is_none previous) (is_none next) (Asks (begun b (is_none next) e)) + 1
    by true t = true-false (sym t)
    by false t = omega arith
  node_count previous next e (Asks a) t =
      let links = asking_links capacity refused previous next a in
      by (asking_event (is_none previous) e links a) (λ w. count_asking (is_none previous) e links a w) _ refl t where
        by : (b : Asking) → (b.is_whole ≡ true → AskCount a b (node_moves capacity previous next e (Asks a))) → (over : Bool) → b.is_over ≡ over
            → is_whole_in (settled_by over (is_none previous) b) ≡ true
            → gain e (settled_by over (is_none previous) b) + debt (is_none previous) (is_none next) (Asks a)
            ≡ gain e (Asks a) + debt (is_none previous) (is_none next) (settled_by over (is_none previous) b) + one_if (node_moves capacity previous next e (Asks a))
        by b c true o t = let count = c t in omega (arith, count)
        by b c false o t = let count = c t in omega (arith, count)
  node_count previous next e (Answers a f) t =
      let count = count_answering e a.asked (answering_links capacity refused previous next f) f t in omega (arith, count)

  node_whole : (previous next : Option Phase) (e : Summary) (p : Phase) → is_whole_in (node_event capacity refused previous next e p) ≡ true → is_whole_in p ≡ true
  node_whole previous next e Fresh t = refl
  node_whole previous next e (Asks a) t =
      let links = asking_links capacity refused previous next a in
      by (asking_event (is_none previous) e links a) (whole_asking_before (is_none previous) e links a) _ t where
        by : (b : Asking) → (b.is_whole ≡ true → a.is_whole ≡ true) → (over : Bool) → is_whole_in (settled_by over (is_none previous) b) ≡ true → a.is_whole ≡ true
        by b c true t = c t
        by b c false t = c t
  node_whole previous next e (Answers a f) t = begun_whole e a.asked (answering_links capacity refused previous next f ∷ []) f t

abbrev gain_all : List NodeState → ℕ
gain_all [] = 0
gain_all (n ∷ ns) = gain n.summary n.phase + gain_all ns

abbrev debt_all : Option Phase → List NodeState → ℕ
debt_all previous [] = 0
debt_all previous (n ∷ ns) = debt (is_none previous) (is_none (phase_of_first ns)) n.phase + debt_all (Some n.phase) ns

module _ (capacity : ℕ) where
  whole_before : (refused : Bool) (k : ℕ) (previous : Option Phase) (ns : List NodeState) → AllWhole (event_at capacity refused k previous ns) → AllWhole ns
  whole_before refused k previous [] w = tt
  whole_before refused zero previous (n ∷ ns) w = (node_whole capacity refused previous (phase_of_first ns) n.summary n.phase w.0, w.1)
  whole_before refused (suc k) previous (n ∷ ns) w = (w.0, whole_before refused k (Some n.phase) ns w.1)

  any_previous : (p q : Phase) (ns : List NodeState) → debt_all (Some p) ns ≡ debt_all (Some q) ns
  any_previous p q [] = refl
  any_previous p q (n ∷ ns) = refl

  count_at : (refused : Bool) (k : ℕ) (previous : Option Phase) (ns : List NodeState) → AllWhole (event_at capacity refused k previous ns)
      → gain_all (event_at capacity refused k previous ns) + debt_all previous ns ≡ gain_all ns + debt_all previous (event_at capacity refused k previous ns) + one_if (moves_at capacity k previous ns)
  count_at refused k previous [] w = refl
  count_at refused zero previous (n ∷ ns) w =
      let count = node_count capacity refused previous (phase_of_first ns) n.summary n.phase w.0 in
      let same = any_previous n.phase (node_event capacity refused previous (phase_of_first ns) n.summary n.phase) ns in
      omega (arith, count, same)
  count_at refused (suc k) previous (n ∷ ns) w =
      let count = count_at refused k (Some n.phase) ns w.1 in
      let same = ap (λ (last : Bool). debt (is_none previous) last n.phase) (as_many capacity refused k (Some n.phase) ns) in
      omega (arith, count, same)

  all_whole_before : (schedule : List Event) (ns : List NodeState) → AllWhole (nodes_after capacity schedule ns) → AllWhole ns
  all_whole_before [] ns w = w
  all_whole_before (m ∷ ms) ns w = whole_before m.is_refused m.node None ns (all_whole_before ms (event_at capacity m.is_refused m.node None ns) w)

  count_all : (schedule : List Event) (ns : List NodeState) → AllWhole (nodes_after capacity schedule ns)
      → gain_all (nodes_after capacity schedule ns) + debt_all None ns ≡ gain_all ns + debt_all None (nodes_after capacity schedule ns) + moves_in capacity schedule ns
  count_all [] ns w = omega arith
  count_all (m ∷ ms) ns w =
      let next = event_at capacity m.is_refused m.node None ns in
      let one = count_at m.is_refused m.node None ns (all_whole_before ms next w) in
      let rest = count_all ms next w in
      omega (arith, one, rest)

nothing_gained : (es : List Summary) → gain_all (nodes_start es) ≡ 0
nothing_gained [] = refl
nothing_gained (e ∷ es) = let rest = nothing_gained es in omega (arith, rest)

nothing_owed : (previous : Option Phase) (es : List Summary) → debt_all previous (nodes_start es) ≡ 0
nothing_owed previous [] = refl
nothing_owed previous (e ∷ es) = let rest = nothing_owed (Some Fresh) es in omega (arith, rest)

-- ---- at the end

-- what a node that is done gained is its work, and what is left to it
done_work : (first last : Bool) (e : Summary) (p : Phase) → PassHolds first last e p → is_done p ≡ true → is_whole_in p ≡ true
    → gain e p ≡ node_work first last (node_in (record { summary = e; phase = p })) + debt first last p
done_work first last e Fresh h d w = true-false (sym d)
done_work first last e (Asks a) h d w = true-false (sym d)
done_work first last e (Answers a f) h d w =
    let x = facts first last e (Answers a f) h d w in
    let asks : length a.left ≡ 0 = ap length ((h.2 (h.1 w)).over h.0).0 in
    let answers : length f.left ≡ 0 = ap length ((h.3 w).over d).3 in
    let row : row_count f.rows ≡ 1 = ap row_count ((h.3 w).over d).2 in
    let rows : length (rows_or_none f.rows) ≡ length e.sinks = ap length x.done.rows ∙ length-map e.sinks (resolved_row (heard a.asked f.got)) in
    omega (arith, asks, answers, row, rows, seen last a.got x.at_last, seen first f.got x.at_first)

all_work : (previous : Option Phase) (ns : List NodeState) → RunHolds previous ns → AllDone ns → AllWhole ns → gain_all ns ≡ work_in_all (is_none previous) (map node_in ns) + debt_all previous ns
all_work previous [] r d w = refl
all_work previous (n ∷ []) r d w = let own = done_work (is_none previous) true n.summary n.phase r.0 d.0 w.0 in omega (arith, own)
all_work previous (n ∷ b ∷ ns) r d w =
    let own = done_work (is_none previous) false n.summary n.phase r.0 d.0 w.0 in
    let rest = all_work (Some n.phase) (b ∷ ns) r.1 d.1 w.1 in
    omega (arith, own, rest)

ends_past_last : (previous : Option Phase) (ns : List NodeState) → RunHolds previous ns → AllDone ns → AllWhole ns → EndsPastLast (map node_in ns)
ends_past_last previous [] r d w = tt
ends_past_last previous (n ∷ []) r d w =
    let x = facts (is_none previous) true n.summary n.phase r.0 d.0 w.0 in
    x.sent_answers ∙ ap (λ (ms : List Message). answers_for n.summary (node_in n).asked (requests ms) (node_in n).answers_got) (x.at_last refl) ∙ ap end_if x.answers_end
ends_past_last previous (n ∷ b ∷ ns) r d w = ends_past_last (Some n.phase) (b ∷ ns) r.1 d.1 w.1

ends_outside : (ns : List NodeState) → RunHolds None ns → AllDone ns → AllWhole ns → EndsOutside (map node_in ns)
ends_outside [] r d w = tt
ends_outside (n ∷ ns) r d w =
    let x = facts true (is_none (phase_of_first ns)) n.summary n.phase r.0 d.0 w.0 in
    (x.sent_asks ∙ ap (λ (ls : List Loc). map Ask ls ++ End true ∷ []) x.done.asked, ends_past_last None (n ∷ ns) r d w)

pub same_work : SameWork
same_work q trace cuts capacity es schedule steps points c a d w =
    let ns = nodes_after capacity schedule (nodes_start es) in
    let same = kept_summaries capacity schedule (nodes_start es) ∙ first_summaries es in
    let runs = run_holds capacity schedule (nodes_start es) (run_starts None es) in
    let done = all_are_done ns (reached capacity schedule es) runs d w in
    let work = done_nodes_work q trace cuts (map node_in ns) steps points c (subst (AreSummaries q trace 0 cuts) (sym same) a) done (ends_outside ns runs d w) in
    let count = count_all capacity schedule (nodes_start es) w in
    omega (arith, count, nothing_gained es, nothing_owed None es, all_work None ns runs d w, work)
