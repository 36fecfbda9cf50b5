-- A line of nodes that are done: they are done as the streams say, so they have the rows of the run, and their events are
-- as many.
use Rattle.std.proofs.Common.{◌≡◌, ℕ, suc, ◌-◌, Some, None, List, [], ◌∷◌, map, length, refl, sym, ap, ap₂, ◌∙◌, subst, arith, Bool, true, false}
use Rattle.std.specs.Prelude.{Option, is_none}
use Rattle.std.specs.List.{AllByRecursion, sum_by}
use Rattle.std.proofs.lemmas.List.Folds.{flat_map-map}
use Rattle.std.proofs.lemmas.List.Sums.{sum_by-cons}
use Rattle.flow_model.specs.declared.Loc.{Loc}
use Rattle.flow_model.specs.declared.Message.{Message}
use Rattle.flow_model.specs.declared.Message.TheVariants.{End}
use Rattle.replayer.specs.Jobs.{trace_of}
use Rattle.sink_collect.specs.Pairs.{capped}
use Rattle.epoch_model.specs.Cutting.{Epoch, IsCutting, epochs}
use Rattle.epoch_model.specs.Summary.{AreSummaries}
use Rattle.epoch_cut.specs.Numbered.{NumberedEpoch, numbered}
use Rattle.local_taint.specs.Following.{AreInRange}
use Rattle.local_taint.proofs.Range.{all_in_range, trace_long}
use Rattle.pass_parts.specs.Ends.{got_by, sent_by, EndsWhole}
use Rattle.pass_parts.proofs.Whole.{ended_whole}
use Rattle.stream_model.specs.Streams.{requests, Node, IsDone, AreDone, AreAllDone, summaries}
use Rattle.stream_model.specs.StreamLaws.{EndsLast, LinksCarry}
use Rattle.stream_model.specs.Work.{node_work, work_in_all, asked_at, EndsPastLast, EndsOutside}
use Rattle.stream_model.proofs.Growing.{asks_end_last, answers_end_last}
use Rattle.stream_model.proofs.Meeting.{done_nodes_meet}
use Rattle.stream_model.proofs.Running.{all_got}
use Rattle.stream_model.proofs.NodeWork.{done_nodes_work}
use Rattle.epoch_node.specs.Cores.{CoreSetup}
use Rattle.epoch_node.specs.Keeping.{node_by, IsFound}
use Rattle.epoch_node.specs.Events.{IsMore}
use Rattle.epoch_layout.specs.Layouts.{CutRun, epochs_of, setup_at}
use Rattle.epoch_layout.specs.DoneLines.{DoneNode, IsPlaced, GotWasSent, IsDoneLine, crossed, DoneLinesCome}

abbrev pub stream_of : DoneNode → Node
stream_of d = node_by d.done.summary d.traffic d.asked d.rows

abbrev pub streams : List DoneNode → List Node
streams ds = map stream_of ds

-- ---- a link at the end

-- who got the End got all that was sent
closed : (got sent : Option (List Message)) → IsMore got sent → is_none got ≡ false → EndsLast (sent_by true true sent) → EndsWhole (got_by got) → got_by got ≡ sent_by true true sent
closed None sent m some last whole = cc
closed (Some got) None m some last whole = absurd m
closed (Some got) (Some sent) m some last whole = all_got got sent m (ended_whole got whole) last

none_got : (got : Option (List Message)) → is_none got ≡ true → got_by got ≡ End true ∷ []
none_got None h = refl
none_got (Some got) h = cc

-- ---- all of them

done_at : (i : CoreSetup) (d : DoneNode) → IsPlaced i d → IsDone i.first i.last (stream_of d)
done_at i d s = subst (λ (g : CoreSetup). IsDone g.first g.last (stream_of d)) s.setup d.done.done

-- the two links between a node and the next one
links_closed : (i k : CoreSetup) (a b : DoneNode) → IsPlaced i a → IsPlaced k b → i.last ≡ false → k.first ≡ false → GotWasSent a b
    → ((stream_of a).asks_got ≡ (stream_of b).asks_sent) × ((stream_of b).answers_got ≡ (stream_of a).answers_sent)
links_closed i k a b x y last first t = (
  closed a.traffic.asks_got b.traffic.asks_sent t.asks (x.links.asks_got ∙ last) (subst EndsLast (sym ((done_at k b y).asks first)) (asks_end_last b.done.summary (stream_of b).asks_got)) a.done.asks_end,
  closed b.traffic.answers_got a.traffic.answers_sent t.answers (y.links.answers_got ∙ first)
      (subst EndsLast (sym ((done_at i a x).answers last)) (answers_end_last a.done.summary a.asked (requests (stream_of a).asks_got) (stream_of a).answers_got)) b.done.answers_end,
)

module _ (run : CutRun) where
  -- the first of a line stands at its place
  record StandsFirst (first : Bool) (d : DoneNode) : Type 0 where
    epoch : NumberedEpoch
    last : Bool
    placed : IsPlaced (setup_at run epoch first last) d

  stands_first : (first : Bool) (es : List NumberedEpoch) (d : DoneNode) (ds : List DoneNode) → IsDoneLine run first es (d ∷ ds) → StandsFirst first d
  stands_first first [] d ds line = absurd line
  stands_first first (e ∷ es) d [] line = record { epoch = e; last = true; placed = line.0 }
  stands_first first (e ∷ es) d (b ∷ ds) line = record { epoch = e; last = false; placed = line.0 }

  are_done : (first : Bool) (es : List NumberedEpoch) (ds : List DoneNode) → IsDoneLine run first es ds → AreDone first (streams ds)
  are_done first es [] line = tt
  are_done first [] (d ∷ ds) line = absurd line
  are_done first (e ∷ es) (d ∷ []) line = (done_at (setup_at run e first true) d line.0, none_got d.traffic.asks_got line.0.links.asks_got)
  are_done first (e ∷ es) (d ∷ b ∷ ds) line =
      let next = stands_first false es b ds line.2 in
      let both = links_closed (setup_at run e first false) (setup_at run next.epoch false next.last) d b line.0 next.placed refl refl line.1 in
      (done_at (setup_at run e first false) d line.0, both.0, both.1, are_done false es (b ∷ ds) line.2)

  all_done : (es : List NumberedEpoch) (ds : List DoneNode) → IsDoneLine run true es ds → AreAllDone (streams ds)
  all_done es [] line = tt
  all_done es (d ∷ ds) line = (none_got d.traffic.answers_got (stands_first true es d ds line).placed.links.answers_got, are_done true es (d ∷ ds) line)

  found_at : (i : CoreSetup) (d : DoneNode) → IsPlaced i d → IsFound i.query (trace_of i.points.job) i.epoch d.done.summary
  found_at i d s = subst (λ (g : CoreSetup). IsFound g.query (trace_of g.points.job) g.epoch d.done.summary) s.setup d.done.found

  -- what they know is of the run's epochs, whose steps are in range
  record AreFound (s : ℕ) (cs : List ℕ) (ds : List DoneNode) : Type 0 where
    summaries : AreSummaries run.query (trace_of run.job) s cs (summaries (streams ds))
    in_range : AllByRecursion (λ (e : Epoch). AreInRange (trace_of run.job) e.first (e.past_last - e.first)) (epochs s cs)

  are_found : (first : Bool) (k s : ℕ) (cs : List ℕ) (ds : List DoneNode) → IsDoneLine run first (numbered k (epochs s cs)) ds → AreFound s cs ds
  are_found first k s [] [] line = record { summaries = tt; in_range = tt }
  are_found first k s (c ∷ []) (d ∷ []) line =
      let f = found_at (setup_at run (record { number = k; first = s; past_last = c }) first true) d line.0 in
      record { summaries = (f.summary, tt); in_range = (f.in_range, tt) }
  are_found first k s (c ∷ b ∷ cs) (d ∷ []) line = let no : length (numbered (suc k) (epochs c (b ∷ cs))) ≡ 0 = ap length line.1 in absurd (omega (arith, no))
  are_found first k s (c ∷ cs) (d ∷ b ∷ ds) line =
      let f = found_at (setup_at run (record { number = k; first = s; past_last = c }) first false) d line.0 in
      let rest = are_found false (suc k) c cs (b ∷ ds) line.2 in
      record { summaries = (f.summary, rest.summaries); in_range = (f.in_range, rest.in_range) }
  are_found first k s cs ds line = absurd line

-- ---- how many events moved

nothing_asked : (sent : Option (List Message)) → is_none sent ≡ true → sent_by true true sent ≡ End true ∷ []
nothing_asked None h = refl
nothing_asked (Some sent) h = cc

counted_at : (i : CoreSetup) (d : DoneNode) → IsPlaced i d → d.events ≡ capped (node_work i.first i.last (stream_of d))
counted_at i d s = subst (λ (g : CoreSetup). d.events ≡ capped (node_work g.first g.last (stream_of d))) s.setup (d.counted d.done.summary)

module _ (run : CutRun) where
  ends_past_last : (first : Bool) (es : List NumberedEpoch) (ds : List DoneNode) → IsDoneLine run first es ds → EndsPastLast (streams ds)
  ends_past_last first es [] line = tt
  ends_past_last first [] (d ∷ ds) line = absurd line
  ends_past_last first (e ∷ es) (d ∷ []) line = nothing_asked d.traffic.answers_sent line.0.links.answers_sent
  ends_past_last first (e ∷ es) (d ∷ b ∷ ds) line = ends_past_last false es (b ∷ ds) line.2

  ends_outside : (es : List NumberedEpoch) (ds : List DoneNode) → IsDoneLine run true es ds → EndsOutside (streams ds)
  ends_outside es [] line = tt
  ends_outside es (d ∷ ds) line = (nothing_asked d.traffic.asks_sent (stands_first run true es d ds line).placed.links.asks_sent, ends_past_last true es (d ∷ ds) line)

  -- the sum of capped counts, capped, is the capped sum
  counted_all : (first : Bool) (es : List NumberedEpoch) (ds : List DoneNode) → IsDoneLine run first es ds
      → capped (sum_by (λ (d : DoneNode). d.events) ds) ≡ capped (work_in_all first (streams ds))
  counted_all first es [] line = refl
  counted_all first [] (d ∷ ds) line = absurd line
  counted_all first (e ∷ es) (d ∷ []) line =
      let own = counted_at (setup_at run e first true) d line.0 in
      omega (arith, own, sum_by-cons (λ (d : DoneNode). d.events) d [])
  counted_all first (e ∷ es) (d ∷ b ∷ ds) line =
      let own = counted_at (setup_at run e first false) d line.0 in
      let rest = counted_all false es (b ∷ ds) line.2 in
      omega (arith, own, rest, sum_by-cons (λ (d : DoneNode). d.events) d (b ∷ ds))

-- ---- what they come to

crossings_are : (run : CutRun) (first : Bool) (k s : ℕ) (cs : List ℕ) (ds : List DoneNode) → IsDoneLine run first (numbered k (epochs s cs)) ds
    → LinksCarry run.query (trace_of run.job) cs (streams ds) → crossed ds ≡ asked_at run.query (trace_of run.job) cs
crossings_are run first k s [] [] line l = refl
crossings_are run first k s (c ∷ []) (d ∷ []) line l = refl
crossings_are run first k s (c ∷ b ∷ cs) (d ∷ []) line l = let no : length (numbered (suc k) (epochs c (b ∷ cs))) ≡ 0 = ap length line.1 in absurd (omega (arith, no))
crossings_are run first k s (c ∷ []) (d ∷ b ∷ []) line l = absurd line.2
crossings_are run first k s (c ∷ []) (d ∷ b ∷ e ∷ ds) line l = absurd line.2
crossings_are run first k s (c ∷ e ∷ cs) (d ∷ b ∷ ds) line l =
    ap₂ (λ (x : List Loc) (xs : List (List Loc)). x ∷ xs) l.0.asked (crossings_are run false (suc k) c (e ∷ cs) (b ∷ ds) line.2 l.1)
crossings_are run first k s cs ds line l = absurd line

pub done_lines_come : DoneLinesCome
done_lines_come run ds cutting located line =
    let trace = trace_of run.job in
    let cut : IsCutting (length trace) run.cuts = subst (λ n. IsCutting n run.cuts) (sym (trace_long run.job)) cutting in
    let found = are_found run true 0 0 run.cuts ds line in
    let in_range = all_in_range trace run.cuts cut found.in_range in
    let done = all_done run (epochs_of run) ds line in
    let meets = done_nodes_meet run.query trace run.cuts (streams ds) in_range located cut found.summaries done in
    record {
      rows = sym (flat_map-map (λ (n : Node). n.rows) stream_of ds) ∙ meets.all;
      crossed_are = crossings_are run true 0 0 run.cuts ds line meets.links;
      events = counted_all run true (epochs_of run) ds line
          ∙ ap capped (done_nodes_work run.query trace run.cuts (streams ds) in_range located cut found.summaries done (ends_outside run (epochs_of run) ds line));
    }
