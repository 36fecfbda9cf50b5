-- What nodes that are done come to, by what went through the links between them alone.
use Rattle.std.specs.Prelude.{◌≡◌, ℕ, Bool, true, false, List, [], ◌∷◌, map, drop}
use Rattle.std.specs.List.{flat_map, sum_by}
use Rattle.flow_model.specs.declared.Loc.{Loc}
use Rattle.log_model.specs.Logs.{steps}
use Rattle.report_model.specs.Query.{AreLocated}
use Rattle.report_model.specs.Rows.{Row, rows_as_written}
use Rattle.replayer.specs.Jobs.{trace_of}
use Rattle.sink_collect.specs.Pairs.{capped}
use Rattle.epoch_model.specs.Cutting.{IsCutting}
use Rattle.epoch_cut.specs.Numbered.{NumberedEpoch}
use Rattle.stream_model.specs.Work.{asked_at, run_work}
use Rattle.epoch_node.specs.Cores.{CoreSetup}
use Rattle.epoch_node.specs.Keeping.{Traffic, HasLinks, HasDone, HasCounted}
use Rattle.epoch_node.specs.Events.{IsMore}
use Rattle.epoch_layout.specs.Layouts.{CutRun, epochs_of, setup_at}

-- a node that is done and not broken: what it was given, what went through its links, what it asked, its rows, and its
-- count of events
pub record DoneNode : Type 0 where
  pub setup : CoreSetup
  pub traffic : Traffic
  pub asked : List Loc
  pub rows : List Row
  pub events : ℕ
  pub done : HasDone setup traffic asked rows
  pub counted : HasCounted setup traffic asked rows events

-- the node is that of the epoch, and has links where it has neighbours
pub record IsPlaced (i : CoreSetup) (n : DoneNode) : Type 0 where
  pub setup : n.setup ≡ i
  pub links : HasLinks i n.traffic

-- on the two links between the nodes n and m, what the one got is a part of what the other sent
pub record GotWasSent (n m : DoneNode) : Type 0 where
  pub asks : IsMore n.traffic.asks_got m.traffic.asks_sent
  pub answers : IsMore m.traffic.answers_got n.traffic.answers_sent

-- the nodes of these epochs, one by one, each with links to the next
abbrev pub IsDoneLine : CutRun → Bool → List NumberedEpoch → List DoneNode → Type 0
IsDoneLine run first [] [] = Unit {0}
IsDoneLine run first [] (n ∷ ns) = ⊥
IsDoneLine run first (e ∷ es) [] = ⊥
IsDoneLine run first (e ∷ es) (n ∷ []) = IsPlaced (setup_at run e first true) n × (es ≡ [])
IsDoneLine run first (e ∷ es) (n ∷ m ∷ ns) = IsPlaced (setup_at run e first false) n × GotWasSent n m × IsDoneLine run false es (m ∷ ns)

-- what the nodes of a run asked, but for the first, which asks nothing
abbrev pub crossed : List DoneNode → List (List Loc)
crossed ns = drop 1 (map (λ n. n.asked) ns)

-- they have the rows of the run, and asked what crosses its inner cuts, and so many of their events moved
pub record ComeTo (run : CutRun) (ns : List DoneNode) : Type 0 where
  pub rows : flat_map (λ n. n.rows) ns ≡ rows_as_written run.query (trace_of run.job)
  pub crossed_are : crossed ns ≡ asked_at run.query (trace_of run.job) run.cuts
  pub events : capped (sum_by (λ n. n.events) ns) ≡ capped (run_work run.query (trace_of run.job) run.cuts)

-- whatever moved the messages from one node to the next, and whenever
abbrev pub DoneLinesCome : Type 0
DoneLinesCome = (run : CutRun) (ns : List DoneNode)
    → IsCutting (steps run.job.log) run.cuts → AreLocated run.query.points
    → IsDoneLine run true (epochs_of run) ns
    → ComeTo run ns
