-- New nodes of the epochs of a run, joined by new links, and what is led from them.
use Rattle.std.specs.Prelude.{◌≡◌, ℕ, ◌+◌, Bool, Option, Some, None, is_none, option_map, List, [], ◌∷◌, length}
use Rattle.std.specs.List.{AllZip}
use Rattle.atomic_table.specs.Seated.{TableId}
use Rattle.log_model.specs.Logs.{steps}
use Rattle.report_model.specs.Query.{Query, AreLocated}
use Rattle.epoch_model.specs.Cutting.{IsCutting, epochs}
use Rattle.epoch_cut.specs.Numbered.{NumberedEpoch, numbered}
use Rattle.replayer.specs.Jobs.{Job}
use Rattle.checkpoints.specs.Points.{CheckpointsAt, beginnings}
use Rattle.epoch_link.specs.Ends.{new_producer, new_consumer}
use Rattle.epoch_node.specs.declared.ends.Ends.{Ends}
use Rattle.epoch_node.specs.Cores.{CoreSetup}
use Rattle.epoch_node.specs.Nodes.{NodeView, new_node, IsLedFrom}
use Rattle.epoch_layout.specs.declared.ends.Before.{Before}
use Rattle.epoch_layout.specs.declared.ends.After.{After}

-- ---- what a line of nodes works on

-- the run of a job, cut into epochs, and what is asked of it
pub record CutRun : Type 0 where
  pub job : Job
  pub query : Query
  pub cuts : List ℕ

abbrev pub points_of : CutRun → CheckpointsAt
points_of run = record { job = run.job; times = beginnings run.cuts }

abbrev pub epochs_of : CutRun → List NumberedEpoch
epochs_of run = numbered 0 (epochs 0 run.cuts)

-- what the core of an epoch is given, whether it is the first or the last
abbrev pub setup_at : CutRun → NumberedEpoch → Bool → Bool → CoreSetup
setup_at run e first last = record { points = points_of run; query = run.query; epoch = e; first = first; last = last }

-- ---- ends of links

-- the ends of a node, by neighbour
abbrev pub ends_of : Option Before → Option After → Ends
ends_of before after = record {
  ask_in = option_map (λ a. a.ask_in) after;
  ask_out = option_map (λ b. b.ask_out) before;
  answer_in = option_map (λ b. b.answer_in) before;
  answer_out = option_map (λ a. a.answer_out) after;
}

-- nothing went through these ends
pub record IsNewBefore (b : Before) : Type 0 where
  pub ask_out : b.ask_out.sent ≡ []
  pub answer_in : b.answer_in.got ≡ []

pub record IsNewAfter (a : After) : Type 0 where
  pub ask_in : a.ask_in.got ≡ []
  pub answer_out : a.answer_out.sent ≡ []

-- the two links between neighbours
pub record Links : Type 0 where
  pub ask : TableId
  pub answer : TableId

module _ (capacity : ℕ) where
  -- their new ends at the next node
  abbrev pub before_end : Links → Before
  before_end l = record { ask_out = new_producer l.ask capacity; answer_in = new_consumer l.answer capacity }

  -- and at the previous node
  abbrev pub after_end : Links → After
  after_end l = record { ask_in = new_consumer l.ask capacity; answer_out = new_producer l.answer capacity }

  -- the new ends of a node between these links
  abbrev pub ends_between : Option Links → Option Links → Ends
  ends_between before after = ends_of (option_map before_end before) (option_map after_end after)

  module _ (run : CutRun) where
    -- the new node of an epoch between these links
    abbrev pub node_between : NumberedEpoch → Option Links → Option Links → NodeView
    node_between e before after = new_node (setup_at run e (is_none before) (is_none after)) (ends_between before after)

    -- the new nodes of these epochs: `before` are the links before the first, and after each but the last are the next of
    -- the links
    abbrev pub laid_out : Option Links → List NumberedEpoch → List Links → List NodeView
    laid_out before [] ls = []
    laid_out before (e ∷ es) [] = node_between e before None ∷ []
    laid_out before (e ∷ es) (l ∷ ls) = node_between e before (Some l) ∷ laid_out (Some l) es ls

-- ---- a layout

-- these are new nodes, one for each epoch of the run, in order, and two new links join each to the next
pub record IsLayout (capacity : ℕ) (run : CutRun) (nodes : List NodeView) : Type 0 where
  pub cutting : IsCutting (steps run.job.log) run.cuts
  pub located : AreLocated run.query.points
  pub links : List Links
  pub count : length links + 1 ≡ length (epochs_of run)
  pub are : nodes ≡ laid_out capacity run None (epochs_of run) links

-- these are led, one by one, from the nodes of one layout
pub record IsRunOf (run : CutRun) (nodes : List NodeView) : Type 0 where
  pub capacity : ℕ
  pub starts : List NodeView
  pub laid : IsLayout capacity run starts
  pub led : AllZip IsLedFrom nodes starts
