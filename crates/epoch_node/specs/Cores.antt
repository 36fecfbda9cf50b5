-- What contracts see of a core.
use Rattle.std.specs.Prelude.{◌≡◌, ℕ, ◌≤◌, Bool, true, false, Some, slice_get, List, []}
use Rattle.log_model.specs.Logs.{steps}
use Rattle.flow_model.specs.declared.Loc.{Loc}
use Rattle.report_model.specs.Query.{Query}
use Rattle.epoch_cut.specs.Numbered.{NumberedEpoch}
use Rattle.checkpoints.specs.Points.{CheckpointsAt}
use Rattle.backward_pass.specs.Backward.{BackView, back_of}
use Rattle.forward_pass.specs.Forward.{ForeView, fore_of}
use Rattle.epoch_node.specs.declared.stage.Phase.{Phase}
use Rattle.epoch_node.specs.declared.stage.Phase.TheVariants as phase
use Rattle.epoch_node.specs.declared.stage.Stage.{Stage}
use Rattle.epoch_node.specs.declared.stage.Stage.TheVariants as stage
use Rattle.epoch_node.specs.declared.node_core.Core.{Core}

-- what a core is given, which no event changes: the checkpoints of the job, the query, its epoch, and whether it is the
-- first or the last
pub record CoreSetup : Type 0 where
  pub points : CheckpointsAt
  pub query : Query
  pub epoch : NumberedEpoch
  pub first : Bool
  pub last : Bool

-- the phase, with what a core has then
pub data StageView : Type 0 where
  Fresh : NumberedEpoch → StageView
  Asking : BackView → StageView
  Answering : ForeView → StageView
  Done : ForeView → StageView
  Between : StageView

pub record CoreView : Type 0 where
  pub setup : CoreSetup
  pub stage : StageView
  -- how many events moved. The count stands still at 2 ^ 64 - 1
  pub events : ℕ

abbrev pub stage_of : Stage → StageView
stage_of (stage.Fresh t) = Fresh t
stage_of (stage.Asking b) = Asking (back_of b)
stage_of (stage.Answering f) = Answering (fore_of f)
stage_of (stage.Done f) = Done (fore_of f)
stage_of stage.Between = Between

abbrev pub core_of : {G : Type 0} → Core G → CoreView
core_of c = record {
  setup = record {
    points = c.start.value;
    query = c.query.now;
    epoch = record { number = c.number; first = c.first_step; past_last = c.past_last };
    first = c.first;
    last = c.last;
  };
  stage = stage_of c.stage.value;
  events = c.events;
}

abbrev pub phase_of : StageView → Phase
phase_of (Fresh t) = phase.Fresh
phase_of (Asking b) = phase.Asking
phase_of (Answering f) = phase.Answering
phase_of (Done f) = phase.Done
phase_of Between = phase.Done

-- the links of the phase are those of the asks, and not those of the answers
abbrev pub uses_asks : Phase → Bool
uses_asks phase.Fresh = true
uses_asks phase.Asking = true
uses_asks phase.Answering = false
uses_asks phase.Done = false

abbrev pub new_core : CoreSetup → CoreView
new_core i = record { setup = i; stage = Fresh i.epoch; events = 0 }

-- there is a checkpoint where the epoch begins, and the run has the steps of the epoch
pub record CanStart (points : CheckpointsAt) (epoch : NumberedEpoch) : Type 0 where
  pub begins : slice_get points.times epoch.number ≡ Some epoch.first
  pub ends : epoch.past_last ≤ steps points.job.log

-- no growth was refused, and no End came that is not whole
abbrev pub whole_at : StageView → Bool
whole_at (Fresh t) = true
whole_at (Asking b) = b.whole
whole_at (Answering f) = f.whole
whole_at (Done f) = f.whole
whole_at Between = false

-- what is asked so far. A pass that is broken forgets what it asked
abbrev pub asked_at : StageView → List Loc
asked_at (Fresh t) = []
asked_at (Asking b) = b.asked
asked_at (Answering f) = f.asked
asked_at (Done f) = f.asked
asked_at Between = []
