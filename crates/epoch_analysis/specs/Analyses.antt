-- What contracts see of the analysis of an epoch, and what its turns do.
use Rattle.std.specs.Prelude.{◌≡◌, ℕ, Bool, true, false, refl}
use mathlib.Core.Path.{◌∙◌}
use Rattle.replayer.specs.Jobs.{trace_of}
use Rattle.report_model.specs.Query.{Query}
use Rattle.epoch_cut.specs.Numbered.{NumberedEpoch}
use Rattle.checkpoints.specs.Points.{CheckpointsAt}
use Rattle.epoch_summary.specs.declared.summary.Summary.{Summary}
use Rattle.epoch_analysis.specs.Epochs.{IsFound}

-- an epoch that is analysed for a query, from its checkpoint on, and whether the analysis has ended
pub record AnalysisView : Type 0 where
  pub points : CheckpointsAt
  pub query : Query
  pub epoch : NumberedEpoch
  pub ended : Bool

-- that of an epoch that hasn't begun
abbrev pub fresh : CheckpointsAt → Query → NumberedEpoch → AnalysisView
fresh points q epoch = record { points = points; query = q; epoch = epoch; ended = false }

abbrev pub number_of : AnalysisView → ℕ
number_of a = a.epoch.number

abbrev pub HasEnded : AnalysisView → Type 0
HasEnded a = a.ended ≡ true

-- this is what was found of its epoch
abbrev pub IsFoundBy : AnalysisView → Summary → Type 0
IsFoundBy a e = IsFound a.query (trace_of a.points.job) a.epoch e

-- ---- the same analysis, later

pub record IsSameAnalysis (new old : AnalysisView) : Type 0 where
  pub points : new.points ≡ old.points
  pub query : new.query ≡ old.query
  pub epoch : new.epoch ≡ old.epoch

pub same_refl : (a : AnalysisView) → IsSameAnalysis a a
same_refl a = record { points = refl; query = refl; epoch = refl }

pub same_trans : (a b c : AnalysisView) → IsSameAnalysis b a → IsSameAnalysis c b → IsSameAnalysis c a
same_trans a b c f g = record { points = g.points ∙ f.points; query = g.query ∙ f.query; epoch = g.epoch ∙ f.epoch }
