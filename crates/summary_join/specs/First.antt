-- What is known of the first epoch of a run: nothing came from before it.
use Rattle.std.specs.Prelude.{◌≡◌, ℕ, List, map}
use Rattle.flow_model.specs.declared.Loc.{Loc}
use Rattle.flow_model.specs.declared.SourceByte.{SourceByte}
use Rattle.flow_model.specs.declared.StepSeen.{StepSeen}
use Rattle.flow_model.specs.Origins.{origins}
use Rattle.flow_model.specs.Ranges.{IsLocation}
use Rattle.report_model.specs.Query.{Query, policy_of}
use Rattle.report_model.specs.Rows.{Row, row}
use Rattle.epoch_model.specs.Stretch.{sinks_of_epoch}
use Rattle.taint_shadow.specs.declared.places.Places.{Places}
use Rattle.taint_shadow.specs.declared.labels.SinkLabel.{SinkLabel}
use Rattle.taint_shadow.specs.Places.{kept}
use Rattle.source_labels.specs.declared.labels.SourceLabels.{SourceLabels}
use Rattle.source_labels.specs.Words.{label_words}
use Rattle.labelled_sinks.specs.Rows.{row_by}
use Rattle.summary_join.specs.declared.first.FirstEpoch.{FirstEpoch}

-- the source bytes that each location has at the epoch's end came from, and the rows of the epoch
pub record FirstFound : Type 0 where
  pub ends : Loc → List SourceByte
  pub rows : List Row

-- that is what the first n steps of a trace come to
pub record IsFirstFound (q : Query) (trace : List StepSeen) (n : ℕ) (e : FirstFound) : Type 0 where
  pub ends : (l : Loc) → IsLocation l → e.ends l ≡ origins (policy_of q) trace n l
  pub rows : e.rows ≡ map (row q trace) (sinks_of_epoch q trace 0 n)

-- what locations and sinks with these labels come to
abbrev pub found_by : SourceLabels → Places → List SinkLabel → FirstFound
found_by labels places sinks = record { ends = λ l. label_words.means labels (kept places l); rows = map (row_by labels) sinks }

-- what was found of an epoch
abbrev pub found_of : FirstEpoch → FirstFound
found_of e = found_by e.labels e.places e.sinks.items
