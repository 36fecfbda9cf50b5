-- The rows of the epoch's sinks, which may be made after they are resolved.
use Rattle.std.specs.Prelude.{Bool, true, false, Option, Some, None, List}
use Rattle.flow_model.specs.declared.Loc.{Loc}
use Rattle.flow_model.specs.declared.SourceByte.{SourceByte}
use Rattle.report_model.specs.Rows.{Row}
use Rattle.epoch_model.specs.Join.{answer_to, rows_of}
use Rattle.epoch_summary.specs.declared.summary.Summary.{Summary}
use Rattle.pass_parts.specs.Known.{known}
use Rattle.forward_pass.specs.declared.rows.SinkRows.{SinkRows}
use Rattle.forward_pass.specs.declared.rows.SinkRows.TheVariants.{Unresolved, Due, Made}

-- the rows of an epoch with this summary that asked this and had these answers
abbrev pub rows_by : Option Summary → List Loc → List (List SourceByte) → List Row
rows_by s asked answers = rows_of (known s) (answer_to asked answers)

abbrev pub is_due : SinkRows → Bool
is_due Unresolved = false
is_due Due = true
is_due (Made rows) = false

-- the rows, once the sinks are resolved, where those that are due are these
abbrev pub rows_in : SinkRows → List Row → Option (List Row)
rows_in Unresolved due = None
rows_in Due due = Some due
rows_in (Made rows) due = Some rows
