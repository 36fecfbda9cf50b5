-- The rows of a run's beginning.
use Rattle.std.proofs.Common.{◌∙◌, ap, arith}
use Rattle.replay_model.specs.Run.{trace}
use Rattle.report_model.specs.Rows.{rows}
use Rattle.report_model.specs.Needed.{RowsOfBeginning}
use Rattle.run_beginning.specs.NeedLaws.{LogTellsNeed}
use Rattle.run_beginning.specs.BeginningLaws.{BeginningHasRows}
use Rattle.run_beginning.proofs.Moments.{beginning_of_trace}

pub beginning_has_rows : RowsOfBeginning → LogTellsNeed → BeginningHasRows
beginning_has_rows same_rows told q start log n form agrees within enough =
    let need = told q start log form agrees in
    ap (rows q) (beginning_of_trace start log n form agrees within)
    ∙ same_rows q (trace start log) n (omega (arith, need, enough))
