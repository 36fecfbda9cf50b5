use Rattle.std.proofs.Common.{List, sym, subst}
use Rattle.std.specs.Prelude.{◌≡◌, IfOk}
use Rattle.report_model.specs.Rows.{Row, row_cmp}
use Rattle.lists.specs.Sets.{set_of}
use Rattle.sink_collect.specs.Distinct.{AreDistinct}
use Rattle.run_query.proofs.answer.report_of.Goals as goal

pub gather-requires : goal.gather-requires
gather-requires c = subst AreDistinct (sym c.requires) c.rows_are_distinct.ensures

pub returns : goal.returns
returns c = subst (λ (rs : List Row). IfOk c.gather.result (λ report. report ≡ set_of row_cmp rs)) c.requires c.gather.ensures
