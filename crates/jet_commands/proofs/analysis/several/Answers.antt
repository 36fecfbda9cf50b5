use Rattle.std.proofs.Common.{ap, ◌∙◌}
use Rattle.jet_commands.specs.Texts.{reports_text}
use Rattle.jet_commands.proofs.Reporting.{rows-reports}
use Rattle.jet_commands.proofs.analysis.several.Goals as goal

pub returns-clause-text : goal.returns-clause-text
returns-clause-text c union trace is all = ap (reports_text 1) (c.in_ok-reports.ensures union trace is all) ∙ rows-reports 1 c.args.queries.now trace
