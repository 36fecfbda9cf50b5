use Rattle.std.proofs.Common.{ap, sym, ◌∙◌}
use Rattle.source_runs.specs.Runs.{bytes_of}
use Rattle.source_runs.proofs.Bytes.{hull_is}
use Rattle.source_runs.proofs.runs.SourceRun.joined.Goals as goal

pub returns-then-touches-clause-joined : goal.returns-then-touches-clause-joined
returns-then-touches-clause-joined c = ap bytes_of c.hull.ensures ∙ hull_is c.args.self c.args.other (sym c.touches.ensures ∙ c.if-touches.true)
