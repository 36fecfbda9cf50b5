use Rattle.std.proofs.Common.{◌≡◌, ◌+◌, ◌-◌, ap, arith}
use Rattle.source_runs.specs.Runs.{bytes_from}
use Rattle.source_ranges.proofs.runs.range_of.Goals as goal

pub returns-then-run : goal.returns-then-run
returns-then-run c =
    let run = c.args.run in
    let none : run.last + 1 - run.first ≡ 0 = omega (arith, c.if-run.true) in
    ap (bytes_from run.channel run.first) none
