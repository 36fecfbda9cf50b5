use Rattle.std.proofs.Common.{◌≡◌, ◌++◌, drop, map, take}
use Rattle.summary_join.specs.Labels.{carried}
use Rattle.summary_join.proofs.epoch.carry_all.Given as goal

abbrev pub invariant-loop-place : goal.invariant-loop-place
invariant-loop-place l = l.labels.items ≡ map (carried l.cut l.table) (take l.place l.fn.labels.items) ++ drop l.place l.fn.labels.items
