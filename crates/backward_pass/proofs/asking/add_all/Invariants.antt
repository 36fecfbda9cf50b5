use Rattle.std.proofs.Common.{◌≡◌, take}
use Rattle.epoch_model.specs.Crossing.{added_all}
use Rattle.backward_pass.proofs.asking.add_all.Given as goal

abbrev pub invariant-loop-start : goal.invariant-loop-start
invariant-loop-start l = l.asked ≡ added_all l.fn.asked (take l.start-index l.starts)
