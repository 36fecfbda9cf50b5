use Rattle.std.proofs.Common.{◌≡◌, ◌++◌, vec_len}
use Rattle.epoch_turns.specs.Groups.{nodes_of}
use Rattle.epoch_turns.proofs.splitting.join.Given as goal

-- the nodes of the groups so far, and of the others
abbrev pub invariant-loop-group : goal.invariant-loop-group
invariant-loop-group g l = l.nodes.items ++ nodes_of l.groups.items ≡ nodes_of l.fn.groups.items

abbrev pub decreases-loop-group : goal.decreases-loop-group
decreases-loop-group g l = vec_len l.groups
