use Rattle.std.proofs.Common.{◌≤◌, ◌-◌, vec_len}
use Rattle.std.specs.List.{AllByRecursion}
use Rattle.memory_outside.specs.FilesRoom.{IsSpare}
use Rattle.memory_outside.proofs.files.all_spares.Given as goal

abbrev pub invariant-loop-alloc : goal.invariant-loop-alloc
invariant-loop-alloc l = record { few : vec_len l.files ≤ 8; spare : AllByRecursion (IsSpare l.room) l.files.items }

abbrev pub decreases-loop-alloc : goal.decreases-loop-alloc
decreases-loop-alloc l = 8 - vec_len l.files
