use Rattle.std.proofs.Common.{◌≡◌, ℕ, Bool, true, false, get_or, arith, rules}
use Rattle.std.specs.Prelude.{nat_lt}
use Rattle.std.specs.List.Sorted.{IsPartitionPoint}
use Rattle.std.proofs.lemmas.Bool.{ltb-true, ltb-false}
use Rattle.std.proofs.lemmas.List.Sorted.{IsPartitionPoint-from_clause, IsPartitionedBy-ltb}
use Rattle.sink_collect.proofs.places.count_before.Goals as goal
use Rattle.sink_collect.proofs.places.count_before.Goals.{After-partition_point}

abbrev comes_before : ℕ → ℕ → Bool
comes_before place other = nat_lt other place

parted : (c : After-partition_point)
    → IsPartitionPoint (λ y. comes_before c.args.place y ≡ true) (λ y. comes_before c.args.place y ≡ false) c.args.places.now c.partition_point.result
parted c =
    IsPartitionPoint-from_clause (comes_before c.args.place) c.args.places.now c.partition_point.result c.partition_point.ensures.partitioned
    (IsPartitionedBy-ltb (λ y. y) c.args.places.now c.args.place c.requires) (λ a r q k. search rules)

pub returns-clause-before : goal.returns-clause-before
returns-clause-before c = λ k low. ltb-true (get_or c.args.places.now k 0) c.args.place ((parted c).0 k 0 (omega arith) low)

pub returns-clause-after : goal.returns-clause-after
returns-clause-after c = λ k low high. ltb-false (get_or c.args.places.now k 0) c.args.place ((parted c).1 k 0 low high)
