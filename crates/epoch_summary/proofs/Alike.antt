-- Locations and labels that test as equal are the same, and so the place at which a set of locations has one is its place.
use Rattle.std.proofs.Common.{◌≡◌, Bool, true, arith}
use Rattle.std.proofs.lemmas.Grind.{common_steps}
use Rattle.flow_model.specs.declared.Loc.{Loc}
use Rattle.flow_model.specs.declared.Loc.TheVariants.{Reg, Mem}
use Rattle.flow_model.specs.contracts.LocPartialEq.TheImpl as test

-- the derived test
abbrev pub alike : Loc → Loc → Bool
alike = test.eq-value.it

pub alike_same : (l m : Loc) → alike l m ≡ true → l ≡ m
alike_same (Reg r i) (Reg s j) h = grind (arith, common_steps)
alike_same (Mem p) (Mem q) h = grind (arith, common_steps)
alike_same l m h = cc
