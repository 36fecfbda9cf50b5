-- One who was told of plain steps in a row. Crates above cite this lemma.
use Rattle.std.proofs.Common.{ℕ, ◌≤◌, arith}
use Rattle.rv_machine.specs.Running.{Tells, Wants}
use Rattle.replayer.specs.Jobs.{Job}
use Rattle.replayer.specs.Told.{AreTold, NoneYet, OneMore}

-- the run went on by them
pub went_on : {W : Type 0} {told : Tells W} {wants : Wants W} {job : Job} {first : ℕ} {was : W} {t : ℕ} {now : W} → AreTold told wants job first was t now → first ≤ t
went_on NoneYet = omega arith
went_on (OneMore t w step next so_far wanted fits at does) = let before = went_on so_far in omega (arith, before)
