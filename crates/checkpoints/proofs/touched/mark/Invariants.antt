use Rattle.std.proofs.Common.{◌≡◌, ℕ, ◌/◌, length}
use Rattle.std.specs.Prelude.{◌||◌, ◌&&◌, nat_le, nat_lt}
use Rattle.checkpoints.specs.Touched.{is_touched}
use Rattle.checkpoints.proofs.touched.mark.Given as goal

-- the flags of the pages so far are set
abbrev pub invariant-loop-page : goal.invariant-loop-page
invariant-loop-page l = record {
  count : length l.flags.items ≡ length l.fn.flags.items;
  each : (place : ℕ) → is_touched l.flags.items place ≡ (is_touched l.fn.flags.items place || (nat_le (l.fn.first / 4096) place && nat_lt place l.page));
}
