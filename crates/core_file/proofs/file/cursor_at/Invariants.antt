use Rattle.std.proofs.Common.{◌≡◌}
use Rattle.core_file.proofs.file.cursor_at.Given as goal

abbrev pub invariant-loop-step : goal.invariant-loop-step
invariant-loop-step l = l.cursor ≡ record { job = l.job; time = l._step }
