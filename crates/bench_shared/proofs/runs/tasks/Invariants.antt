use Rattle.std.proofs.Common.{◌≡◌, map, length}
use Rattle.std.specs.List.{range_with_len}
use Rattle.bench_shared.specs.declared.countdown.Countdown.{Countdown}
use Rattle.bench_shared.proofs.runs.tasks.Given as goal

abbrev pub invariant-loop-number : goal.invariant-loop-number
invariant-loop-number l = record {
  numbers : map (λ (task : Countdown). task.number) l.tasks.items ≡ range_with_len 0 l.number;
  count : length l.tasks.items ≡ l.number;
}
