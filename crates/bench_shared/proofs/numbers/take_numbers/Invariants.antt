use Rattle.std.proofs.Common.{◌≡◌}
use Rattle.bench_shared.proofs.numbers.take_numbers.Given as goal

abbrev pub invariant-loop : goal.invariant-loop
invariant-loop l = l.consumer.link ≡ l.fn.consumer.link
