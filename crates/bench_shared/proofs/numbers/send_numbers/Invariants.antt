use Rattle.std.proofs.Common.{◌≡◌}
use Rattle.bench_shared.proofs.numbers.send_numbers.Given as goal

abbrev pub invariant-loop : goal.invariant-loop
invariant-loop l = l.producer.link ≡ l.fn.producer.link
