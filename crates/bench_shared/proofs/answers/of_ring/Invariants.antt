use Rattle.std.proofs.Common.{◌≡◌}
use Rattle.bench_shared.proofs.answers.of_ring.Given as goal

abbrev pub invariant-loop-call : goal.invariant-loop-call
invariant-loop-call g l = l.producer.link ≡ l.consumer.link
