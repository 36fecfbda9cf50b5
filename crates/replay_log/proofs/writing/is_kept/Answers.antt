use Rattle.std.proofs.Common.{arith}
use Rattle.replay_log.proofs.KeptCalls.{read_kept}
use Rattle.replay_log.proofs.writing.is_kept.Goals as goal

pub returns-else-len-eq0 : goal.returns-else-len-eq0
returns-else-len-eq0 c = read_kept c.args.inputs c.args.call.now c.in-Read.at c.in-Read.args _ c.in-Read.bytes c.in-Read.is (omega (arith, c.if-len-eq0.false, c.len.ensures))
