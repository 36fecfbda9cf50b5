use Rattle.std.proofs.Common.{refl}
use Rattle.replay_log.proofs.records.arguments_of.Goals as goal

pub returns : goal.returns
returns c = rw (c.word_at.ensures, c.word_at-2.ensures, c.word_at-3.ensures) refl
