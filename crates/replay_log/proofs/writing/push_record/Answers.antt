use Rattle.std.proofs.Common.{◌∷◌}
use Rattle.lists.proofs.Lists.{append-twice}
use Rattle.log_model.specs.Logs.{word32, word64}
use Rattle.replay_log.proofs.writing.push_record.Goals as goal

pub returns-in_ok-extend_from_slice-in-Clock : goal.returns-in_ok-extend_from_slice-in-Clock
returns-in_ok-extend_from_slice-in-Clock c = rw c.in-Clock.is (append-twice c.args.out.now.items (3 ∷ word64 c.in-Clock.at) (word64 c.in-Clock.value) _ _ c.in_ok-push_start-in-Clock.ensures (rw c.to_le_bytes.ensures at c.in_ok-extend_from_slice-in-Clock.ensures.items))

pub returns-in_ok-push_word-in-Other : goal.returns-in_ok-push_word-in-Other
returns-in_ok-push_word-in-Other c = rw c.in-Other.is (append-twice c.args.out.now.items (4 ∷ word64 c.in-Other.at) (word32 c.in-Other.number) _ _ c.in_ok-push_start-in-Other.ensures c.in_ok-push_word-in-Other.ensures)
