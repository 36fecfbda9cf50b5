use Rattle.std.proofs.Common.{◌∷◌, ◌++◌}
use Rattle.lists.proofs.Lists.{append-twice}
use Rattle.log_model.specs.Logs.{word32, word64}
use Rattle.replay_log.proofs.writing.push_end.Goals as goal

pub returns-in_ok-push_word-in-Exit : goal.returns-in_ok-push_word-in-Exit
returns-in_ok-push_word-in-Exit c = rw c.in-Exit.is (append-twice c.args.out.now.items (5 ∷ word64 c.in-Exit.at) (word32 c.in-Exit.code) _ _ c.in_ok-push_start-in-Exit.ensures c.in_ok-push_word-in-Exit.ensures)

pub returns-in_ok-push_word-in-Trap-2 : goal.returns-in_ok-push_word-in-Trap-2
returns-in_ok-push_word-in-Trap-2 c =
    let start = 6 ∷ word64 c.in-Trap.at in
    let kind = word32 c.in-Trap.kind in
    let first = append-twice c.args.out.now.items start kind _ _ c.in_ok-push_start-in-Trap.ensures c.in_ok-push_word-in-Trap.ensures in
    rw c.in-Trap.is (append-twice c.args.out.now.items (start ++ kind) (word32 c.in-Trap.pc) _ _ first c.in_ok-push_word-in-Trap-2.ensures)
