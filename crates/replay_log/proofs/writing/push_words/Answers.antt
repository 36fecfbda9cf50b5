use Rattle.std.proofs.Common.{get_or}
use Rattle.std.proofs.lemmas.List.{get_or_default}
use Rattle.log_model.specs.Logs.{word32}
use Rattle.replay_log.proofs.Joined.{next_text}
use Rattle.replay_log.proofs.writing.push_words.Goals as goal

pub loop-word-preserved : goal.loop-word-preserved
loop-word-preserved c =
    let words = c.args.words.now in
    let i = c.loop-word.word-index in
    let word = get_or words i 0 in
    next_text word32 words i word c.args.out.now.items c.loop-word.out.items c.push_word.new.out.items
    c.loop-word-test.true (get_or_default words i 0 word c.loop-word-test.true) c.loop-word.invariant c.in_ok-push_word.ensures
