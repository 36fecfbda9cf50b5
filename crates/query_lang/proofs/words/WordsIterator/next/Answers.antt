use Rattle.std.proofs.Common.{◌≡◌, ◌<◌, length, arith, ap}
use Rattle.std.proofs.lemmas.Bool.Decides.{nat_tests}
use Rattle.query_lang.proofs.WordLemmas.{no_words, next_word}
use Rattle.query_lang.proofs.words.WordsIterator.next.Goals as goal

pub returns-then-is_empty-clause-steps : goal.returns-then-is_empty-clause-steps
returns-then-is_empty-clause-steps c =
    let empty : length c.split_at_blank.result.0.now ≡ 0 = grind (arith, nat_tests) in
    let none = no_words c.args.self.now.rest.now (rw (c.split_at_blank.ensures.word, c.without_blanks-text.ensures) at empty) in
    rw (c.split_at_blank.ensures.after, c.without_blanks-text.ensures) none

pub returns-else-is_empty-clause-steps : goal.returns-else-is_empty-clause-steps
returns-else-is_empty-clause-steps c =
    let some : 0 < length c.split_at_blank.result.0.now = grind (arith, nat_tests) in
    let next = next_word c.args.self.now.rest.now (rw (c.split_at_blank.ensures.word, c.without_blanks-text.ensures) at some) in
    rw (c.split_at_blank.ensures.word, c.split_at_blank.ensures.after, c.without_blanks-text.ensures) next

pub returns-else-is_empty-clause-goes : goal.returns-else-is_empty-clause-goes
returns-else-is_empty-clause-goes c =
    let next = returns-else-is_empty-clause-steps c in
    record { on = λ h. (tt, tt, omega (arith, ap length next)); keeps = tt; rests = λ h. tt }
