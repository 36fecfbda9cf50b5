use Rattle.std.proofs.Common.{◌<◌, ◌+◌, ◌*◌, get_or, arith, sym}
use Rattle.std.specs.Char.{digit_value}
use Rattle.std.proofs.lemmas.Grind.{common_steps}
use Rattle.std.proofs.lemmas.Bool.Decides.{nat_tests}
use Rattle.query_lang.proofs.NumberLemmas.{too_large, no_number}
use Rattle.query_lang.proofs.number.number_within.Goals as goal

pub returns-then-value-most : goal.returns-then-value-most
returns-then-value-most c =
    let large : c.args.most < c.loop-byte.value * 10 + digit_value (get_or c.args.word.now c.loop-byte.byte-index 0) = grind (arith, common_steps, nat_tests) in
    sym (no_number c.args.digits c.args.most c.args.word.now (too_large c.args.word.now c.loop-byte.byte-index c.loop-byte.value c.args.most c.loop-byte-test.true c.loop-byte.invariant.same large))
