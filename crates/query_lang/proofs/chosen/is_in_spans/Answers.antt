use Rattle.std.proofs.Common.{◌≡◌, ◌∙◌, sym, arith, false, nat_lt}
use Rattle.std.proofs.lemmas.Bool.Decides.{nat_tests}
use Rattle.query_lang.proofs.SpanLemmas.{last_has, none_has}
use Rattle.query_lang.proofs.chosen.is_in_spans.Goals as goal

pub returns-then-started-gt0 : goal.returns-then-started-gt0
returns-then-started-gt0 c =
    c.has.ensures ∙ last_has c.args.spans.now c.args.channel c.args.offset c.count_started-started.result _ c.count_started-started.ensures.point c.requires c.if-started-gt0.true c.count_started-started.ensures.bound

pub returns-else-started-gt0 : goal.returns-else-started-gt0
returns-else-started-gt0 c =
    let none : nat_lt 0 c.count_started-started.result ≡ false = grind (arith, nat_tests) in
    none ∙ sym (none_has c.args.spans.now c.args.channel c.args.offset c.count_started-started.result c.count_started-started.ensures.point (omega arith))
