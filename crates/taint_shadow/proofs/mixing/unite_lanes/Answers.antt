use Rattle.std.proofs.Common.{arith}
use Rattle.taint_shadow.proofs.Meaning.{keeps_then}
use Rattle.taint_shadow.proofs.mixing.unite_lanes.Goals as goal

pub unite-requires-clause-left : goal.unite-requires-clause-left
unite-requires-clause-left g c = c.requires.one.at 0 (omega arith)

pub unite-requires-2-clause-left : goal.unite-requires-2-clause-left
unite-requires-2-clause-left g c = c.requires.one.at 0 (omega arith)

pub unite-requires-4-clause-left : goal.unite-requires-4-clause-left
unite-requires-4-clause-left g c =
    let two = keeps_then g.A.Labels.words _ _ _ c.in_ok-first.ensures.keeps c.in_ok-second.ensures.keeps in
    (two c.args.one.third (c.requires.one.at 2 (omega arith))).stands

pub unite-requires-5-clause-left : goal.unite-requires-5-clause-left
unite-requires-5-clause-left g c =
    let words = g.A.Labels.words in
    let three = keeps_then words _ _ _ (keeps_then words _ _ _ c.in_ok-first.ensures.keeps c.in_ok-second.ensures.keeps) c.in_ok-third.ensures.keeps in
    (three c.args.one.fourth (c.requires.one.at 3 (omega arith))).stands
