use Rattle.std.proofs.Common.{refl, arith, sym}
use Rattle.std.proofs.lemmas.Result.{IfOk-weaker}
use Rattle.taint_shadow.proofs.Meaning.{makes_itself, unite_more, all_alike}
use Rattle.taint_shadow.proofs.mixing.unite_all.Goals as goal

pub returns-then-are_alike : goal.returns-then-are_alike
returns-then-are_alike g c =
    makes_itself g.A.Labels.words _ _ _ (record {
      stands = c.requires.at 0 (omega arith);
      means = sym (all_alike g.A.Labels.words g.met.A.Labels.laws _ c.args.lanes c.requires (c.if-are_alike.ensures refl));
    })

pub unite-requires-clause-left : goal.unite-requires-clause-left
unite-requires-clause-left g c = c.requires.at 2 (omega arith)

pub unite-requires-clause-right : goal.unite-requires-clause-right
unite-requires-clause-right g c = c.requires.at 3 (omega arith)

pub unite-requires-2-clause-left : goal.unite-requires-2-clause-left
unite-requires-2-clause-left g c = (c.in_ok-highest.ensures.keeps _ (c.requires.at 1 (omega arith))).stands

pub unite-requires-2-clause-right : goal.unite-requires-2-clause-right
unite-requires-2-clause-right g c = c.in_ok-highest.ensures.made.stands

pub unite-requires-3-clause-left : goal.unite-requires-3-clause-left
unite-requires-3-clause-left g c =
    let upper = unite_more g.A.Labels.words _ _ _ c.args.lanes.second _ _ _ (c.requires.at 1 (omega arith)) c.in_ok-highest.ensures c.in_ok-upper.ensures in
    (upper.keeps _ (c.requires.at 0 (omega arith))).stands

pub unite-requires-3-clause-right : goal.unite-requires-3-clause-right
unite-requires-3-clause-right g c = c.in_ok-upper.ensures.made.stands

pub returns : goal.returns
returns g c =
    let words = g.A.Labels.words in
    let upper = unite_more words _ _ _ c.args.lanes.second _ _ _ (c.requires.at 1 (omega arith)) c.in_ok-highest.ensures c.in_ok-upper.ensures in
    IfOk-weaker _ _ _ (λ label made. unite_more words _ _ _ c.args.lanes.first _ label _ (c.requires.at 0 (omega arith)) upper made) c.unite-3.ensures
