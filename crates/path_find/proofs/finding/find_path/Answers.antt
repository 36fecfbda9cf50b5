use Rattle.std.proofs.lemmas.Result.{IfOk-weaker}
use Rattle.path_find.proofs.finding.find_path.Goals as goal

pub returns : goal.returns
returns c =
    let seen = c.in_ok-watch.ensures c.args.rule c.args.pair c.new-watching.ensures in
    IfOk-weaker c.finish.result _ _ (λ found h. h c.args.rule c.args.pair seen) c.finish.ensures
