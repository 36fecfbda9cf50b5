use Rattle.epoch_summary.proofs.Named.{nth}
use Rattle.epoch_summary.proofs.summary.Summary.sink.Goals as goal

pub returns : goal.returns
returns c =
    let e = c.args.self.now in
    nth (λ k. k.name) e.nodes e.sinks.items c.args.number c.index.result.now c.requires c.index.ensures
