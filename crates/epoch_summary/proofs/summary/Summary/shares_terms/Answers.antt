use Rattle.std.proofs.Common.{arith, sym, ◌∙◌}
use Rattle.taint_shadow.proofs.Alike.{same_label}
use Rattle.epoch_summary.proofs.Named.{same_terms}
use Rattle.epoch_summary.proofs.summary.Summary.shares_terms.Goals as goal

pub returns-then-number-gt0-clause-shared : goal.returns-then-number-gt0-clause-shared
returns-then-number-gt0-clause-shared c = λ yes.
    let e = c.args.self.now in
    let this = c.index.result.now in
    let before = c.index-then-number-gt0.result.now in
    same_terms e.nodes e.sinks.items c.args.number _ this before c.requires (omega (arith, c.requires)) c.index.ensures c.index-then-number-gt0.ensures
    (same_label this.label before.label (sym c.eq.ensures ∙ yes))
