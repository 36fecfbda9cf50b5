use Rattle.std.proofs.Common.{sym, subst}
use Rattle.std.proofs.lemmas.Result.{on_ok_weaker}
use Rattle.merge_log.specs.Log.{AreSets}
use Rattle.taint_shadow.specs.Places.{kept}
use Rattle.source_labels.specs.Laws.{node_laws}
use Rattle.epoch_summary.proofs.summary.Summary.end_terms_ahead.Goals as goal

pub returns-clause-ascending : goal.returns-clause-ascending
returns-clause-ascending c =
    let e = c.args.self.now in
    on_ok_weaker c.read_end.result (λ read. subst AreSets (sym read) (node_laws.of_label e.nodes (kept e.places c.args.loc) (e.standing.at c.args.loc c.requires.location))) c.read_end.ensures.read
