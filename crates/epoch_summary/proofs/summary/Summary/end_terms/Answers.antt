use Rattle.std.proofs.Common.{ap, sym, subst, ◌∙◌}
use Rattle.std.proofs.lemmas.Result.{on_ok_weaker}
use Rattle.source_labels.specs.Words.{node_words}
use Rattle.epoch_summary.proofs.summary.Summary.end_terms.Goals as goal

pub read-requires : goal.read-requires
read-requires c = subst (node_words.stands c.args.self.now.nodes) (sym c.get.ensures) (c.args.self.now.standing.at c.args.loc c.requires)

pub returns-clause-read : goal.returns-clause-read
returns-clause-read c = on_ok_weaker c.read.result (λ read. read ∙ ap (node_words.means c.args.self.now.nodes) c.get.ensures) c.read.ensures.read
