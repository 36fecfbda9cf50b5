use Rattle.std.proofs.Common.{sym, subst}
use Rattle.source_labels.specs.Words.{node_words}
use Rattle.epoch_summary.proofs.summary.Summary.end_label.Goals as goal

pub returns-clause-stands : goal.returns-clause-stands
returns-clause-stands c = subst (node_words.stands c.args.self.now.nodes) (sym c.get.ensures) (c.args.self.now.standing.at c.args.loc c.requires)
