use Rattle.source_labels.specs.Words.{log_of}
use Rattle.backward_pass.proofs.Needs.{start_asked}
use Rattle.backward_pass.proofs.node_needs.NodeNeeds.ask.Goals as goal

pub returns-in-Start-clause-of_log : goal.returns-in-Start-clause-of_log
returns-in-Start-clause-of_log c =
    start_asked c.add_start.result (log_of c.args.nodes.now) c.args.asked.now c.add_start.new.asked c.in-Start.loc c.args.self.now.needs.items c.add_start.ensures.added c.add_start.ensures.err c.requires.of_log
