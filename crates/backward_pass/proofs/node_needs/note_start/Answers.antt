use Rattle.backward_pass.proofs.Walks.{start_only}
use Rattle.backward_pass.proofs.node_needs.note_start.Goals as goal

pub returns-in_ok-push-in-Start-clause-only : goal.returns-in_ok-push-in-Start-clause-only
returns-in_ok-push-in-Start-clause-only c =
    start_only c.args.log.now c.args.node c.in-Start.loc c.args.starts.now.items c.push.new.self.items c.in-Start.ensures.at c.in_ok-push-in-Start.ensures.items
