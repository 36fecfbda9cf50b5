use Rattle.std.proofs.Common.{◌≡◌, false, sym, ◌∙◌, ap}
use Rattle.replay_model.specs.Run.{start}
use Rattle.replayer.specs.Jobs.{Job}
use Rattle.replayer.proofs.Parts.{agrees_at_start}
use Rattle.replayer.proofs.checker.first_divergence.Goals as goal

pub returns-in-Ok-clause-first : goal.returns-in-Ok-clause-first
returns-in-Ok-clause-first g c =
    let job : Job = record { start = c.args.machine.state; log = c.args.log.now } in
    let begun : c.start.result ≡ record { log = job.log; moment = start job.start job.log; waits = false } = c.start.ensures ∙ ap (λ w. record { log = job.log; moment = start job.start job.log; waits = w }) c.requires in
    sym (c.in-Ok.ensures.agrees job (agrees_at_start job c.start.result begun))

pub returns-in-Err-clause-first : goal.returns-in-Err-clause-first
returns-in-Err-clause-first g c =
    let job : Job = record { start = c.args.machine.state; log = c.args.log.now } in
    let begun : c.start.result ≡ record { log = job.log; moment = start job.start job.log; waits = false } = c.start.ensures ∙ ap (λ w. record { log = job.log; moment = start job.start job.log; waits = w }) c.requires in
    sym (c.in-Err.ensures.first job (agrees_at_start job c.start.result begun))
