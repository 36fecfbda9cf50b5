use Rattle.std.proofs.Common.{◌≤◌, arith}
use Rattle.log_model.specs.Logs.{steps}
use Rattle.jet_commands.proofs.Cutting.{few_of_beginning}
use Rattle.jet_commands.proofs.parts.part_for.Goals as goal

pub cuts_of_beginning-cuts-requires-clause-few : goal.cuts_of_beginning-cuts-requires-clause-few
cuts_of_beginning-cuts-requires-clause-few c =
    let p = c.args.pipeline in
    let log = c.args.log.now in
    let within : c.needed_steps-needed.result ≤ steps log = omega (arith, c.if-needed-steps_of.false, c.steps_of.ensures) in
    few_of_beginning p.epoch p.workers log c.needed_steps-needed.result c.requires.0 c.requires.1 c.requires.2 c.in_ok-whole.ensures.check within
