use Rattle.std.proofs.lemmas.Result.{on_ok_weaker}
use Rattle.path_find.proofs.Steps.{instruction_followed, call_followed}
use Rattle.path_find.proofs.trail.Trail.follow.Goals as goal

pub returns-in-None-clause-sound : goal.returns-in-None-clause-sound
returns-in-None-clause-sound c = on_ok_weaker c.follow_instruction.result (λ b. b.standing) c.follow_instruction.ensures

pub returns-in-Some-clause-sound : goal.returns-in-Some-clause-sound
returns-in-Some-clause-sound c = on_ok_weaker c.follow_call.result (λ b. b.standing) c.follow_call.ensures

pub returns-in-None-clause-followed : goal.returns-in-None-clause-followed
returns-in-None-clause-followed c = on_ok_weaker c.follow_instruction.result
    (λ b rule s trace at was. instruction_followed rule s trace c.args.step.now c.args.self.now c.follow_instruction.new.nodes c.follow_instruction.new.carriers c.requires.in_range c.in-None.is at was b)
    c.follow_instruction.ensures

pub returns-in-Some-clause-followed : goal.returns-in-Some-clause-followed
returns-in-Some-clause-followed c = on_ok_weaker c.follow_call.result
    (λ b rule s trace at was. call_followed rule s trace c.args.step.now c.in-Some.call c.args.self.now c.follow_call.new.nodes c.follow_call.new.carriers c.in-Some.is at was b)
    c.follow_call.ensures
