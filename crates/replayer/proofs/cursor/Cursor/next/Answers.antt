use Rattle.std.proofs.Common.{ℕ, ◌<◌, arith, ap, sym, ◌∙◌, subst}
use Rattle.log_model.specs.Logs.{steps}
use Rattle.rv_machine.specs.declared.Stepped.TheVariants.{Plain}
use Rattle.replay_run.specs.Runs.{RunAt, hart_of, with_hart, later_by_one, IsLater, IsReady, IsFinished}
use Rattle.replay_run.proofs.Steps.{numbered}
use Rattle.replayer.proofs.Stepping.{cursor_ready, cursor_moves, cursor_step, plain_made}
use Rattle.replayer.proofs.cursor.Cursor.next.Goals as goal

-- ---- a plain step

pub advance-requires-clause-later : goal.advance-requires-clause-later
advance-requires-clause-later c =
    let run = c.self.inside.run in
    let within = c.self.invariant.stands.within in
    let below : run.moment.time < steps c.self.inside.job.now.log = omega arith in
    let can = cursor_ready c.self.inside.job.now run c.self.invariant c.form.ensures below (Plain c.in-Plain.instr c.in-Plain.place) (hart_of c.step_inlined.new.self) c.in-Plain.ensures.step in
    subst (λ (r : RunAt). IsLater r.moment.time r.moment.left) (sym c.in-Plain.ensures.rest) can.2

pub invariant_of-self : goal.invariant_of-self
invariant_of-self c =
    let run = c.self.inside.run in
    let within = c.self.invariant.stands.within in
    let below : run.moment.time < steps c.self.inside.job.now.log = omega arith in
    let counted = c.advance.ensures ∙ ap later_by_one c.in-Plain.ensures.rest in
    (plain_made c.self.inside.job.now run c.advance.new.self (hart_of c.step_inlined.new.self) c.in-Plain.instr c.in-Plain.place c.time-number.result c.self.invariant below c.in-Plain.ensures.step c.time-number.ensures counted).cursor

pub returns-in-Plain : goal.returns-in-Plain
returns-in-Plain c =
    let run = c.self.inside.run in
    let within = c.self.invariant.stands.within in
    let below : run.moment.time < steps c.self.inside.job.now.log = omega arith in
    let counted = c.advance.ensures ∙ ap later_by_one c.in-Plain.ensures.rest in
    rw (← c.self.view_is) (plain_made c.self.inside.job.now run c.advance.new.self (hart_of c.step_inlined.new.self) c.in-Plain.instr c.in-Plain.place c.time-number.result c.self.invariant below c.in-Plain.ensures.step c.time-number.ensures counted).step

-- ---- a call

pub finish-requires-clause-ready : goal.finish-requires-clause-ready
finish-requires-clause-ready c =
    let run = c.self.inside.run in
    let within = c.self.invariant.stands.within in
    let below : run.moment.time < steps c.self.inside.job.now.log = omega arith in
    let can = cursor_ready c.self.inside.job.now run c.self.invariant c.form.ensures below c.step_inlined.result (hart_of c.step_inlined.new.self) c.step_inlined.ensures.step in
    subst (λ (r : RunAt). IsReady r c.step_inlined.result) (sym c.step_inlined.ensures.rest) can

pub invariant_of-self-in_default : goal.invariant_of-self-in_default
invariant_of-self-in_default c =
    let run = c.self.inside.run in
    let job = c.self.inside.job.now in
    let within = c.self.invariant.stands.within in
    let below : run.moment.time < steps job.log = omega arith in
    let hart = hart_of c.step_inlined.new.self in
    let finished = subst (λ (r : RunAt). IsFinished r.moment c.step_inlined.result c.finish.result c.finish.new.self.moment) c.step_inlined.ensures.rest c.finish.ensures.finished in
    let same_log = c.finish.ensures.rest.0 ∙ ap (λ (r : RunAt). r.log) c.step_inlined.ensures.rest in
    cursor_moves job run c.self.invariant below c.step_inlined.result hart c.step_inlined.ensures.step c.finish.new.self c.finish.result finished same_log c.finish.ensures.rest.1

pub returns-in_default : goal.returns-in_default
returns-in_default c =
    let run = c.self.inside.run in
    let job = c.self.inside.job.now in
    let within = c.self.invariant.stands.within in
    let below : run.moment.time < steps job.log = omega arith in
    let hart = hart_of c.step_inlined.new.self in
    let finished = subst (λ (r : RunAt). IsFinished r.moment c.step_inlined.result c.finish.result c.finish.new.self.moment) c.step_inlined.ensures.rest c.finish.ensures.finished in
    let n = numbered (with_hart run hart).moment c.step_inlined.result c.finish.result c.finish.new.self.moment finished in
    rw (← c.self.view_is) (record {
      below = below;
      step = cursor_step job run c.self.invariant below c.step_inlined.result hart c.step_inlined.ensures.step c.finish.new.self c.finish.result finished;
      number = n.number;
      moved = ap (λ (t : ℕ). record { job = job; time = t }) n.time;
      in_range = c.finish.ensures.in_range;
    })
