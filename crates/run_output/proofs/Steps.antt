-- One step more of a run.
use Rattle.std.proofs.Common.{◌≡◌, ℕ, suc, ◌+◌, ◌<◌, List, ap, sym, ◌∙◌, arith}
use Rattle.std.specs.Prelude.{Some}
use Rattle.log_model.specs.Logs.{steps}
use Rattle.flow_model.specs.declared.StepSeen.{StepSeen}
use Rattle.flow_model.specs.Origins.{step_at}
use Rattle.replay_model.specs.Run.{Moment, start, advance, step_of, moment_after}
use Rattle.replay_model.proofs.Offsets.{step_at_from, moment_later}
use Rattle.replayer.specs.Jobs.{Job, trace_of}
use Rattle.run_output.specs.Hints.{hint_of}
use Rattle.run_output.specs.Stack.{after_hint, calls_after}

abbrev pub moment_at : Job → ℕ → Moment
moment_at job t = moment_after t (start job.start job.log)

some_is : (a b : StepSeen) → Some a ≡ Some b → a ≡ b
some_is a b e = cc

pub calls_more : (job : Job) (t : ℕ) (step : StepSeen) (calls : List ℕ) → t < steps job.log → step_at (trace_of job) t ≡ Some step → calls ≡ calls_after job.start job.log t
    → after_hint (hint_of step.instr) (moment_at job t).state.pc (moment_at job (t + 1)).state.pc calls ≡ calls_after job.start job.log (t + 1)
calls_more job t step calls below at is =
    let m = moment_at job t in
    let same : step ≡ step_of m = some_is step (step_of m) (sym at ∙ step_at_from (steps job.log) t (start job.start job.log) below) in
    let next : t + 1 ≡ suc t = omega arith in
    ap (λ (s : StepSeen). after_hint (hint_of s.instr) m.state.pc (moment_at job (t + 1)).state.pc calls) same
    ∙ ap (λ (n : Moment). after_hint (hint_of (step_of m).instr) m.state.pc n.state.pc calls) (ap (moment_at job) next ∙ moment_later t (start job.start job.log))
    ∙ ap (after_hint (hint_of (step_of m).instr) m.state.pc (advance m).state.pc) is
    ∙ ap (calls_after job.start job.log) (sym next)
