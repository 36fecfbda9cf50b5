use Rattle.std.proofs.Common.{◌≡◌, ℕ, false, None, Some, ap, sym, ◌∙◌, subst}
use Rattle.log_model.specs.Logs.{Log}
use Rattle.replay_model.specs.Run.{advance}
use Rattle.replay_model.specs.Comparison.{at_step}
use Rattle.replay_run.specs.Runs.{RunAt, hart_of, IsReady, IsFinished}
use Rattle.replay_run.specs.Expects.{expected_of}
use Rattle.replay_run.proofs.Steps.{before_end, ready, done, run_is}
use Rattle.replayer.specs.Differences.{compared_of}
use Rattle.replayer.proofs.Checking.{formed, end_expected, none_left, step_left, last_left, end_due, difference_is}
use Rattle.replayer.specs.Watching.{IsTold}
use Rattle.replayer.proofs.Watching.{told_one}
use Rattle.replayer.proofs.check.check_step.Goals as goal

pub step-requires-clause-form : goal.step-requires-clause-form
step-requires-clause-form g c = formed c.args.run.now (expected_of c.expected-expected.result) c.form.ensures c.expected-expected.ensures

pub returns-in-Err-clause-checked : goal.returns-in-Err-clause-checked
returns-in-Err-clause-checked g c =
    let r = c.args.run.now in
    let inputs = c.inputs-inputs.ensures ∙ ap (λ (l : Log). l.inputs) c.log.ensures in
    record {
      first = compared_of c.in-Err.difference;
      differs = difference_is r.log r.moment c.inputs-inputs.result (expected_of c.expected-expected.result) (Some (compared_of c.in-Err.difference)) inputs c.expected-expected.ensures (sym c.is_limit.ensures ∙ c.if-is_limit.false) c.in-Err.ensures.first;
      divergence = c.at_step.ensures ∙ ap (λ (t : ℕ). at_step t (compared_of c.in-Err.difference)) c.time-time.ensures;
    }

pub finish-step-requires-clause-ready : goal.finish-step-requires-clause-ready
finish-step-requires-clause-ready g c =
    let r = c.args.run.now in
    let inputs = c.inputs-inputs.ensures ∙ ap (λ (l : Log). l.inputs) c.log.ensures in
    let no_limit = sym c.is_limit.ensures ∙ c.if-is_limit.false in
    let agrees = difference_is r.log r.moment c.inputs-inputs.result (expected_of c.expected-expected.result) None inputs c.expected-expected.ensures no_limit c.in-Ok.ensures.first in
    let below = step_left r c.expected-expected.result c.form.ensures c.expected-expected.ensures c.requires.not_over no_limit (sym c.is_trap.ensures ∙ c.if-is_trap.false) in
    subst (λ (x : RunAt). IsReady x c.in-Ok.stepped) (sym c.in-Ok.ensures.rest) (ready r c.in-Ok.stepped (hart_of c.step.new.run) c.form.ensures below agrees c.in-Ok.ensures.step)

pub returns-in-End-clause-checked : goal.returns-in-End-clause-checked
returns-in-End-clause-checked g c =
    let r = c.args.run.now in
    let inputs = c.inputs-inputs.ensures ∙ ap (λ (l : Log). l.inputs) c.log.ensures in
    record {
      agrees = difference_is r.log r.moment c.inputs-inputs.result (expected_of c.expected-expected.result) None inputs c.expected-expected.ensures (sym c.is_limit.ensures ∙ c.if-is_limit.false) c.in-Ok.ensures.first;
      late = end_due r.log r.moment (expected_of c.expected-expected.result) c.in-End.field-0 c.expected-expected.ensures (ap expected_of c.in-End.is);
    }

pub returns-in-End-clause-told : goal.returns-in-End-clause-told
returns-in-End-clause-told g c =
    let r = c.args.run.now in
    let hart = hart_of c.step.new.run in
    let no_limit = sym c.is_limit.ensures ∙ c.if-is_limit.false in
    let below = step_left r c.expected-expected.result c.form.ensures c.expected-expected.ensures c.requires.not_over no_limit (sym c.is_trap.ensures ∙ c.if-is_trap.false) in
    let one = last_left r c.in-End.field-0 (sym (ap expected_of c.in-End.is) ∙ c.expected-expected.ensures) c.requires.not_over below in
    let finished = subst (λ (x : RunAt). IsFinished x.moment c.in-Ok.stepped c.finish-step.result c.finish-step.new.self.moment) c.in-Ok.ensures.rest c.finish-step.ensures.finished in
    let same_log : c.finish-step.new.self.log ≡ r.log = c.finish-step.ensures.rest.0 ∙ ap (λ (x : RunAt). x.log) c.in-Ok.ensures.rest in
    subst (λ (n : ℕ). IsTold g.W.Watcher.seen r n c.args.watcher.now c.step-2.new.self) (sym one)
    (told_one g.W.Watcher.seen r c.finish-step.new.self c.in-Ok.stepped hart c.finish-step.result c.args.watcher.now c.step-2.new.self c.in-Ok.ensures.step finished same_log c.step-2.ensures)

pub returns-in_default : goal.returns-in_default
returns-in_default g c =
    let r = c.args.run.now in
    let hart = hart_of c.step.new.run in
    let inputs = c.inputs-inputs.ensures ∙ ap (λ (l : Log). l.inputs) c.log.ensures in
    let agrees = difference_is r.log r.moment c.inputs-inputs.result (expected_of c.expected-expected.result) None inputs c.expected-expected.ensures (sym c.is_limit.ensures ∙ c.if-is_limit.false) c.in-Ok.ensures.first in
    let early = before_end r c.form.ensures (none_left r.log r.moment (expected_of c.expected-expected.result) c.expected-expected.ensures (λ e h. c.in_default.not-End e (end_expected c.expected-expected.result e h))) in
    let finished = subst (λ (x : RunAt). IsFinished x.moment c.in-Ok.stepped c.finish-step.result c.finish-step.new.self.moment) c.in-Ok.ensures.rest c.finish-step.ensures.finished in
    let made = done r.moment c.in-Ok.stepped hart c.finish-step.result c.finish-step.new.self.moment c.in-Ok.ensures.step finished in
    let same_log : c.finish-step.new.self.log ≡ r.log = c.finish-step.ensures.rest.0 ∙ ap (λ (x : RunAt). x.log) c.in-Ok.ensures.rest in
    record {
      checked = record { agrees = agrees; early = early; moved = run_is c.finish-step.new.self r.log (advance r.moment) false same_log made.moved c.finish-step.ensures.rest.1 };
      told = told_one g.W.Watcher.seen r c.finish-step.new.self c.in-Ok.stepped hart c.finish-step.result c.args.watcher.now c.step-2.new.self c.in-Ok.ensures.step finished same_log c.step-2.ensures;
    }
