use Rattle.std.proofs.Common.{arith, ℕ, ◌++◌, List, Result, Ok, Err}
use Rattle.std.specs.Prelude.{OnErr}
use Rattle.record_model.specs.Recorded.{clock_values}
use Rattle.outer_io.proofs.TellsLemmas.{tells-gains}
use Rattle.call_record.specs.Steps.{Gained}
use Rattle.call_record.proofs.SoFar.{so_far_none, so_far_row, so_far_more, so_far_stops, so_far_cut}
use Rattle.call_record.proofs.recorder.Recorder.run.Goals as goal

on_err : {A E : Type 0} (P : Type 0) (r : Result A E) → P → OnErr r P
on_err P (Ok x) p = tt
on_err P (Err e) p = p

pub loop-at-init : goal.loop-at-init
loop-at-init g c =
    record {
      so_far = so_far_none c.args.source.now c.args.self.now (g.K.Clock.answers c.args.clock.now)
          c.requires.source.few c.requires.fresh c.requires.goes_on c.requires.window;
      within = omega arith;
    }

pub step-requires-clause-safe : goal.step-requires-clause-safe
step-requires-clause-safe g c = (so_far_row c.loop-at.invariant.so_far c.run_plain-at.new.self c.run_plain-at.ensures.made c.run_plain-at.ensures.goes_on).safe

pub returns-in_err-end-clause-gained : goal.returns-in_err-end-clause-gained
returns-in_err-end-clause-gained g c =
    let before : List ℕ = clock_values c.loop-at.invariant.so_far.records in
    let last : Gained (g.K.Clock.answers c.loop-at.clock) (g.K.Clock.answers c.step.new.clock) = c.in_err-end.ensures.gained in
    on_err _ c.from_residual.result
    (record {
      values = before ++ last.values;
      gained = tells-gains
          (g.K.Clock.answers c.args.clock.now) _ _ before last.values c.loop-at.invariant.so_far.gained last.gained;
    })

pub returns-in-Some-clause-ok : goal.returns-in-Some-clause-ok
returns-in-Some-clause-ok g c =
    let row = so_far_row c.loop-at.invariant.so_far c.run_plain-at.new.self c.run_plain-at.ensures.made c.run_plain-at.ensures.goes_on in
    let most = c.run_plain-at.ensures.most in
    let other = c.if-at-steps.false in
    so_far_stops row (grind arith) (rw c.in-Some.is at c.in_ok-end.ensures.ok)

pub loop-at-preserved : goal.loop-at-preserved
loop-at-preserved g c =
    let row = so_far_row c.loop-at.invariant.so_far c.run_plain-at.new.self c.run_plain-at.ensures.made c.run_plain-at.ensures.goes_on in
    let most = c.run_plain-at.ensures.most in
    let other = c.if-at-steps.false in
    record { so_far = so_far_more row (rw c.in_default.is at c.in_ok-end.ensures.ok); within = grind arith }

pub returns-after-loop-at-clause-ok : goal.returns-after-loop-at-clause-ok
returns-after-loop-at-clause-ok g c =
    let over = c.loop-at-test.false in
    let within = c.loop-at.invariant.within in
    so_far_cut c.loop-at.invariant.so_far c.args.steps (grind arith) (grind arith)

pub returns-then-at-steps-clause-ok : goal.returns-then-at-steps-clause-ok
returns-then-at-steps-clause-ok g c =
    let over = c.if-at-steps.true in
    so_far_cut (so_far_row c.loop-at.invariant.so_far c.run_plain-at.new.self c.run_plain-at.ensures.made c.run_plain-at.ensures.goes_on) c.args.steps
    (grind arith) (grind arith)
