use Rattle.std.proofs.Common.{arith, ◌≡◌, ap, sym, ◌∙◌, Some}
use Rattle.elf_model.specs.Window.{start_of}
use Rattle.rv_machine.specs.Hart.{Hart}
use Rattle.log_model.specs.declared.Version.TheVariants.{Two}
use Rattle.log_model.specs.Logs.{CanHold}
use Rattle.log_model.proofs.Words.{IsBytes-each}
use Rattle.replay_model.specs.Fits.{start_in_image}
use Rattle.record_model.proofs.Beginning.{begins as program_begins}
use Rattle.call_record.proofs.Captured.{is_source, Begins, complete, captured, ok_made, all_held, err_cause, err_gained}
use Rattle.call_record.proofs.recording.capture.Given.{Over}
use Rattle.call_record.proofs.recording.capture.Goals as goal
use Rattle.call_record.proofs.recording.capture.Goals.{After-new-recorder}

state : (g : Over) (c : After-new-recorder g)
    → start_of c.args.image.now c.args.pages ≡ Some c.new-recorder.result.machine.state
state g c = c.in-Ok.ensures.starts.0 ∙ ap (λ (h : Hart). Some h.state) (sym c.new-recorder.ensures.machine)

pub run-requires-clause-source : goal.run-requires-clause-source
run-requires-clause-source g c = is_source (record { inputs = c.args.inputs; piece = c.args.piece }) c.requires.few
    c.requires.short

pub run-requires-clause-window : goal.run-requires-clause-window
run-requires-clause-window g c =
    let starts = ap (λ r. start_in_image r c.args.pages) c.requires.image ∙ state g (goal.at.run-requires-clause-window g c).After-new-recorder in
    let bytes = IsBytes-each c.args.program.now (λ i. omega (arith, c.type_inv.program i)) in
    let size = (program_begins c.args.program.now c.args.pages c.new-recorder.result.machine.state bytes starts).size in
    let most = c.requires.most in
    omega arith

begins : (g : Over) (c : After-new-recorder g)
    → Begins c.args.program.now c.args.image.now c.args.pages (record { inputs = c.args.inputs; piece = c.args.piece })
    c.new-recorder.result.machine.state
begins g c = record {
  image_is = c.requires.image;
  starts = state g c;
  some = c.requires.some;
  most = c.requires.most;
  few = c.requires.few;
}

pub into_log-requires : goal.into_log-requires
into_log-requires g c = complete (begins g (goal.at.into_log-requires g c).After-new-recorder) c.in_ok-end.ensures.ok c.digest.ensures

pub returns-clause-captured : goal.returns-clause-captured
returns-clause-captured g c =
    let begun = begins g (goal.at.returns-clause-captured g c).After-new-recorder in
    ok_made begun c.in_ok-end.ensures.ok _ c.into_log.result c.digest.ensures c.into_log.ensures.ok (λ short. captured begun c.in_ok-end.ensures.ok)

pub returns-clause-small : goal.returns-clause-small
returns-clause-small g c =
    ok_made (begins g (goal.at.returns-clause-small g c).After-new-recorder) c.in_ok-end.ensures.ok _ c.into_log.result c.digest.ensures c.into_log.ensures.ok
    (λ short. short)

pub returns-clause-held : goal.returns-clause-held
returns-clause-held g c =
    let begun = begins g (goal.at.returns-clause-held g c).After-new-recorder in
    ok_made begun c.in_ok-end.ensures.ok (CanHold Two) c.into_log.result c.digest.ensures c.into_log.ensures.ok (all_held begun c.in_ok-end.ensures.ok)

pub returns-clause-cause : goal.returns-clause-cause
returns-clause-cause g c =
    err_cause (begins g (goal.at.returns-clause-cause g c).After-new-recorder) c.in_ok-end.ensures.ok c.into_log.result c.into_log.ensures.fault

pub returns-clause-gained : goal.returns-clause-gained
returns-clause-gained g c = err_gained c.into_log.result c.in_ok-end.ensures.ok
