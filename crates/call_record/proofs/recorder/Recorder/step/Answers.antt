use Rattle.std.proofs.Common.{inl, [], refl, ap, subst}
use Rattle.std.specs.Prelude.{IfOk}
use Rattle.rv_machine.specs.Hart.{Hart}
use Rattle.call_record.specs.Steps.{Point, IsStepOf}
use Rattle.outer_io.proofs.TellsLemmas.{tells-nothing}
use Rattle.call_record.proofs.recorder.Recorder.step.Goals as goal

pub returns-in-Plain-clause-ok : goal.returns-in-Plain-clause-ok
returns-in-Plain-clause-ok g c = record {
  values = [];
  gained = tells-nothing (g.K.Clock.answers c.args.clock.now);
  step = inl (record {
    retired = c.in-Plain.ensures.retired;
    goes_on = c.in-Plain.ensures.goes_on;
    counts = refl;
    tape = refl;
    no_values = refl;
  });
}

-- a call leaves the state as it is
pub returns-in-Called-clause-ok : goal.returns-in-Called-clause-ok
returns-in-Called-clause-ok g c =
    let point : Hart → Point = λ (h : Hart). record
    { state = h.state; counts = c.args.self.now.counts; tape = c.args.self.now.tape } in
    subst (λ (p : Point). IfOk c.answer.result
    (λ end. IsStepOf c.args.source.now c.args.at end p c.answer.new.self (g.K.Clock.answers c.args.clock.now)
    (g.K.Clock.answers c.answer.new.clock))) (ap point c.in-Called.ensures.waits) c.answer.ensures.ok
