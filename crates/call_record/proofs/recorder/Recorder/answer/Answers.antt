use Rattle.std.proofs.Common.{rules, arith, ◌<◌, ◌^◌, inr, [], ap, sym, ◌∙◌}
use Rattle.isa.specs.declared.Call.{Call}
use Rattle.call_record.specs.Steps.{point_of}
use Rattle.call_record.proofs.Calls.{waits_for, other_records}
use Rattle.outer_io.proofs.TellsLemmas.{tells-nothing}
use Rattle.call_record.proofs.SoFar.{gained_none}
use Rattle.call_record.proofs.recorder.Recorder.answer.Goals as goal

pub returns-in_ok-other-in-Other-clause-ok : goal.returns-in_ok-other-in-Other-clause-ok
returns-in_ok-other-in-Other-clause-ok g c =
    let call = c.args.call.now in
    let number : call.number < 2 ^ 32 = search rules in
    let kind = ap (λ (x : Call). x.kind) c.requires.called.call_is in
    record {
      values = [];
      gained = tells-nothing (g.K.Clock.answers c.args.clock.now);
      step = inr (record {
        called = c.requires.called.called;
        records = other_records c.args.source.now c.args.at (point_of c.args.self.now) call.number _ (omega arith)
            number (sym kind ∙ c.in-Other.is) (ap (λ (x : Call). x.number) c.requires.called.call_is)
            c.in_ok-other-in-Other.ensures;
      });
    }

pub read-requires-clause-waits : goal.read-requires-clause-waits
read-requires-clause-waits g c = waits_for c.requires.called c.in-Read.is

pub returns-in_ok-read-in-Read-clause-ok : goal.returns-in_ok-read-in-Read-clause-ok
returns-in_ok-read-in-Read-clause-ok g c = record {
  values = [];
  gained = tells-nothing (g.K.Clock.answers c.args.clock.now);
  step = inr (record { called = c.requires.called.called; records = c.in_ok-read-in-Read.ensures });
}

pub write-requires-clause-waits : goal.write-requires-clause-waits
write-requires-clause-waits g c = waits_for c.requires.called c.in-Write.is

pub returns-in_ok-write-in-Write-clause-ok : goal.returns-in_ok-write-in-Write-clause-ok
returns-in_ok-write-in-Write-clause-ok g c = record {
  values = [];
  gained = tells-nothing (g.K.Clock.answers c.args.clock.now);
  step = inr (record { called = c.requires.called.called; records = c.in_ok-write-in-Write.ensures });
}

pub returns-in_err-read-in-Read-clause-gained : goal.returns-in_err-read-in-Read-clause-gained
returns-in_err-read-in-Read-clause-gained g c = gained_none c.from_residual.result (g.K.Clock.answers c.args.clock.now)

pub returns-in_err-write-in-Write-clause-gained : goal.returns-in_err-write-in-Write-clause-gained
returns-in_err-write-in-Write-clause-gained g c = gained_none c.from_residual-in_err-write-in-Write.result (g.K.Clock.answers c.args.clock.now)

pub returns-in_err-other-in-Other-clause-gained : goal.returns-in_err-other-in-Other-clause-gained
returns-in_err-other-in-Other-clause-gained g c = gained_none c.from_residual-in_err-other-in-Other.result (g.K.Clock.answers c.args.clock.now)
