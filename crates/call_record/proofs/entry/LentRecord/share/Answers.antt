use Rattle.std.proofs.Common.{ap, subst, arith}
use Rattle.log_model.specs.Logs.{IsRecord, share}
use Rattle.call_record.specs.declared.entry.LentRecord.{LentRecord}
use Rattle.call_record.specs.Entries.{record_of}
use Rattle.call_record.proofs.Shares.{kept_share, other_share, written_share}
use Rattle.call_record.proofs.entry.LentRecord.share.Goals as goal

pub returns-then-args-inputs : goal.returns-then-args-inputs
returns-then-args-inputs c =
    let is = subst (λ (e : LentRecord). IsRecord (record_of e)) c.in-Read.is c.requires in
    omega (
      arith,
      kept_share c.args.inputs c.in-Read.at _ _ _ is.1 c.if-args-inputs.true,
      ap (λ (e : LentRecord). share c.args.inputs (record_of e)) c.in-Read.is,
    )

pub returns-else-args-inputs : goal.returns-else-args-inputs
returns-else-args-inputs c =
    let is = subst (λ (e : LentRecord). IsRecord (record_of e)) c.in-Read.is c.requires in
    omega (
      arith,
      other_share c.args.inputs c.in-Read.at _ _ _ is.1 c.if-args-inputs.false,
      ap (λ (e : LentRecord). share c.args.inputs (record_of e)) c.in-Read.is,
    )

pub returns-in-Write : goal.returns-in-Write
returns-in-Write c =
    let is = subst (λ (e : LentRecord). IsRecord (record_of e)) c.in-Write.is c.requires in
    omega (
      arith,
      written_share c.args.inputs c.in-Write.at _ _ _ is.1,
      ap (λ (e : LentRecord). share c.args.inputs (record_of e)) c.in-Write.is,
    )
