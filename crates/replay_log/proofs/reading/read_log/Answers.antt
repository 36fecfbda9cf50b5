use Rattle.std.proofs.Common.{sym, ◌∙◌, arith, rules}
use Rattle.replay_log.proofs.Whole.{whole_log, whole_fault, whole_is}
use Rattle.replay_log.proofs.reading.read_log.Goals as goal

pub returns-in_err-records-clause-fault : goal.returns-in_err-records-clause-fault
returns-in_err-records-clause-fault c =
    let fault = whole_fault c.args.bytes.now c.in-Ok.header _ c.in-Ok.ensures.ok c.in_err-records.ensures.fault in
    search rules

pub text_length-size-requires-clause-form : goal.text_length-size-requires-clause-form
text_length-size-requires-clause-form c =
    let whole = whole_is c.args.bytes.now c.in-Ok.header _ _ (λ i. (c.type_inv.bytes i).fits) c.requires c.in-Ok.ensures.ok c.in_ok-records.ensures.ok in
    rw c.deref.ensures.value whole.form.records

pub text_length-size-requires-clause-limit : goal.text_length-size-requires-clause-limit
text_length-size-requires-clause-limit c =
    let whole = whole_is c.args.bytes.now c.in-Ok.header _ _ (λ i. (c.type_inv.bytes i).fits) c.requires c.in-Ok.ensures.ok c.in_ok-records.ensures.ok in
    rw c.deref.ensures.value (omega (arith, whole.size, whole.limit))

pub from_parts-requires-clause-form : goal.from_parts-requires-clause-form
from_parts-requires-clause-form c =
    (whole_is c.args.bytes.now c.in-Ok.header _ _ (λ i. (c.type_inv.bytes i).fits) c.requires c.in-Ok.ensures.ok c.in_ok-records.ensures.ok).form

pub from_parts-requires-clause-size : goal.from_parts-requires-clause-size
from_parts-requires-clause-size c =
    let whole = whole_is c.args.bytes.now c.in-Ok.header _ _ (λ i. (c.type_inv.bytes i).fits) c.requires c.in-Ok.ensures.ok c.in_ok-records.ensures.ok in
    (rw c.deref.ensures.value at c.text_length-size.ensures) ∙ sym whole.size

pub from_parts-requires-clause-limit : goal.from_parts-requires-clause-limit
from_parts-requires-clause-limit c =
    let whole = whole_is c.args.bytes.now c.in-Ok.header _ _ (λ i. (c.type_inv.bytes i).fits) c.requires c.in-Ok.ensures.ok c.in_ok-records.ensures.ok in
    let counted = rw c.deref.ensures.value at c.text_length-size.ensures in
    omega (arith, counted, whole.size, whole.limit)

pub returns-clause-ok : goal.returns-clause-ok
returns-clause-ok c =
    rw c.from_parts.ensures (whole_log c.args.bytes.now c.in-Ok.header _ _ c.in-Ok.ensures.ok c.in_ok-records.ensures.ok)
