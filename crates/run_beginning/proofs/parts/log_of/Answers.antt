use Rattle.std.proofs.Common.{sym, ◌∙◌, arith}
use Rattle.log_model.proofs.Texts.{wide_length}
use Rattle.replay_log.specs.Logs.{log_of_parts}
use Rattle.run_beginning.proofs.parts.log_of.Goals as goal

pub text_length-size-requires-clause-limit : goal.text_length-size-requires-clause-limit
text_length-size-requires-clause-limit c =
    let log = log_of_parts c.args.pages c.args.inputs c.args.digest c.args.records.items c.args.end in
    rw c.deref.ensures.value (omega (arith, wide_length log c.requires.form, c.requires.limit))

pub from_parts-requires-clause-size : goal.from_parts-requires-clause-size
from_parts-requires-clause-size c =
    let log = log_of_parts c.args.pages c.args.inputs c.args.digest c.args.records.items c.args.end in
    (rw c.deref.ensures.value at c.text_length-size.ensures) ∙ sym (wide_length log c.requires.form)

pub from_parts-requires-clause-limit : goal.from_parts-requires-clause-limit
from_parts-requires-clause-limit c =
    let log = log_of_parts c.args.pages c.args.inputs c.args.digest c.args.records.items c.args.end in
    let counted = rw c.deref.ensures.value at c.text_length-size.ensures in
    omega (arith, counted, wide_length log c.requires.form, c.requires.limit)
