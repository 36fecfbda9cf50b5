use Rattle.std.proofs.Common.{◌-◌, ◌<◌, length, refl, sym, ap, ◌∙◌, arith}
use Rattle.std.proofs.lemmas.List.{take_rest, length-drop}
use Rattle.replay_log.specs.Tags.{number}
use Rattle.replay_log.proofs.RecordParts.{fields_there, step_there, begun, cut_parts, are_parts, late_fault, short_fault}
use Rattle.replay_log.proofs.record_parts.parts_of.Goals as goal

pub step_of-at-requires : goal.step_of-at-requires
step_of-at-requires c =
    step_there c.args.version c.args.rest.now (number c.in-Some-of.tag) _ c.fixed_length-fixed.ensures c.if-rest-fixed.false

pub fields_of-fields-requires : goal.fields_of-fields-requires
fields_of-fields-requires c =
    step_there c.args.version c.args.rest.now (number c.in-Some-of.tag) _ c.fixed_length-fixed.ensures c.if-rest-fixed.false

pub is_outcome_wrong-requires : goal.is_outcome_wrong-requires
is_outcome_wrong-requires c =
    fields_there c.args.version c.args.rest.now (number c.in-Some-of.tag) _ _ c.fixed_length-fixed.ensures c.if-rest-fixed.false c.fields_of-fields.ensures

pub are_bytes_wrong-requires : goal.are_bytes_wrong-requires
are_bytes_wrong-requires c =
    fields_there c.args.version c.args.rest.now (number c.in-Some-of.tag) _ _ c.fixed_length-fixed.ensures c.if-rest-fixed.false c.fields_of-fields.ensures

pub length_of_data-length-requires : goal.length_of_data-length-requires
length_of_data-length-requires c =
    fields_there c.args.version c.args.rest.now (number c.in-Some-of.tag) _ _ c.fixed_length-fixed.ensures c.if-rest-fixed.false c.fields_of-fields.ensures

pub returns-then-is_outcome_wrong-clause-fault : goal.returns-then-is_outcome_wrong-clause-fault
returns-then-is_outcome_wrong-clause-fault c =
    let is = begun c.in-Some-of.ensures (c.in-Some.ensures.item.3.1 0) c.fixed_length-fixed.ensures c.if-rest-fixed.false c.step_of-at.ensures
    c.is_step_wrong.ensures c.if-is_step_wrong.false c.fields_of-fields.ensures in
    late_fault is c.args.left.now ∙ rw (sym c.is_outcome_wrong.ensures ∙ c.if-is_outcome_wrong.true) refl

pub returns-then-are_bytes_wrong-clause-fault : goal.returns-then-are_bytes_wrong-clause-fault
returns-then-are_bytes_wrong-clause-fault c =
    let is = begun c.in-Some-of.ensures (c.in-Some.ensures.item.3.1 0) c.fixed_length-fixed.ensures c.if-rest-fixed.false c.step_of-at.ensures
    c.is_step_wrong.ensures c.if-is_step_wrong.false c.fields_of-fields.ensures in
    late_fault is c.args.left.now ∙ rw
    (sym c.is_outcome_wrong.ensures ∙ c.if-is_outcome_wrong.false, sym c.are_bytes_wrong.ensures ∙ c.if-are_bytes_wrong.true) refl

pub returns-then-unfixed-length-clause-fault : goal.returns-then-unfixed-length-clause-fault
returns-then-unfixed-length-clause-fault c =
    let is = begun c.in-Some-of.ensures (c.in-Some.ensures.item.3.1 0) c.fixed_length-fixed.ensures c.if-rest-fixed.false c.step_of-at.ensures
    c.is_step_wrong.ensures c.if-is_step_wrong.false c.fields_of-fields.ensures in
    let fields = c.fields_of-fields.result.now in
    let fixed = c.fields_length.result in
    let less : length fields - fixed < c.length_of_data-length.result = omega
    (arith, c.if-unfixed-length.true, ap length (take_rest fields fixed), length-drop fixed fields) in
    let short = short_fault is _ c.length_of_data-length.ensures (rw c.fields_length.ensures at less) in
    late_fault is c.args.left.now ∙ rw
    (sym c.is_outcome_wrong.ensures ∙ c.if-is_outcome_wrong.false, sym c.are_bytes_wrong.ensures ∙ c.if-are_bytes_wrong.false, short) refl

pub returns-clause-ok : goal.returns-clause-ok
returns-clause-ok c =
    let cut = c.split_at.ensures in
    are_parts c.args.version c.args.least c.args.left.now c.args.rest.now _ record {
      begun = begun c.in-Some-of.ensures (c.in-Some.ensures.item.3.1 0) c.fixed_length-fixed.ensures c.if-rest-fixed.false c.step_of-at.ensures
          c.is_step_wrong.ensures c.if-is_step_wrong.false c.fields_of-fields.ensures;
      outcome = sym c.is_outcome_wrong.ensures ∙ c.if-is_outcome_wrong.false;
      allowed = sym c.are_bytes_wrong.ensures ∙ c.if-are_bytes_wrong.false;
      size = cut.front_len ∙ c.length_of_data-length.ensures;
      cut = rw c.fields_length.ensures at
          (cut_parts c.fields_of-fields.result.now _ _ c.fields_length.result c.length_of_data-length.result cut.front cut.back);
    }
