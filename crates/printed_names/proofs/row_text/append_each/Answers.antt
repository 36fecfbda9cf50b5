use Rattle.std.proofs.Common.{◌≡◌, ◌∙◌, ap, ap₂, arith, ℕ, ◌+◌, ◌-◌, List, ◌++◌, take}
use Rattle.std.specs.List.{flat_map}
use Rattle.flow_model.specs.declared.SourceByte.{SourceByte}
use Rattle.report_model.specs.Text.{source_text}
use Rattle.printed_names.specs.Tens.{bytes_from}
use Rattle.printed_names.proofs.Tens.{name_more}
use Rattle.printed_names.proofs.row_text.append_each.Goals as goal

pub loop-offset-preserved : goal.loop-offset-preserved
loop-offset-preserved c =
    let from : ℕ = c.args.from in
    let offset : ℕ = c.loop-offset.offset in
    let text : List ℕ = take c.args.filled c.args.bytes.now in
    let place : from + (offset - from) ≡ offset = omega (arith, c.loop-offset.invariant.low) in
    let next : (offset - from) + 1 ≡ offset + 1 - from = omega (arith, c.loop-offset.invariant.low) in
    record {
      low = omega (arith, c.loop-offset.invariant.low);
      high = omega (arith, c.loop-offset-test.true);
      few = omega (arith, c.append_name-end.ensures.few, c.loop-offset.invariant.few, c.loop-offset.invariant.low);
      names = c.append_name-end.ensures.text
          ∙ ap₂ (λ (xs ys : List ℕ). xs ++ ys) c.loop-offset.invariant.names (ap (λ (s : SourceByte). source_text s) c.go_to.ensures)
          ∙ name_more text c.args.channel from (offset - from) offset place
          ∙ ap (λ (n : ℕ). text ++ flat_map source_text (bytes_from c.args.channel from n)) next;
    }
