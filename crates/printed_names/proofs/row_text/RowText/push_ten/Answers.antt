use Rattle.std.proofs.Common.{◌∙◌, ap, ap₂, arith, ℕ, List, ◌++◌}
use Rattle.std.specs.List.{flat_map, range_with_len}
use Rattle.flow_model.specs.declared.SourceByte.{SourceByte}
use Rattle.report_model.specs.Text.{source_text}
use Rattle.printed_names.specs.Tens.{with_digit}
use Rattle.printed_names.proofs.Tens.{ten_names, named}
use Rattle.printed_names.proofs.row_text.RowText.push_ten.Goals as goal

pub returns : goal.returns
returns c =
    c.append_with_digits-self-inside.ensures.text
    ∙ ap₂ (λ (xs ys : List ℕ). xs ++ ys) c.self.view_is
    (ap (λ (s : SourceByte). flat_map (with_digit (source_text s)) (range_with_len 0 10)) c.go_to.ensures
    ∙ ten_names (named c.args.channel c.args.tens) c.requires.some (omega arith))
