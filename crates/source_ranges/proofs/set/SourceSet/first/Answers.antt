use Rattle.std.proofs.Common.{Some, List, sym, ap, ◌∙◌}
use Rattle.std.specs.Prelude.{slice_get}
use Rattle.std.specs.Option.{option_map}
use Rattle.source_ranges.specs.declared.SourceRange.{SourceRange}
use Rattle.source_ranges.proofs.Kept.{first_of, first-bytes}
use Rattle.source_ranges.proofs.set.SourceSet.first.Goals as goal

pub returns-in_err-first : goal.returns-in_err-first
returns-in_err-first c =
    c.from_residual.ensures
    ∙ ap (option_map first_of) (c.in_err-first.ensures.value ∙ ap (λ (rs : List SourceRange). slice_get rs 0) c.ranges-2.ensures.value)
    ∙ sym (first-bytes c.args.self.now)

pub returns : goal.returns
returns c =
    ap Some c.first_byte.ensures
    ∙ ap (option_map first_of) (c.in_ok-first.ensures.value ∙ ap (λ (rs : List SourceRange). slice_get rs 0) c.ranges-2.ensures.value)
    ∙ sym (first-bytes c.args.self.now)
