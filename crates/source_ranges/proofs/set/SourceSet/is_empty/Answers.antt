use Rattle.std.proofs.Common.{◌==◌, List, length, ap, ◌∙◌}
use Rattle.source_ranges.specs.declared.SourceRange.{SourceRange}
use Rattle.source_ranges.proofs.Kept.{none-ranges}
use Rattle.source_ranges.proofs.set.SourceSet.is_empty.Goals as goal

pub returns : goal.returns
returns c = c.is_empty.ensures ∙ ap (λ (rs : List SourceRange). length rs == 0) c.ranges-2.ensures.value ∙ none-ranges c.args.self.now
