use Rattle.std.proofs.Common.{sym, ap, ◌∙◌}
use Rattle.source_ranges.specs.Kept.{ranges_in}
use Rattle.source_ranges.specs.Ranges.{ranges_of}
use Rattle.source_ranges.proofs.Kept.{kept-ranges}
use Rattle.source_ranges.proofs.set.SourceSet.ranges.Goals as goal

pub returns-in-One-clause-value : goal.returns-in-One-clause-value
returns-in-One-clause-value c =
    c.as_slice.ensures ∙ sym (ap ranges_in c.in-One.is)
    ∙ sym (kept-ranges (ranges_in c.self.inside.kept) c.self.invariant.apart) ∙ ap ranges_of c.self.view_is

pub returns-in-Many-clause-value : goal.returns-in-Many-clause-value
returns-in-Many-clause-value c =
    c.as_slice-in-Many.ensures.value ∙ sym (ap ranges_in c.in-Many.is)
    ∙ sym (kept-ranges (ranges_in c.self.inside.kept) c.self.invariant.apart) ∙ ap ranges_of c.self.view_is
