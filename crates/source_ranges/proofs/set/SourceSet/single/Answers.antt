use Rattle.std.proofs.Common.{◌∷◌, [], sym, ap, ◌∙◌, arith}
use Rattle.flow_model.specs.declared.SourceByte.{SourceByte}
use Rattle.source_ranges.specs.declared.SourceRange.{SourceRange}
use Rattle.source_ranges.proofs.Kept.{single-byte, not-single}
use Rattle.source_ranges.proofs.set.SourceSet.single.Goals as goal

abbrev none : SourceRange
none = record { channel = 0; from = 0; past = 0 }

pub returns-in-len1 : goal.returns-in-len1
returns-in-len1 c =
    single-byte c.args.self.now c.ranges-2.result.now none c.ranges-2.ensures.value c.in-len1.len_at_least c.in-len1.len_below
    (sym c.saturating_sub.ensures ∙ c.if-saturating_sub-eq1.true)
    ∙ ap (λ (b : SourceByte). b ∷ []) (sym c.first_byte.ensures)

pub returns-in_default : goal.returns-in_default
returns-in_default c = not-single c.args.self.now c.ranges-2.result.now none c.ranges-2.ensures.value (λ low high one. omega (arith, low, c.in_default.len_below))

pub returns-in_default-2 : goal.returns-in_default-2
returns-in_default-2 c =
    not-single c.args.self.now c.ranges-2.result.now none c.ranges-2.ensures.value
    (λ low high one. c.if-saturating_sub-eq1.false (c.saturating_sub.ensures ∙ one))

pub returns-in_default-3 : goal.returns-in_default-3
returns-in_default-3 c = not-single c.args.self.now c.ranges-2.result.now none c.ranges-2.ensures.value (λ low high one. omega (arith, high, c.in_default.len_at_least))
