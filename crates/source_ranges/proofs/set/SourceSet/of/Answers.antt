use Rattle.std.proofs.Common.{◌≡◌, ◌++◌, [], ◌∷◌, List, sym, ap, ◌∙◌, append-nil}
use Rattle.std.specs.List.{flat_map}
use Rattle.flow_model.specs.declared.SourceByte.{SourceByte}
use Rattle.source_ranges.specs.declared.SourceRange.{SourceRange}
use Rattle.source_ranges.specs.Ranges.{bytes_of, ranges_of}
use Rattle.source_ranges.proofs.Kept.{bytes-ranges, kept-of, no-bytes}
use Rattle.source_ranges.proofs.set.SourceSet.of.Goals as goal

-- one range, and nothing after it
alone : (bs rest : List SourceByte) (first : SourceRange) → ranges_of bs ≡ first ∷ ranges_of rest → rest ≡ [] → first ∷ [] ≡ ranges_of bs
alone bs rest first e none = sym (e ∙ ap (λ (xs : List SourceByte). first ∷ ranges_of xs) none)

pub returns-then-is_empty : goal.returns-then-is_empty
returns-then-is_empty c =
    let rest = c.in-Some.rest.now in
    let first = c.in-Some.first in
    c.of_range.ensures
    ∙ sym (append-nil (bytes_of first))
    ∙ ap (flat_map bytes_of) (alone c.args.sources.now rest first c.in-Some.ensures.ranges (no-bytes rest (sym c.is_empty.ensures ∙ c.if-is_empty.true)))
    ∙ bytes-ranges c.args.sources.now

all : (bs : List SourceByte) (none found : List SourceRange) → none ≡ [] → found ≡ none ++ ranges_of bs → found ≡ ranges_of bs
all bs none found e is = is ∙ ap (λ (rs : List SourceRange). rs ++ ranges_of bs) e

pub of_ranges-requires : goal.of_ranges-requires
of_ranges-requires c =
    kept-of c.args.sources.now c.push_ranges.new.found.items
    (all c.args.sources.now _ _ c.new-ranges.ensures.items c.in_ok-push_ranges.ensures.ranges) c.requires c.in_ok-push_ranges.ensures.fits

pub returns : goal.returns
returns c =
    c.of_ranges.ensures ∙ ap (flat_map bytes_of) (all c.args.sources.now _ _ c.new-ranges.ensures.items c.in_ok-push_ranges.ensures.ranges)
    ∙ bytes-ranges c.args.sources.now
