use Rattle.std.proofs.Common.{◌≡◌, ◌++◌, [], ◌∷◌, ◌-◌, List, Vec, sym, ap, subst, ◌∙◌, arith}
use Rattle.std.specs.declared.alloc.Global.{Global}
use Rattle.std.proofs.lemmas.List.{nil_from_length}
use Rattle.source_ranges.specs.declared.SourceRange.{SourceRange}
use Rattle.source_ranges.specs.Kept.{IsRange}
use Rattle.source_ranges.specs.RangeLaws.{AreApart}
use Rattle.source_ranges.proofs.Kept.{joined_bytes, joined_apart, pushed_apart, unchanged}
use Rattle.source_ranges.proofs.joined.join_last.Goals as goal
use Rattle.source_ranges.proofs.joined.join_last.Goals.{else-last-range-via-then-last-range+else-last-range-2, else-last-range-via-else-last-range}

pub returns-then-last-range-2-clause-bytes : goal.returns-then-last-range-2-clause-bytes
returns-then-last-range-2-clause-bytes c e =
    let rs = c.args.ranges.now.items in
    let n = c.args.ranges.now.len - 1 in
    let l = c.in-Some.last.now in
    let some = c.in-Some.ensures.item.3.0 in
    let own : IsRange l = subst IsRange (sym c.in-Some.ensures.value) (c.requires.fits n l (omega (arith, some, c.args.ranges.now.ok.0))) in
    joined_bytes rs n l c.args.range (omega (arith, some, c.args.ranges.now.ok.0)) c.in-Some.ensures.value (omega (arith, own.0))
    (omega (arith, c.requires.range.0)) c.if-last-range.true c.if-last-range-2.true

pub returns-then-last-range-2-clause-apart : goal.returns-then-last-range-2-clause-apart
returns-then-last-range-2-clause-apart c e =
    let rs = c.args.ranges.now.items in
    let n = c.args.ranges.now.len - 1 in
    let l = c.in-Some.last.now in
    let some = c.in-Some.ensures.item.3.0 in
    let own : IsRange l = subst IsRange (sym c.in-Some.ensures.value) (c.requires.fits n l (omega (arith, some, c.args.ranges.now.ok.0))) in
    joined_apart rs n l c.args.range (omega (arith, some, c.args.ranges.now.ok.0)) c.in-Some.ensures.value c.requires.apart
    (omega (arith, own.0, c.requires.range.0, c.if-last-range-2.true))

pub returns-else-last-range-clause-kept : goal.returns-else-last-range-clause-kept
returns-else-last-range-clause-kept c e =
    let same = unchanged c.args.ranges.now.items (c.args.ranges.now.len - 1) c.in-Some.last.now c.in-Some.ensures.value in
    elim c.else-last-range.branch [
      | else-last-range-via-then-last-range+else-last-range-2 w ↦ ap (λ (z : Vec SourceRange Global). z.items) w.ranges-is ∙ same
      | else-last-range-via-else-last-range w ↦ ap (λ (z : Vec SourceRange Global). z.items) w.ranges-is ∙ same
    ]

pub returns-else-last-range-clause-pushed : goal.returns-else-last-range-clause-pushed
returns-else-last-range-clause-pushed c e =
    let rs = c.args.ranges.now.items in
    let n = c.args.ranges.now.len - 1 in
    let l = c.in-Some.last.now in
    let r = c.args.range in
    let some = c.in-Some.ensures.item.3.0 in
    let pushed : (l.channel ≡ r.channel → l.past ≡ r.from → ⊥) → AreApart (rs ++ r ∷ []) =
    λ ends. pushed_apart rs n l r (omega (arith, some, c.args.ranges.now.ok.0)) c.in-Some.ensures.value c.requires.apart ends c.requires.range.0 in
    elim c.else-last-range.branch [
      | else-last-range-via-then-last-range+else-last-range-2 w ↦ pushed (λ channel from. w.if-last-range-2.false from)
      | else-last-range-via-else-last-range w ↦ pushed (λ channel from. w.if-last-range.false channel)
    ]

pub returns-in_default-clause-pushed : goal.returns-in_default-clause-pushed
returns-in_default-clause-pushed c e =
    let rs = c.args.ranges.now.items in
    let none : rs ≡ [] = nil_from_length rs (omega (arith, c.in_default.ensures.item.3)) in
    subst (λ (ss : List SourceRange). AreApart (ss ++ c.args.range ∷ [])) (sym none) (c.requires.range.0, tt, tt)
