use Rattle.std.proofs.Common.{map, sym, ap, ◌∙◌, arith}
use Rattle.std.proofs.lemmas.List.{take_all}
use Rattle.std.proofs.lemmas.Bool.{false≢true}
use Rattle.source_ranges.specs.declared.SourceRange.{SourceRange}
use Rattle.page_data.specs.Moved.{range_moved}
use Rattle.page_data.proofs.MovedRanges.{other_count, other_range, all_moved}
use Rattle.page_data.proofs.rows.are_moved.Goals as goal

abbrev none : SourceRange
none = record { channel = 0; from = 0; past = 0 }

pub returns-then-first-second : goal.returns-then-first-second
returns-then-first-second c =
    other_count c.args.by c.args.before.now c.args.now.now c.ranges-first.result.now c.ranges-second.result.now c.ranges-first.ensures.value
    c.ranges-second.ensures.value c.if-first-second.true

pub returns-then-not-is_moved : goal.returns-then-not-is_moved
returns-then-not-is_moved c =
    other_range c.args.by c.args.before.now c.args.now.now c.ranges-first.result.now c.ranges-second.result.now c.ranges-first.ensures.value
    c.ranges-second.ensures.value c.loop-i.i none c.loop-i-test.true (λ e. false≢true (sym c.if-not-is_moved.true ∙ c.is_moved.ensures.1 e))

pub returns : goal.returns
returns c =
    let rs = c.ranges-first.result.now in
    let ss = c.ranges-second.result.now in
    let i = c.loop-i.i in
    all_moved c.args.by c.args.before.now c.args.now.now rs ss c.ranges-first.ensures.value c.ranges-second.ensures.value
    (sym (take_all i ss (omega (arith, c.loop-i-test.false, c.if-first-second.false))) ∙ c.loop-i.invariant
    ∙ ap (map (range_moved c.args.by)) (take_all i rs (omega (arith, c.loop-i-test.false))))
