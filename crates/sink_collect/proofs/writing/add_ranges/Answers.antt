use Rattle.std.proofs.Common.{sym, subst, ℕ, ◌+◌, List, get_or, take}
use Rattle.std.proofs.lemmas.List.{get_or_default}
use Rattle.source_ranges.specs.declared.SourceRange.{SourceRange}
use Rattle.outer_io.proofs.PiecesLemmas.{puts-fault, puts-more, puts-some}
use Rattle.sink_collect.proofs.Putting.{names_of, names_of_ranges}
use Rattle.sink_collect.specs.Waiting.{waiting}
use Rattle.sink_collect.proofs.Waiting.{waiting_laws}
use Rattle.sink_collect.proofs.writing.add_ranges.Goals as goal

pub loop-range-preserved : goal.loop-range-preserved
loop-range-preserved g c =
    let ranges = c.args.ranges.now in
    let i = c.loop-range.range-index in
    let none : SourceRange = record { channel = 0; from = 0; past = 0 } in
    let range : SourceRange = get_or ranges i none in
    let before = subst (λ (text : List ℕ). (waiting g.P.Pieces.putting).whole (c.args.place.now, c.args.text.now) text (c.loop-range.place, c.loop-range.text)) (names_of_ranges (take i ranges)) c.loop-range.invariant in
    subst (λ (text : List ℕ). (waiting g.P.Pieces.putting).whole (c.args.place.now, c.args.text.now) text (c.add_range.new.place, c.add_range.new.text)) (sym (names_of_ranges (take (i + 1) ranges)))
    (puts-more (waiting g.P.Pieces.putting) (waiting_laws g.P.Pieces.putting g.met.P.Pieces.laws) names_of ranges i range
    (c.args.place.now, c.args.text.now) (c.loop-range.place, c.loop-range.text) (c.add_range.new.place, c.add_range.new.text)
    c.loop-range-test.true (get_or_default ranges i none range c.loop-range-test.true) before c.in_ok-add_range.ensures)

pub returns-in_err-add_range : goal.returns-in_err-add_range
returns-in_err-add_range g c =
    let ranges = c.args.ranges.now in
    let i = c.loop-range.range-index in
    let none : SourceRange = record { channel = 0; from = 0; past = 0 } in
    let range : SourceRange = get_or ranges i none in
    let before = subst (λ (text : List ℕ). (waiting g.P.Pieces.putting).whole (c.args.place.now, c.args.text.now) text (c.loop-range.place, c.loop-range.text)) (names_of_ranges (take i ranges)) c.loop-range.invariant in
    puts-fault (waiting g.P.Pieces.putting) _ (c.args.place.now, c.args.text.now) (c.add_range.new.place, c.add_range.new.text) _ c.from_residual.result c.from_residual.ensures.1
    (subst (λ (text : List ℕ). (waiting g.P.Pieces.putting).part (c.args.place.now, c.args.text.now) text (c.add_range.new.place, c.add_range.new.text)) (sym (names_of_ranges ranges))
    (puts-some (waiting g.P.Pieces.putting) (waiting_laws g.P.Pieces.putting g.met.P.Pieces.laws) names_of ranges i range (c.args.place.now, c.args.text.now) (c.loop-range.place, c.loop-range.text) (c.add_range.new.place, c.add_range.new.text)
    c.loop-range-test.true (get_or_default ranges i none range c.loop-range-test.true) before c.in_err-add_range.ensures))
