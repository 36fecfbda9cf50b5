use Rattle.std.proofs.Common.{◌≡◌, ◌∙◌, ap, sym, subst, List, map, take, get_or}
use Rattle.std.specs.Prelude.{All}
use Rattle.std.specs.List.{flat_map}
use Rattle.std.proofs.lemmas.List.{take_all}
use Rattle.flow_model.specs.declared.SinkPoint.{SinkPoint}
use Rattle.flow_model.specs.declared.SourceByte.{SourceByte}
use Rattle.flow_model.specs.Orders.{source_cmp}
use Rattle.lists.specs.Sets.{Ascends}
use Rattle.source_ranges.specs.declared.SourceRange.{SourceRange}
use Rattle.source_ranges.specs.Kept.{IsRange}
use Rattle.source_ranges.specs.Ranges.{bytes_of}
use Rattle.source_ranges.proofs.Kept.{bytes-ranges}
use Rattle.sink_collect.specs.Places.{start_of}
use Rattle.sink_collect.specs.Reaching.{Stretch, with_sink}
use Rattle.sink_collect.proofs.Reaching.{with_none, starts_kept, fits_kept, one_more_range}
use Rattle.sink_collect.proofs.influence.add_row.Goals as goal

abbrev none : SourceRange
none = record { channel = 0; from = 0; past = 0 }

pub loop-range-init : goal.loop-range-init
loop-range-init c = with_none c.args.row.now.sink c.args.reaches.now

pub add_range-requires-clause-starts : goal.add_range-requires-clause-starts
add_range-requires-clause-starts c =
    let so_far = flat_map bytes_of (take c.loop-range.range-index c.ranges-range-items.result.now) in
    ap (map (λ (r : Stretch). start_of r.range)) c.loop-range.invariant ∙ starts_kept c.args.row.now.sink so_far c.args.reaches.now ∙ c.requires.starts

pub add_range-requires-clause-fits : goal.add_range-requires-clause-fits
add_range-requires-clause-fits c =
    let so_far = flat_map bytes_of (take c.loop-range.range-index c.ranges-range-items.result.now) in
    subst (λ (rs : List Stretch). All (λ r. IsRange r.range) rs) (sym c.loop-range.invariant) (fits_kept c.args.row.now.sink so_far c.args.reaches.now c.requires.fits)

pub loop-range-preserved : goal.loop-range-preserved
loop-range-preserved c =
    let s = c.args.row.now.sink in
    let items = c.ranges-range-items.result.now in
    let k = c.loop-range.range-index in
    let now = c.loop-range.reaches in
    let whole : flat_map bytes_of items ≡ c.args.row.now.sources =
    ap (flat_map bytes_of) c.ranges-range-items.ensures.value ∙ bytes-ranges c.sources.result.now ∙ c.sources.ensures.value in
    one_more_range s items k none c.args.reaches.now now c.add_range.new.reaches c.loop-range-test.true
    (subst (Ascends source_cmp) (sym whole) c.sources.ensures.ascending) c.loop-range.invariant
    (c.in_ok-add_range.ensures ∙ ap (λ (x : SinkPoint). map (with_sink x (bytes_of (get_or items k none))) now) c.sink.ensures)

pub returns : goal.returns
returns c =
    let items = c.ranges-range-items.result.now in
    let whole : flat_map bytes_of items ≡ c.args.row.now.sources =
    ap (flat_map bytes_of) c.ranges-range-items.ensures.value ∙ bytes-ranges c.sources.result.now ∙ c.sources.ensures.value in
    c.loop-range.invariant
    ∙ ap (λ (bs : List SourceByte). map (with_sink c.args.row.now.sink bs) c.args.reaches.now)
    (ap (flat_map bytes_of) (take_all c.loop-range.range-index items c.loop-range-test.false) ∙ whole)
