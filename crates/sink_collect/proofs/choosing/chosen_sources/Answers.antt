use Rattle.std.proofs.Common.{sym, ap, ◌∙◌, subst}
use Rattle.std.specs.List.{filter}
use Rattle.flow_model.specs.Orders.{source_cmp}
use Rattle.lists.specs.Sets.{Ascends}
use Rattle.lists.proofs.Filters.{Ascends-filter}
use Rattle.report_model.specs.Query.{has_source}
use Rattle.source_ranges.proofs.Kept.{all-bytes}
use Rattle.sink_collect.proofs.choosing.chosen_sources.Goals as goal

pub into_set-requires : goal.into_set-requires
into_set-requires c =
    let p = has_source c.args.query.now in
    subst (Ascends source_cmp)
    (sym (c.loop-range.invariant
    ∙ ap (filter p) (all-bytes c.args.sources.now c.ranges-range-items.result.now c.loop-range.range-index c.ranges-range-items.ensures.value c.loop-range-test.false)))
    (Ascends-filter source_cmp p c.args.sources.now c.form.ensures)

pub returns : goal.returns
returns c =
    let p = has_source c.args.query.now in
    c.into_set.ensures ∙ c.loop-range.invariant
    ∙ ap (filter p) (all-bytes c.args.sources.now c.ranges-range-items.result.now c.loop-range.range-index c.ranges-range-items.ensures.value c.loop-range-test.false)
