use Rattle.std.proofs.Common.{◌<◌, ap, arith, length, slice_set, ◌∙◌}
use Rattle.std.proofs.lemmas.List.Edits.{map_over_more}
use Rattle.taint_shadow.specs.declared.labels.Label.{Label}
use Rattle.summary_join.specs.Labels.{carried}
use Rattle.summary_join.proofs.epoch.carry_all.Goals as goal

pub loop-place-preserved : goal.loop-place-preserved
loop-place-preserved c =
    let l = c.loop-place in
    let all = c.args.labels.now in
    let count = c.len-place-end.ensures in
    let ok = all.ok in
    let inside : l.place < length all.items = omega (arith, c.loop-place-test.true, count, ok) in
    ap (λ (k : Label). slice_set l.labels.items l.place k) c.carry.ensures
    ∙ map_over_more (carried c.args.cut.now c.args.table.now) all.items l.labels.items l.place c.index.result.now inside l.invariant c.index.ensures
