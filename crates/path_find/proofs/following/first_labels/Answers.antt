use Rattle.std.proofs.Common.{◌<◌, length, map, arith, ap, sym, ◌∙◌}
use Rattle.std.specs.Prelude.{slice_get}
use Rattle.std.proofs.lemmas.List.{length-set}
use Rattle.std.proofs.lemmas.Option.{slice_get_within, same_Some}
use Rattle.flow_model.proofs.Located.{origins_located}
use Rattle.path_find.specs.Carriers.{kept, first_label}
use Rattle.path_find.proofs.Tables.{other_label, length_map}
use Rattle.path_find.proofs.following.first_labels.Goals as goal

pub first-requires : goal.first-requires
first-requires c = origins_located c.args.flow.now c.loop-i.i c.origins.result.now c.requires c.origins.ensures.value

pub loop-i-preserved : goal.loop-i-preserved
loop-i-preserved c =
    let f = first_label (kept c.args.carriers.now) in
    let inside : c.loop-i.i < length c.loop-i.labels = omega (arith, c.loop-i-test.true, c.count-i-end.ensures.few, c.loop-i.invariant.size) in
    record {
      size = length-set c.loop-i.labels c.loop-i.i c.first.result ∙ c.loop-i.invariant.size;
      first = λ j ls less at. other_label c.loop-i.labels c.loop-i.i j c.first.result (f ls) inside
          (λ same. c.first.ensures ∙ ap f (same_Some c.origins.result.now ls (sym c.origins.ensures.value ∙ ap (slice_get (map (λ t. t.origins) c.args.flow.now)) (sym same) ∙ at)))
          (λ apart. c.loop-i.invariant.first j ls (omega (arith, less, apart)) at);
    }

pub returns : goal.returns
returns c = λ i ls at.
    c.loop-i.invariant.first i ls (omega (arith, slice_get_within _ i ls at, length_map c.args.flow.now, c.count-i-end.ensures.value, c.loop-i-test.false)) at
