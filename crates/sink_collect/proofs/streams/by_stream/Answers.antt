use Rattle.std.proofs.Common.{◌≡◌, ◌∙◌, ap, sym, subst, append_assoc, List, ◌∷◌, ◌++◌, rules}
use Rattle.std.specs.List.{flat_map}
use Rattle.std.specs.List.Sorted.{IsPermutation}
use Rattle.std.specs.Vec.Iter.{into_iter_items}
use Rattle.std.proofs.lemmas.List.Sorted.{IsPermutation-append_left, IsPermutation-trans}
use Rattle.sink_collect.specs.declared.sets.SinkSet.{SinkSet}
use Rattle.sink_collect.proofs.streams.by_stream.Goals as goal

pub loop-part-init : goal.loop-part-init
loop-part-init c =
    let first : List SinkSet = c.into_parts-first.result.0.items in
    let left = into_iter_items c.into_iter-part-iterator.result in
    let is_left : left ≡ c.into_parts-first.result.1.items = c.into_iter-part-iterator.ensures.into_iter_gives.0 in
    let rest : List SinkSet = flat_map (λ part. part.items) left in
    let all : first ++ rest ≡ c.args.sets =
    ap (λ parts. first ++ flat_map (λ part. part.items) parts) is_left ∙ c.into_parts-first.ensures in
    let now : List SinkSet = flat_map (λ stream. stream.items) c.distribute.new.streams.items in
    let moved : IsPermutation first now =
    subst (λ (l : List SinkSet). IsPermutation (l ++ first) now) c.in_ok-streams.ensures.empty c.in_ok-distribute.ensures.same in
    record {
      streams = search rules;
      same = subst (λ (l : List SinkSet). IsPermutation l (now ++ rest)) all
          (IsPermutation-append_left rest first now moved);
    }

pub loop-part-preserved : goal.loop-part-preserved
loop-part-preserved c =
    let before : List SinkSet = flat_map (λ stream. stream.items) c.loop-part.streams.items in
    let now : List SinkSet = flat_map (λ stream. stream.items) c.distribute-in-loop-part.new.streams.items in
    let part : List SinkSet = c.in-Some.part.items in
    let left = into_iter_items c.next.new.self in
    let rest : List SinkSet = flat_map (λ part. part.items) left in
    let same : (before ++ part) ++ rest ≡ before ++ flat_map (λ part. part.items) (into_iter_items c.loop-part.part-iterator) =
    append_assoc before part rest ∙ ap (λ parts. before ++ flat_map (λ part. part.items) parts) (sym c.in-Some.ensures.steps.0) in
    record {
      streams = search rules;
      same = IsPermutation-trans _ _ _ c.loop-part.invariant.same
          (subst (λ (l : List SinkSet). IsPermutation l (now ++ rest)) same
          (IsPermutation-append_left rest (before ++ part) now c.in_ok-distribute-2.ensures.same));
    }
