use Rattle.std.proofs.Common.{◌≡◌, ◌++◌, sym, ap, ◌∙◌, append-nil}
use Rattle.std.specs.Prelude.{Some}
use Rattle.std.specs.Map.Iter.{deref_pair}
use Rattle.std.proofs.lemmas.Map.Iter.{btree_map_turn, rest_all}
use Rattle.printed_names.specs.Lines.{lines_end}
use Rattle.decision_find.proofs.Counted.{found_at, compared_total, lines_of, text_is}
use Rattle.decision_find.proofs.writing.text.Goals as goal

pub push_group-requires : goal.push_group-requires
push_group-requires c =
    let groups = c.args.tracking.now.groups.by_place in
    let gives = c.into_iter-place-iterator.ensures.into_iter_gives in
    let turn = btree_map_turn deref_pair c.loop-place.yielded c.into_iter-place-iterator.result c.loop-place.place-iterator c.next.new.self c.next.result
    (c.in-Some.place, c.in-Some.group) c.loop-place.yielded_by c.in-Some.is c.next.ensures.steps compared_total groups gives.0 gives.5 in
    c.requires c.in-Some.place.now c.in-Some.group.now (found_at groups c.in-Some.place.now (Some c.in-Some.group.now) (sym turn.1))

pub returns : goal.returns
returns c ds h =
    let labels = c.args.tracking.now.labels in
    let groups = c.args.tracking.now.groups in
    let gives = c.into_iter-place-iterator.ensures.into_iter_gives in
    let none = rest_all deref_pair c.loop-place.place-iterator c.next.new.self c.next.result c.in-None.is c.next.ensures.steps in
    let all : c.loop-place.out.items ≡ lines_of labels groups.by_place.entries =
    sym (append-nil c.loop-place.out.items) ∙ ap (λ es. c.loop-place.out.items ++ lines_of labels es) (sym none) ∙ c.loop-place.invariant in
    text_is labels ds groups c.push_lines_end.new.out.items c.len.result h gives.6 (c.in_ok-push_lines_end.ensures ∙ ap (λ xs. xs ++ lines_end c.len.result) all)
    c.len.ensures.len
