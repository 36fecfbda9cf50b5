use Rattle.std.proofs.Common.{List, [], ◌∷◌, ◌++◌, All, Vec, Global, sym, ap, ◌∙◌, subst, arith}
use Rattle.std.proofs.lemmas.List.Elements.{All-nil, All-push}
use Rattle.run_board.specs.Workers.{HasRoomFor}
use Rattle.run_board.proofs.board.make_lists.Goals as goal

pub loop-init : goal.loop-init
loop-init g c =
    let L : Type 0 = Vec g.row.T.Denot Global in
    let P : L → Type 0 = HasRoomFor c.args.room in
    let made = c.in_ok-lists.ensures in
    let p = c.push_reserved.ensures in
    record {
      count = omega (arith, made.len, p.len);
      room = omega (arith, made.capacity, p.capacity);
      lists = subst (All P) (sym (p.items ∙ ap (λ (l : List L). l ++ c.args.first ∷ []) made.items)) (All-push P [] c.args.first (All-nil P) c.requires.first);
    }

pub loop-preserved : goal.loop-preserved
loop-preserved g c =
    let L : Type 0 = Vec g.row.T.Denot Global in
    let P : L → Type 0 = HasRoomFor c.args.room in
    let i = c.loop.invariant in
    let made = c.in_ok-with_capacity.ensures in
    let p = c.push_reserved-in-loop.ensures in
    record {
      count = omega (arith, i.count, p.len);
      room = omega (arith, i.room, p.capacity);
      lists = subst (All P) (sym p.items) (All-push P c.loop.lists.items _ i.lists (made.items, made.capacity));
    }
