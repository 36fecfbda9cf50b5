use Rattle.std.proofs.Common.{◌≡◌, List, [], ◌++◌, reverse, refl, sym, ap, ◌∙◌, append-nil, arith}
use Rattle.std.proofs.lemmas.List.{nil_from_length}
use Rattle.epoch_turns.proofs.Lists.{goes_on_top}
use Rattle.epoch_turns.proofs.splitting.append_stack.Goals as goal

pub loop-item-preserved : goal.loop-item-preserved
loop-item-preserved g c =
    sym (goes_on_top c.push.new.self.items c.loop-item.items.items c.pop.new.self.items c.loop-item.stack.items _ c.in-Some.item c.in_ok-push.ensures.items c.in-Some.ensures.items refl)
    ∙ c.loop-item.invariant

pub returns : goal.returns
returns g c =
    let none : c.loop-item.stack.items ≡ [] = nil_from_length c.loop-item.stack.items (omega (arith, c.in_default.ensures.cases.0, c.loop-item.stack.ok.0)) in
    sym (append-nil c.loop-item.items.items) ∙ ap (λ (xs : List g.row.T.Denot). c.loop-item.items.items ++ reverse xs) (sym none) ∙ c.loop-item.invariant
