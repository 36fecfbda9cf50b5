use Rattle.std.proofs.Common.{◌≡◌, ◌≤◌, ◌-◌, ◌++◌, List, [], ◌∷◌, ℕ, refl, length, drop, ap, sym, ◌∙◌, arith, length-drop, append-nil}
use Rattle.path_find.specs.declared.writing.Stop.{Stop}
use Rattle.path_find.specs.Text.{hop_lines}
use Rattle.path_find.proofs.writing.push_hops.Goals as goal

no_hop : (stops : List Stop) → length stops ≤ 1 → hop_lines stops ≡ []
no_hop [] h = refl
no_hop (a ∷ []) h = refl
no_hop (a ∷ b ∷ bs) h = absurd (omega (arith, h))

pub returns : goal.returns
returns c =
    let left = drop (c.loop-i.i - 1) c.args.stops.now in
    let few : length left ≤ 1 = omega (arith, length-drop (c.loop-i.i - 1) c.args.stops.now) in
    sym (append-nil c.loop-i.out.items) ∙ ap (λ (xs : List ℕ). c.loop-i.out.items ++ xs) (sym (no_hop left few)) ∙ c.loop-i.invariant
