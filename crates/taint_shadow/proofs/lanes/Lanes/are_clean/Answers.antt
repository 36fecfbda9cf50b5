use Rattle.std.proofs.Common.{◌≡◌, ℕ, ap₂, arith, bit_or, ◌∙◌}
use Rattle.std.proofs.lemmas.Bool.{eqb-true}
use Rattle.std.proofs.lemmas.Nat.{le_or_l, le_or_r}
use Rattle.taint_shadow.specs.Labels.{nothing_label}
use Rattle.taint_shadow.proofs.lanes.Lanes.are_clean.Goals as goal

pub returns : goal.returns
returns c = λ t.
    let x = c.args.self in
    let a = x.first.number in
    let b = x.second.number in
    let d = x.third.number in
    let e = x.fourth.number in
    let two = bit_or a b in
    let three = bit_or two d in
    let none : bit_or three e ≡ 0 = eqb-true _ 0 t in
    let no_three : three ≡ 0 = omega (arith, none, le_or_l three e) in
    let no_two : two ≡ 0 = omega (arith, no_three, le_or_l two d) in
    ap₂ (λ (k l : ℕ). record { first = record { number = k }; second = record { number = l }; third = x.third; fourth = x.fourth })
    (omega (arith, no_two, le_or_l a b)) (omega (arith, no_two, le_or_r a b))
    ∙ ap₂ (λ (k l : ℕ). record { first = nothing_label; second = nothing_label; third = record { number = k }; fourth = record { number = l } })
    (omega (arith, no_three, le_or_r two d)) (omega (arith, none, le_or_r three e))
