use Rattle.std.proofs.Common.{rules, ◌≡◌, ◌==◌, if◌then◌else◌, ℕ, Bool, false, arith, ap, ap₂, sym, ◌∙◌}
use Rattle.std.proofs.lemmas.Bool.Decides.{nat_tests}
use Rattle.std.proofs.lemmas.Int.{to_z-of_z}
use Rattle.std.specs.Prelude.{int_rem}
use mir.Syntax.{w32}
use mir.Val.{SFits, of_z}
use Rattle.isa.specs.Machine.{as_signed, as_word, remainder}
use Rattle.rv_machine.proofs.state.arithmetic.remainder.Goals as goal

of_nonzero : (x y : ℕ) → (y == 0) ≡ false → remainder x y ≡ as_word (int_rem (as_signed x) (as_signed y))
of_nonzero x y e = ap (λ (b : Bool). if b then x else as_word (int_rem (as_signed x) (as_signed y))) e

pub returns-else-y-eq0 : goal.returns-else-y-eq0
returns-else-y-eq0 c =
    let a : c.cast_signed.result ≡ as_signed c.args.x = search rules in
    let b : c.cast_signed-else-y-eq0.result ≡ as_signed c.args.y = search rules in
    let f : SFits w32 c.cast_signed.result = search rules in
    let g : SFits w32 c.cast_signed-else-y-eq0.result = search rules in
    let h : SFits w32 c.wrapping_rem.result = search rules in
    let n : (c.args.y == 0) ≡ false = grind (arith, nat_tests) in
    let r : c.wrapping_rem.result ≡ int_rem (as_signed c.args.x) (as_signed c.args.y) =
    c.wrapping_rem.ensures ∙ ap₂ int_rem (to_z-of_z w32 c.cast_signed.result f ∙ a) (to_z-of_z w32 c.cast_signed-else-y-eq0.result g ∙ b) in
    c.cast_unsigned.ensures ∙ ap (of_z w32) (to_z-of_z w32 c.wrapping_rem.result h ∙ r) ∙ sym (of_nonzero c.args.x c.args.y n)
