use Rattle.std.proofs.Common.{rules, ◌≡◌, ◌^◌, w64, ◌*ℤ◌, ap, ◌∙◌}
use Rattle.std.proofs.lemmas.Int.{to_z-of_z, fits_signed_mul}
use mir.Val.{SFits}
use Rattle.isa.specs.Machine.{as_signed, upper_word}
use Rattle.rv_machine.proofs.state.arithmetic.multiply_high.Goals as goal

pub returns : goal.returns
returns c =
    let a : c.from.result ≡ as_signed c.args.x = search rules in
    let b : c.from-2.result ≡ as_signed c.args.y = search rules in
    let h = rw (a, b) at c.upper_word.ensures in
    let f : SFits w64 (as_signed c.args.x) = search rules in
    let g : SFits w64 (as_signed c.args.y) = search rules in
    let p : SFits w64 (as_signed c.args.x *ℤ as_signed c.args.y) = fits_signed_mul w64 (as_signed c.args.x) (as_signed c.args.y) (2 ^ 31) (2 ^ 31) (search rules) (search rules) (search rules) in
    h ∙ ap upper_word (rw (to_z-of_z w64 (as_signed c.args.x) f, to_z-of_z w64 (as_signed c.args.y) g) (to_z-of_z w64 (as_signed c.args.x *ℤ as_signed c.args.y) p))
