use Rattle.std.proofs.Common.{◌≡◌, ℕ, List, subst, ◌∙◌}
use Rattle.std.specs.Prelude.{IfOk}
use Rattle.hex.specs.Hex.{encode_lower}
use Rattle.debug_session.proofs.registers.registers_text.Goals as goal

-- the digits of all registers are long: nothing is to compute them
pub returns : goal.returns
returns c =
    let bytes = c.deref.ensures.value ∙ c.in_ok-bytes.ensures in
    subst (λ (bs : List ℕ). IfOk c.hexadecimal.result (λ text. text.items ≡ encode_lower bs)) bytes c.hexadecimal.ensures
