-- The bytes of some instructions and one more.
use Rattle.std.proofs.Common.{◌≡◌, ℕ, ◌+◌, ◌<◌, List, ◌++◌, length, take, get_or, w32, ap, ◌∙◌, arith}
use Rattle.std.specs.Int.{to_le_bytes}
use Rattle.std.proofs.lemmas.Grind.{common_steps}
use Rattle.std.proofs.lemmas.List.{take_more, append_assoc}
use Rattle.isa.specs.declared.Instr.{Instr}
use Rattle.isa.specs.Encodings.{encoding}
use Rattle.guest_assembler.specs.ProgramFile.{bytes_of}

-- one more instruction, whose bytes are these, goes to the end of what has the first ones
pub one_more : (code : List Instr) (i : ℕ) (d : Instr) (front items bytes : List ℕ) → i < length code → bytes ≡ to_le_bytes w32 (encoding (get_or code i d)) → items ≡ front ++ bytes_of (take i code) → items ++ bytes ≡ front ++ bytes_of (take (i + 1) code)
one_more code i d front items bytes inside is before =
    let next : bytes_of (take i code) ++ bytes ≡ bytes_of (take (i + 1) code) = rw (take_more code i d inside, is) (grind (arith, common_steps)) in
    ap (λ xs. xs ++ bytes) before ∙ append_assoc front (bytes_of (take i code)) bytes ∙ ap (λ xs. front ++ xs) next
