-- The registers of a note, one after another.
use Rattle.std.proofs.Common.{◌≡◌, ℕ, ◌+◌, ◌-◌, ◌≤◌, List, [], ◌∷◌, ◌++◌, map, sym, ap, ◌∙◌, arith}
use Rattle.std.specs.List.{range_with_len}
use Rattle.std.proofs.lemmas.List.{append_assoc, flat_map_more}
use Rattle.std.proofs.lemmas.List.FromFn.{map-range_with_len_more}
use Rattle.isa.specs.Machine.{State, reg}
use Rattle.log_model.specs.Logs.{word32}
use Rattle.core_file.specs.Headers.{words}

-- the pc, and n registers from x1 on
abbrev pub first_registers : State → ℕ → List ℕ
first_registers s n = words (s.pc ∷ map (reg s) (range_with_len 1 n))

one_more : (s : State) (n : ℕ) → first_registers s n ++ word32 (reg s (n + 1)) ≡ first_registers s (n + 1)
one_more s n =
    flat_map_more word32 [] (s.pc ∷ map (reg s) (range_with_len 1 n)) (reg s (n + 1))
    ∙ ap (λ (rs : List ℕ). words (s.pc ∷ rs)) (sym (map-range_with_len_more (reg s) 1 n (n + 1) (omega arith)))

-- the next register goes to the end of what has the registers before it
pub more_of : (s : State) (number : ℕ) (front items : List ℕ) → 1 ≤ number → items ≡ front ++ first_registers s (number - 1) → items ++ word32 (reg s number) ≡ front ++ first_registers s (number + 1 - 1)
more_of s number front items some before =
    let n = number - 1 in
    let this : n + 1 ≡ number = omega arith in
    let later : n + 1 ≡ number + 1 - 1 = omega arith in
    ap (λ (bytes : List ℕ). bytes ++ word32 (reg s number)) before
    ∙ append_assoc front (first_registers s n) (word32 (reg s number))
    ∙ ap (λ (bytes : List ℕ). front ++ bytes)
    (ap (λ (r : ℕ). first_registers s n ++ word32 (reg s r)) (sym this) ∙ one_more s n ∙ ap (first_registers s) later)
