-- Worked examples, computed by the checker.
use Rattle.std.proofs.Common.{◌≡◌, ℕ, List, [], ◌∷◌, pos, refl}
use Rattle.std.specs.Prelude.{codes}
use Rattle.std.specs.Fmt.{digits}
use Rattle.log_model.specs.declared.CallRecord.TheVariants.{Read, Write}
use Rattle.log_model.specs.declared.RunEnd.TheVariants.{Exit, Trap, Limit}
use Rattle.log_model.specs.Logs.{Log}
use Rattle.run_output.specs.Output.{output}
use Rattle.run_output.specs.Input.{input}
use Rattle.run_output.specs.Summary.{summary_text, end_line}

-- a program that reads four bytes and writes them, and exits in its twelfth step; its digest is in no line
abbrev copy_four : List ℕ → Log
copy_four digest = record {
  pages = 1;
  inputs = 1;
  digest = digest;
  records = Read 5 (0 ∷ 0x10100 ∷ 4 ∷ []) (pos 4) (codes "ABCD") ∷
      Write 8 (1 ∷ 0x10100 ∷ 4 ∷ []) (pos 4) (codes "ABCD") ∷ [];
  end = Exit 11 0;
}

-- an illegal instruction at the entry
abbrev illegal : List ℕ → Log
illegal digest = record { pages = 1; inputs = 0; digest = digest; records = []; end = Trap 0 2 0x10000 }

copy_four-summary : (digest : List ℕ)
    → summary_text (copy_four digest) ≡ codes "steps 12\ncalls 2\nread 4\nwritten 4\nend exit 0\n"
unfolding digits
copy_four-summary digest = refl

illegal-summary : (digest : List ℕ)
    → summary_text (illegal digest) ≡ codes "steps 0\ncalls 0\nread 0\nwritten 0\nend trap 2 65536\n"
unfolding digits
illegal-summary digest = refl

limit-line : (at : ℕ) → end_line (Limit at) ≡ codes "end limit\n"
limit-line at = refl

copy_four-moved : (digest : List ℕ) → (output 1 (copy_four digest) ≡ codes "ABCD") × (output 0 (copy_four digest) ≡ [])
    × (input 0 (copy_four digest) ≡ codes "ABCD") × (input 1 (copy_four digest) ≡ [])
copy_four-moved digest = (refl, refl, refl, refl)

illegal-no_output : (digest : List ℕ) → output 1 (illegal digest) ≡ []
illegal-no_output digest = refl
