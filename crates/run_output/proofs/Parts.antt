-- The parts of several times are the texts that these have alone.
use Rattle.std.proofs.Common.{◌≡◌, ◌≤◌, ℕ, ◌++◌, List, [], ◌∷◌, length, refl, arith}
use Rattle.std.specs.Prelude.{codes}
use Rattle.std.specs.List.{flat_map}
use Rattle.isa.specs.Machine.{State}
use Rattle.log_model.specs.Logs.{Log}
use Rattle.run_output.specs.Summary.{number_line}
use Rattle.run_output.specs.Stacks.{stacks_text, with_lines_end}

pub alone : (s : State) (log : Log) (ts : List ℕ) → 2 ≤ length ts → stacks_text s log ts
    ≡ with_lines_end (flat_map (λ t. number_line (codes "stack") t ++ stacks_text s log (t ∷ [])) ts)
alone s log (t ∷ []) h = absurd (omega arith)
alone s log ts h = refl
