-- Answers whose sets are kept once where they are equal.
use Rattle.std.specs.Prelude.{ℕ, ◌<◌, List, [], length, map, get_or, All}
use Rattle.lists.specs.Sets.{Ascends}
use Rattle.flow_model.specs.Orders.{source_cmp}
use Rattle.flow_model.specs.declared.SourceByte.{SourceByte}

-- the answers whose sets have these numbers
abbrev pub answers_in : List (List SourceByte) → List ℕ → List (List SourceByte)
answers_in sets numbers = map (λ number. get_or sets number []) numbers

-- each answer has its set, and ascends
pub record AreKept (sets : List (List SourceByte)) (numbers : List ℕ) : Type 0 where
  pub within : All (λ number. number < length sets) numbers
  pub ascending : All (Ascends source_cmp) (answers_in sets numbers)
