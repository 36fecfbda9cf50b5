-- Answers that were gathered.
use Rattle.std.specs.Prelude.{◌≡◌, ℕ, Bool, true, List, [], get_or}
use Rattle.std.specs.List.{list_any}
use Rattle.lists.specs.Sets.{has}
use Rattle.flow_model.specs.Orders.{source_cmp}
use Rattle.flow_model.specs.declared.SourceByte.{SourceByte}

-- one of the answers at these places has the source byte
abbrev pub is_at_one_of : List (List SourceByte) → List ℕ → SourceByte → Bool
is_at_one_of answers places b = list_any (λ place. has source_cmp b (get_or answers place [])) places

-- what the answers at these places have was gathered
abbrev pub AreGathered : List (List SourceByte) → List ℕ → List SourceByte → Type 0
AreGathered answers places gathered = (b : SourceByte) → is_at_one_of answers places b ≡ true → has source_cmp b gathered ≡ true
