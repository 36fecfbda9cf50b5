-- Rows of which no two are of the same output byte or point.
use Rattle.std.specs.Prelude.{◌≡◌, List, [], ◌∷◌}
use Rattle.std.specs.List.{AllByRecursion}
use Rattle.report_model.specs.Rows.{Row}

-- the output byte or point of a row is none of the others'
abbrev pub IsApartFrom : Row → List Row → Type 0
IsApartFrom r rs = AllByRecursion (λ s. r.sink ≡ s.sink → ⊥) rs

-- no output byte and no point stands twice
abbrev pub AreDistinct : List Row → Type 0
AreDistinct [] = Unit {0}
AreDistinct (r ∷ rs) = IsApartFrom r rs × AreDistinct rs
