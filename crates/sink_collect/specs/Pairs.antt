-- How many source bytes a report lists.
use Rattle.std.specs.Prelude.{ℕ, ◌-◌, ◌^◌, min, List, length, sum_by}
use Rattle.report_model.specs.Rows.{Row}

-- the source bytes listed in all
abbrev pub pairs : List Row → ℕ
pairs rs = sum_by (λ r. length r.sources) rs

-- a count stands still at its type's end
abbrev pub capped : ℕ → ℕ
capped n = min n (2 ^ 64 - 1)
