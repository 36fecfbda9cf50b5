-- The texts of rows.
use Rattle.std.specs.Prelude.{◌≡◌, ℕ, List, Vec}
use Rattle.std.specs.List.{flat_map}
use Rattle.std.specs.declared.alloc.Global.{Global}
use Rattle.report_model.specs.Rows.{Row}
use Rattle.report_model.specs.Text.{row_text}

-- one after another, the texts are the lines of these rows
abbrev pub AreTextsOf : List Row → List (Vec ℕ Global) → Type 0
AreTextsOf rows texts = flat_map (λ text. text.items) texts ≡ flat_map row_text rows
