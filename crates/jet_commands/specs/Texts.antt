-- The text of what a command gives.
use Rattle.std.specs.Prelude.{ℕ, ◌+◌, List, [], ◌∷◌, ◌++◌, codes}
use Rattle.std.specs.Fmt.{decimal}
use Rattle.report_model.specs.Rows.{Row}
use Rattle.report_model.specs.Text.{report_text}
use Rattle.report_model.specs.Influence.{influence_text}
use Rattle.jet_commands.specs.declared.pieces.Answer.{Answer}
use Rattle.jet_commands.specs.declared.pieces.Answer.TheVariants.{Whole, Rows, Turned, Several}

-- `query I`, and the report of these rows
abbrev pub numbered_rows : ℕ → List Row → List ℕ
numbered_rows number rs = codes "query " ++ decimal number ++ 0x0a ∷ [] ++ report_text rs

-- several reports, of which the first has this number
abbrev pub reports_text : ℕ → List (List Row) → List ℕ
reports_text number [] = []
reports_text number (rs ∷ rest) = numbered_rows number rs ++ reports_text (number + 1) rest

abbrev pub text_of : Answer → List ℕ
text_of (Whole text) = text.items
text_of (Rows rs) = report_text rs
text_of (Turned reaches) = influence_text reaches
text_of (Several reports) = reports_text 1 reports.items
