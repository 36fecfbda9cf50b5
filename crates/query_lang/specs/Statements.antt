-- What the crate's statements stand for.
use Rattle.std.specs.Prelude.{◌≡◌, ℕ, ◌+◌, ◌-◌, true, false, if◌then◌else◌, List, [], ◌∷◌, Result, Ok, Err}
use Rattle.flow_model.specs.declared.InnerSink.{InnerSink}
use Rattle.report_model.specs.declared.QueryKind.{QueryKind}
use Rattle.report_model.specs.declared.QueryKind.TheVariants.{Word, Count}
use Rattle.report_model.specs.Grammar.{Statement, RuleIs, Source, Sink, Points, is_all, is_at, points_of_memory, points_of_register}
use Rattle.query_lang.specs.declared.points.Points.{Points as PlainPoints}
use Rattle.query_lang.specs.declared.points.Points.TheVariants.{Memory, Register}
use Rattle.query_lang.specs.declared.statement.Statement.{Statement as PlainStatement}
use Rattle.query_lang.specs.declared.statement.Statement.TheVariants as plain
use Rattle.query_lang.specs.declared.statement.RangeWords.{RangeWords}
use Rattle.query_lang.specs.declared.statement.RangeWords.TheVariants as operands
use Rattle.query_lang.specs.Choices.{choice_shown}

-- the bytes from the first address to the last, or the lanes of the register
abbrev pub points_shown : PlainPoints → List InnerSink
points_shown (Memory first last time) = points_of_memory first (last + 1 - first) time
points_shown (Register number time) = points_of_register number time

abbrev pub statement_shown : PlainStatement → Statement
statement_shown (plain.RuleIs rule) = RuleIs rule
statement_shown (plain.Source choice) = Source (choice_shown choice)
statement_shown (plain.Sink choice) = Sink (choice_shown choice)
statement_shown (plain.Points points) = Points (points_shown points)

-- the words after `source` or `sink`
abbrev pub AreRangeWords : List (List ℕ) → RangeWords → Type 0
AreRangeWords ws operands.All = (word : List ℕ) × (ws ≡ word ∷ []) × (is_all word ≡ true)
AreRangeWords ws (operands.Channel channel) = (ws ≡ channel.now ∷ []) × (is_all channel.now ≡ false)
AreRangeWords ws (operands.Range channel from past) = (ws ≡ channel.now ∷ from.now ∷ past.now ∷ []) × (is_all channel.now ≡ false)

-- the word after `at`, where these are all the words
abbrev pub after_at : List (List ℕ) → Result (List ℕ) QueryKind
after_at [] = Err Count
after_at (word ∷ []) = if is_at word then Err Count else Err Word
after_at (word ∷ time ∷ []) = if is_at word then Ok time else Err Word
after_at (word ∷ time ∷ next ∷ more) = if is_at word then Err Count else Err Word
