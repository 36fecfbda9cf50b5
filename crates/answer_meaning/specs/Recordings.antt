-- Two recordings of one program, over inputs that differ at some bytes.
use Rattle.std.specs.Prelude.{◌≡◌, ℕ, Bool, false, List, [], ◌∷◌, length, slice_index, All}
use Rattle.log_model.specs.Logs.{Log, IsBytes}
use Rattle.flow_model.specs.declared.Rule.TheVariants.{Compute}
use Rattle.flow_model.specs.declared.SourceByte.{SourceByte}
use Rattle.report_model.specs.Query.{Query, has_source}
use Rattle.record_model.specs.Recorded.{Setting, input_of, IsRecorded}
use Rattle.decision_find.specs.Decides.{deciding_rule}
use Rattle.decision_find.specs.Text.{deciding_query, decided_by}
use Rattle.answer_meaning.specs.DecisionLaws.{NoneDiffers, AreAlikeBut}

-- two settings are the same but for bytes of the inputs: the channels have as many bytes
pub record AreSettingsAlike (differs : SourceByte → Bool) (x y : Setting) : Type 0 where
  pub program : x.program ≡ y.program
  pub pages : x.pages ≡ y.pages
  pub channels : length x.inputs ≡ length y.inputs
  pub lengths : (c : ℕ) → length (input_of x.inputs c) ≡ length (input_of y.inputs c)
  pub bytes : (c o : ℕ) → differs (record { channel = c; offset = o }) ≡ false
      → slice_index (input_of x.inputs c) o ≡ slice_index (input_of y.inputs c) o
  pub piece : x.piece ≡ y.piece
  pub steps : x.steps ≡ y.steps

-- two lists of the clock's answers are alike as far as both go
abbrev pub AreAnswersAlike : List ℕ → List ℕ → Type 0
AreAnswersAlike [] others = Unit {0}
AreAnswersAlike (v ∷ vs) [] = Unit {0}
AreAnswersAlike (v ∷ vs) (w ∷ ws) = (v ≡ w) × AreAnswersAlike vs ws

-- a program is recorded twice, and the clock answers the same as far as both ask it. Where none of the decisions that a query
-- lists of the first run comes from an input byte that differs, and the query chooses all that differs, the runs are the same
-- but for the rows that, by the rule of decisions, list such a byte
abbrev pub RecordingsAreAlike : Type 0
RecordingsAreAlike = (x y : Setting) (answers others : List ℕ) (a b : Log) (differs : SourceByte → Bool)
    → AreSettingsAlike differs x y → IsBytes x.program → AreAnswersAlike answers others
    → (recorded : IsRecorded x answers a) → IsRecorded y others b → (q : Query) → deciding_rule q.rule ≡ Compute
    → ((z : SourceByte) → has_source q z ≡ false → differs z ≡ false)
    → All (λ d. NoneDiffers differs d.sources) (decided_by q recorded.fits.start a)
    → AreAlikeBut (deciding_query q) differs recorded.fits.start a b
