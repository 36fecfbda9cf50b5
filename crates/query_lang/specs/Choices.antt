-- What the crate's choices stand for.
use Rattle.std.specs.Prelude.{◌≡◌, ℕ, Bool, true, false, List, [], ◌∷◌, ◌++◌, map, Option, Some, None, Result, Ok, Err}
use Rattle.report_model.specs.Query.{Choice, Offsets, chooses}
use Rattle.report_model.specs.Grammar.{everything}
use Rattle.query_lang.specs.declared.choice.Offsets.{Offsets as PlainOffsets}
use Rattle.query_lang.specs.declared.choice.Span.{Span}
use Rattle.query_lang.specs.declared.choice.Choice.{Choice as PlainChoice}
use Rattle.query_lang.specs.declared.choice.Choice.TheVariants as plain

abbrev pub offsets_of : Option PlainOffsets → Option Offsets
offsets_of None = None
offsets_of (Some o) = Some (record { from = o.from; past = o.past })

abbrev pub span_choice : Span → Choice
span_choice s = record { channel = Some s.channel; offsets = offsets_of s.offsets }

abbrev pub choice_shown : PlainChoice → Choice
choice_shown plain.All = everything
choice_shown (plain.Span s) = span_choice s

abbrev pub if_all : Bool → List Choice
if_all true = everything ∷ []
if_all false = []

-- each byte where that is said, and the spans
abbrev pub choices_of : Bool → List Span → List Choice
choices_of all spans = if_all all ++ map span_choice spans

-- the answer, with f of what it has
abbrev pub map_ok : {X Y E : Type 0} → (X → Y) → Result X E → Result Y E
map_ok f (Ok x) = Ok (f x)
map_ok f (Err e) = Err e

-- they choose the same bytes
abbrev pub SameChoices : List Choice → List Choice → Type 0
SameChoices xs ys = (c o : ℕ) → chooses xs c o ≡ chooses ys c o
