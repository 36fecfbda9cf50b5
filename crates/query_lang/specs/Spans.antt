-- Spans, and their order.
use Rattle.std.specs.Prelude.{◌≡◌, ℕ, ◌<◌, ◌≤◌, ◌⊎◌, ◌==◌, nat_lt, nat_le, ◌&&◌, ◌||◌, Bool, true, false, List, [], ◌∷◌, Option, Some, None}
use Rattle.std.specs.List.{list_any}
use Rattle.std.specs.List.Sorted.{IsPartitionPoint}
use Rattle.report_model.specs.Query.{chooses}
use Rattle.query_lang.specs.declared.choice.Offsets.{Offsets}
use Rattle.query_lang.specs.declared.choice.Span.{Span}
use Rattle.query_lang.specs.Choices.{span_choice}

-- the first offset that may be chosen
abbrev pub start_in : Option Offsets → ℕ
start_in None = 0
start_in (Some o) = o.from

abbrev pub start_of : Span → ℕ
start_of s = start_in s.offsets

abbrev pub span_has : ℕ → ℕ → Span → Bool
span_has c o s = chooses (span_choice s ∷ []) c o

-- the span starts at the byte or before it
abbrev pub starts_by : ℕ → ℕ → Span → Bool
starts_by c o s = nat_lt s.channel c || ((s.channel == c) && nat_le (start_of s) o)

-- the offsets end at one or after it
abbrev pub reach_to : Option Offsets → ℕ → Bool
reach_to None n = true
reach_to (Some o) n = nat_le n o.past

-- of two spans of which the second doesn't start before the first, no byte lies between them
abbrev pub reaches : Span → Span → Bool
reaches s t = (s.channel == t.channel) && reach_to s.offsets (start_of t)

-- the second doesn't start before the first
abbrev pub NotAfter : Span → Span → Type 0
NotAfter s t = (s.channel < t.channel) ⊎ ((s.channel ≡ t.channel) × (start_of s ≤ start_of t))

-- the first ends before the second starts
abbrev pub EndBefore : Option Offsets → ℕ → Type 0
EndBefore None n = ⊥
EndBefore (Some o) n = o.past < n

abbrev pub Precedes : Span → Span → Type 0
Precedes s t = (s.channel < t.channel) ⊎ ((s.channel ≡ t.channel) × (start_of s ≤ start_of t) × EndBefore s.offsets (start_of t))

abbrev pub IsAtStartOf : Span → Span → Type 0
IsAtStartOf s t = (t.channel ≡ s.channel) × (start_of t ≡ start_of s)

-- the third has the bytes of the other two
abbrev pub HasBoth : Span → Span → Span → Type 0
HasBoth s t both = (c o : ℕ) → span_has c o both ≡ (span_has c o s || span_has c o t)

-- they have the same bytes
abbrev pub SameBytes : List Span → List Span → Type 0
SameBytes xs ys = (c o : ℕ) → list_any (span_has c o) xs ≡ list_any (span_has c o) ys

-- the first n of the spans start by the byte, and the others after it
abbrev pub StartUpTo : ℕ → ℕ → List Span → ℕ → Type 0
StartUpTo c o spans n = IsPartitionPoint (λ s. starts_by c o s ≡ true) (λ s. starts_by c o s ≡ false) spans n
