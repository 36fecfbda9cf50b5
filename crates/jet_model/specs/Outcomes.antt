-- Steps of which each goes on where the one before it was well.
use Rattle.std.specs.Prelude.{◌≡◌, Result, Ok, Err}
use Rattle.jet_refusal.specs.declared.refusal.Refusal.{Refusal}

-- the next step, on what the first gave; or what was wrong with the first
abbrev pub and_then : {A B E : Type 0} → Result A E → (A → Result B E) → Result B E
and_then (Ok x) next = next x
and_then (Err e) next = Err e

-- an error as a refusal
abbrev pub or_refused : {A E : Type 0} → (E → Refusal) → Result A E → Result A Refusal
or_refused refusal_of (Ok x) = Ok x
or_refused refusal_of (Err e) = Err (refusal_of e)

-- the same, where what the next step may give is a relation
abbrev pub AndThen : {A B E : Type 0} → Result A E → (A → Result B E → Type 0) → Result B E → Type 0
AndThen (Ok x) next answer = next x answer
AndThen (Err e) next answer = answer ≡ Err e
