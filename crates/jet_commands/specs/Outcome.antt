-- Inputs and queries, as the definitions see them, and queries that are kept.
use Rattle.std.specs.Prelude.{◌≡◌, ℕ, List, [], ◌∷◌, map, Result, Ok, Err, Vec}
use Rattle.std.specs.declared.alloc.Global.{Global}
use Rattle.report_model.specs.Query.{Query, Alike}
use Rattle.jet_refusal.specs.declared.refusal.Refusal.{Refusal}

abbrev pub inputs_of : Vec (Vec ℕ Global) Global → List (List ℕ)
inputs_of inputs = map (λ (input : Vec ℕ Global). input.items) inputs.items

abbrev pub queries_of : Vec Query Global → List Query
queries_of queries = queries.items

-- ---- queries that are kept

-- each of several queries that are kept asks alike the one that it is kept for
abbrev pub AskAlike : List Query → List Query → Type 0
AskAlike [] [] = Unit {0}
AskAlike [] (q ∷ qs) = ⊥
AskAlike (kept ∷ others) [] = ⊥
AskAlike (kept ∷ others) (q ∷ qs) = Alike kept q × AskAlike others qs

-- what is kept is so related to what is written; or both are the same refusal
abbrev pub IsKeptFor : {A : Type 0} → (A → A → Type 0) → Result A Refusal → Result A Refusal → Type 0
IsKeptFor alike (Ok kept) (Ok written) = alike kept written
IsKeptFor alike (Ok kept) (Err r) = ⊥
IsKeptFor alike (Err r) (Ok written) = ⊥
IsKeptFor alike (Err r) (Err s) = r ≡ s

-- two queries, of which the first is kept for the second, ask alike; or both are the same refusal
abbrev pub AreAlike : Result Query Refusal → Result Query Refusal → Type 0
AreAlike kept written = IsKeptFor Alike kept written

-- the same of several queries
abbrev pub AreAllAlike : Result (List Query) Refusal → Result (List Query) Refusal → Type 0
AreAllAlike kept written = IsKeptFor AskAlike kept written
