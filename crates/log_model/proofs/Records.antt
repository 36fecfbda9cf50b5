-- A list of records with one more at its end. Crates above cite these lemmas.
use Rattle.std.proofs.Common.{◌≡◌, ℕ, ◌+◌, ◌≤◌, List, [], ◌∷◌, ◌++◌, refl}
use Rattle.std.specs.List.{AllByRecursion}
use Rattle.log_model.specs.declared.CallRecord.{CallRecord}
use Rattle.log_model.specs.Logs.{at_of, least_after, Rise}

pub all_push : (P : CallRecord → Type 0) (rs : List CallRecord) (r : CallRecord) → AllByRecursion P rs → P r → AllByRecursion P (rs ++ r ∷ [])
all_push P [] r h p = (p, tt)
all_push P (x ∷ xs) r h p = (h.0, all_push P xs r h.1 p)

pub rise_push : (least : ℕ) (rs : List CallRecord) (r : CallRecord) → Rise least rs → least_after least rs ≤ at_of r → Rise least (rs ++ r ∷ [])
rise_push least [] r h p = (p, tt)
rise_push least (x ∷ xs) r h p = (h.0, rise_push (at_of x + 1) xs r h.1 p)

pub least_push : (least : ℕ) (rs : List CallRecord) (r : CallRecord) → least_after least (rs ++ r ∷ []) ≡ at_of r + 1
least_push least [] r = refl
least_push least (x ∷ xs) r = least_push (at_of x + 1) xs r
