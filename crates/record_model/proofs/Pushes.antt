-- One more record after others. Crates above cite these lemmas.
use Rattle.std.proofs.Common.{◌≡◌, ℕ, List, [], ◌∷◌, ◌++◌, ap, sym, ◌∙◌, subst, append_assoc, append-nil}
use Rattle.std.proofs.lemmas.Grind.{flat_map-append}
use Rattle.log_model.specs.declared.CallRecord.{CallRecord}
use Rattle.record_model.specs.Recorded.{AllReadNext, ReadsNext, clock_values, clock_values_of}

pub reads_push : (inputs : List (List ℕ)) (piece : ℕ) (before rs : List CallRecord) (r : CallRecord)
    → AllReadNext inputs piece before rs → ReadsNext inputs piece (before ++ rs) r
    → AllReadNext inputs piece before (rs ++ r ∷ [])
reads_push inputs piece before [] r all here =
    (subst (λ (w : List CallRecord). ReadsNext inputs piece w r) (append-nil before) here, tt)
reads_push inputs piece before (x ∷ xs) r all here = (
  all.0,
  reads_push inputs piece (before ++ x ∷ []) xs r all.1
      (subst (λ (w : List CallRecord). ReadsNext inputs piece w r) (sym (append_assoc before (x ∷ []) xs)) here),
)

pub values_push : (rs : List CallRecord) (r : CallRecord)
    → clock_values (rs ++ r ∷ []) ≡ clock_values rs ++ clock_values_of r
values_push rs r = flat_map-append clock_values_of rs (r ∷ [])
    ∙ ap (λ (w : List ℕ). clock_values rs ++ w) (append-nil (clock_values_of r))
