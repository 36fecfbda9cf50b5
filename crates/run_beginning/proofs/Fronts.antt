-- The calls among the first n steps, of calls that rise.
use Rattle.std.proofs.Common.{◌≡◌, ◌∙◌, ap, sym, subst, arith, ℕ, ◌+◌, ◌<◌, ◌≤◌, ◌⊎◌, inl, inr, Bool, List, [], ◌∷◌, ◌++◌, length, take, drop, get_or, append_assoc, append-nil}
use Rattle.std.specs.Prelude.{if◌then◌else◌}
use Rattle.std.specs.List.{AllByRecursion, sum_by}
use Rattle.std.proofs.lemmas.Bool.{cases_lt, lt-ltb}
use Rattle.std.proofs.lemmas.List.{take_more, drop_more}
use Rattle.std.proofs.lemmas.List.Sums.{sum_by-cons}
use Rattle.log_model.specs.declared.CallRecord.{CallRecord}
use Rattle.log_model.specs.Logs.{IsRecord, Rise, at_of, least_after, share}
use Rattle.replay_model.specs.Offsets.{records_before}
use Rattle.replay_model.proofs.Track.{none_before}

pub kept : (n : ℕ) (r : CallRecord) (rs : List CallRecord) → at_of r < n → records_before n (r ∷ rs) ≡ r ∷ records_before n rs
kept n r rs h = ap (λ (b : Bool). if b then r ∷ records_before n rs else records_before n rs) (lt-ltb (at_of r) n h)

-- the first call that isn't among the first n steps is followed by none that is
pub stops : (n t : ℕ) (r : CallRecord) (rs : List CallRecord) → n ≤ at_of r → Rise t (r ∷ rs) → records_before n (r ∷ rs) ≡ []
stops n t r rs h rise = none_before n (at_of r) (r ∷ rs) h (omega arith, rise.1)

-- ---- they are a log's calls

pub record IsFront (n t inputs : ℕ) (rs front : List CallRecord) : Type 0 where
  pub records : AllByRecursion IsRecord front
  pub rise : Rise t front
  pub ends_after : least_after t front ≤ n
  pub shares : sum_by (share inputs) front ≤ sum_by (share inputs) rs

nothing : (n t inputs : ℕ) (rs : List CallRecord) → t ≤ n → IsFront n t inputs rs []
nothing n t inputs rs h = record { records = tt; rise = tt; ends_after = h; shares = omega arith }

pub is_front : (n t inputs : ℕ) (rs : List CallRecord) → t ≤ n → AllByRecursion IsRecord rs → Rise t rs → IsFront n t inputs rs (records_before n rs)
is_front n t inputs [] h forms rise = nothing n t inputs [] h
is_front n t inputs (r ∷ rs) h forms rise =
    by (λ below. is_front n (at_of r + 1) inputs rs (omega (arith, below)) forms.1 rise.1) (cases_lt (at_of r) n)
  where
    by : (at_of r < n → IsFront n (at_of r + 1) inputs rs (records_before n rs)) → (at_of r < n) ⊎ (n ≤ at_of r) → IsFront n t inputs (r ∷ rs) (records_before n (r ∷ rs))
    by ih (inl below) =
        let later = ih below in
        let more : IsFront n t inputs (r ∷ rs) (r ∷ records_before n rs) = record {
          records = (forms.0, later.records);
          rise = (rise.0, later.rise);
          ends_after = later.ends_after;
          shares = omega (arith, later.shares, sum_by-cons (share inputs) r rs, sum_by-cons (share inputs) r (records_before n rs));
        }
        in
        subst (IsFront n t inputs (r ∷ rs)) (sym (kept n r rs below)) more
    by ih (inr past) = subst (IsFront n t inputs (r ∷ rs)) (sym (stops n t r rs past rise)) (nothing n t inputs (r ∷ rs) h)

-- ---- counted one after another

-- the first i calls are kept, and the others are counted
pub record IsCountedTo (n : ℕ) (rs : List CallRecord) (i : ℕ) : Type 0 where
  pub front : records_before n rs ≡ take i rs ++ records_before n (drop i rs)
  pub rise : Rise 0 (drop i rs)

lower : (t : ℕ) (rs : List CallRecord) → Rise t rs → Rise 0 rs
lower t [] rise = tt
lower t (r ∷ rs) rise = (omega arith, rise.1)

pub count_more : (n : ℕ) (rs : List CallRecord) (i : ℕ) (r : CallRecord) → i < length rs → r ≡ get_or rs i r → at_of r < n → IsCountedTo n rs i → IsCountedTo n rs (i + 1)
count_more n rs i r inside is below so_far =
    let more : drop i rs ≡ r ∷ drop (i + 1) rs = drop_more rs i r inside ∙ ap (λ (x : CallRecord). x ∷ drop (i + 1) rs) (sym is) in
    let one : take (i + 1) rs ≡ take i rs ++ r ∷ [] = take_more rs i r inside ∙ ap (λ (x : CallRecord). take i rs ++ x ∷ []) (sym is) in
    let rise : Rise 0 (r ∷ drop (i + 1) rs) = subst (Rise 0) more so_far.rise in
    record {
      front =
          so_far.front
          ∙ ap (λ (left : List CallRecord). take i rs ++ records_before n left) more
          ∙ ap (λ (left : List CallRecord). take i rs ++ left) (kept n r (drop (i + 1) rs) below)
          ∙ sym (append_assoc (take i rs) (r ∷ []) (records_before n (drop (i + 1) rs)))
          ∙ ap (λ (front : List CallRecord). front ++ records_before n (drop (i + 1) rs)) (sym one);
      rise = lower (at_of r + 1) (drop (i + 1) rs) rise.1;
    }

-- the count stops at a call that isn't among them
pub count_stops : (n : ℕ) (rs : List CallRecord) (i : ℕ) (r : CallRecord) → i < length rs → r ≡ get_or rs i r → n ≤ at_of r → IsCountedTo n rs i → take i rs ≡ records_before n rs
count_stops n rs i r inside is past so_far =
    let more : drop i rs ≡ r ∷ drop (i + 1) rs = drop_more rs i r inside ∙ ap (λ (x : CallRecord). x ∷ drop (i + 1) rs) (sym is) in
    let none = stops n 0 r (drop (i + 1) rs) past (subst (Rise 0) more so_far.rise) in
    sym (so_far.front ∙ ap (λ (left : List CallRecord). take i rs ++ records_before n left) more ∙ ap (λ (left : List CallRecord). take i rs ++ left) none ∙ append-nil (take i rs))
