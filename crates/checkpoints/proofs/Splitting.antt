-- Windows of memory, page by page.
use Rattle.std.proofs.Common.{◌≡◌, ℕ, zero, suc, ◌+◌, ◌-◌, ◌*◌, ◌<◌, ◌≤◌, ◌⊎◌, inl, inr, min, Bool, List, [], ◌∷◌, ◌++◌, length, take, drop, get_or, refl, arith, ap, sym, ◌∙◌, length-take, length-drop, length-append, append-nil, append_assoc, subst}
use Rattle.std.specs.Prelude.{if◌then◌else◌}
use Rattle.std.specs.List.{All}
use Rattle.std.proofs.lemmas.Cmp.{nat_list_eq_equiv}
use Rattle.std.proofs.lemmas.Option.{slice_get-get_or, slice_get_past}
use Rattle.std.proofs.lemmas.Grind.{div_ceil_times}
use Rattle.std.proofs.lemmas.Bool.{cases_lt}
use Rattle.std.proofs.lemmas.List.{take_all, drop_all, take_min, get_or_append_left, get_or_push}
use Rattle.checkpoints.specs.Pages.{page, page_count, differs, changed_among, changed, page_before, page_of, IsHeld, ArePagesOf, IsExtended}

-- the pages up to a place, and the page there
take_nil : (n : ℕ) → take {A = ℕ} n [] ≡ []
take_nil zero = refl
take_nil (suc n) = refl

take_sum : (n m : ℕ) (xs : List ℕ) → take n xs ++ take m (drop n xs) ≡ take (n + m) xs
take_sum zero m xs = ap (λ k. take k xs) (omega arith)
take_sum (suc n) m [] = take_nil m ∙ sym (take_nil (suc n + m))
take_sum (suc n) m (x ∷ xs) =
    let more : suc (n + m) ≡ suc n + m = omega arith in
    ap (λ (ys : List ℕ). x ∷ ys) (take_sum n m xs) ∙ ap (λ k. take k (x ∷ xs)) more

pub next_page : (window : List ℕ) (k : ℕ) → take (k * 4096) window ++ page window k ≡ take ((k + 1) * 4096) window
next_page window k = take_sum (k * 4096) 4096 window ∙ ap (λ n. take n window) (omega arith)

-- all pages are all bytes
pub all_pages : (window : List ℕ) (n : ℕ) → n ≡ page_count window → take (n * 4096) window ≡ window
all_pages window n e = take_all (n * 4096) window (let c = div_ceil_times (length window) 4096 (omega arith) in omega (arith, e, c.0))

-- no page is past the last
pub past_pages : (window : List ℕ) (k : ℕ) → page_count window ≤ k → page window k ≡ []
past_pages window k h = ap (λ ys. take 4096 ys) (drop_all (k * 4096) window (let c = div_ceil_times (length window) 4096 (omega arith) in omega (arith, h, c.0)))

-- a page is cut out of its window
pub page_cut : (window : List ℕ) (k past : ℕ) → past ≡ min (length window) (k * 4096 + 4096) → take (past - k * 4096) (drop (k * 4096) window) ≡ page window k
page_cut window k past e =
    let size : past - k * 4096 ≡ min 4096 (length (drop (k * 4096) window)) = omega (arith, e, length-drop (k * 4096) window) in
    ap (λ n. take n (drop (k * 4096) window)) size ∙ take_min 4096 (drop (k * 4096) window)

-- a loop over all places has seen as many as there are pages
pub all_places : (window : List ℕ) (count place : ℕ) → count ≡ page_count window → count ≤ place → place ≤ count → place ≡ page_count window
all_places window count place e past below = omega arith

pub nonempty : (window : List ℕ) (k : ℕ) → k < page_count window → 0 < length (page window k)
nonempty window k h = let c = div_ceil_times (length window) 4096 (omega arith) in omega (arith, h, c.1, length-take 4096 (drop (k * 4096) window), length-drop (k * 4096) window)

-- each page of a window differs from none
differs_none : (bytes : List ℕ) → 0 < length bytes → differs [] bytes ≡ 1
differs_none [] h = absurd (omega (arith, h))
differs_none (x ∷ xs) h = refl

none_among : (window : List ℕ) (n : ℕ) → n ≤ page_count window → changed_among n [] window ≡ n
none_among window zero h = refl
none_among window (suc n) h =
    let one : differs (page [] n) (page window n) ≡ 1 = ap (λ (was : List ℕ). differs was (page window n)) (past_pages [] n (omega arith)) ∙ differs_none (page window n) (nonempty window n (omega (arith, h))) in
    omega (arith, one, none_among window n (omega (arith, h)))

pub changed_none : (window : List ℕ) → changed [] window ≡ page_count window
changed_none window = none_among window (page_count window) (omega arith)

-- what was at a place before is the page of the window before
before_by : (pages : List (List ℕ)) (numbers window : List ℕ) (k : ℕ) → ArePagesOf pages numbers window → (k < length numbers) ⊎ (length numbers ≤ k) → page_before pages numbers k ≡ page window k
before_by pages numbers window k are (inl h) = ap (page_of pages) (slice_get-get_or numbers k 0 h) ∙ (are.each k h).is
before_by pages numbers window k are (inr h) = ap (page_of pages) (slice_get_past numbers k h) ∙ sym (past_pages window k (omega (arith, h, are.count)))

pub before_is : (pages : List (List ℕ)) (numbers window : List ℕ) (k : ℕ) → ArePagesOf pages numbers window → page_before pages numbers k ≡ page window k
before_is pages numbers window k are = before_by pages numbers window k are (cases_lt k (length numbers))

-- a page that is held by the number at its place doesn't differ from what was there
pub same_there : (pages : List (List ℕ)) (numbers bytes : List ℕ) (k : ℕ) → k < length numbers → IsHeld pages (get_or numbers k 0) bytes → differs (page_before pages numbers k) bytes ≡ 0
same_there pages numbers bytes k h held =
    let before : page_before pages numbers k ≡ bytes = ap (page_of pages) (slice_get-get_or numbers k 0 h) ∙ held.is in
    ap (λ (was : List ℕ). differs was bytes) before ∙ ap (λ (b : Bool). if b then 0 else 1) (nat_list_eq_equiv.refl bytes)

-- ---- pages that were held stay held

pub held_later : (before after : List (List ℕ)) (number : ℕ) (bytes : List ℕ) → IsExtended before after → IsHeld before number bytes → IsHeld after number bytes
held_later before after number bytes more held = record {
  below = omega (arith, held.below, ap length more.is, length-append before more.more);
  is = ap (λ (pages : List (List ℕ)). get_or pages number []) more.is ∙ get_or_append_left before more.more [] number held.below ∙ held.is;
}

pub pages_later : (before after : List (List ℕ)) (numbers window : List ℕ) → IsExtended before after → ArePagesOf before numbers window → ArePagesOf after numbers window
pages_later before after numbers window more are = record {
  count = are.count;
  each = λ k h. held_later before after (get_or numbers k 0) (page window k) more (are.each k h);
}

pub extended_none : (pages : List (List ℕ)) → IsExtended pages pages
extended_none pages = record { more = []; is = sym (append-nil pages) }

pub extended_twice : (a b c : List (List ℕ)) → IsExtended a b → IsExtended b c → IsExtended a c
extended_twice a b c first second = record {
  more = first.more ++ second.more;
  is = second.is ∙ ap (λ (pages : List (List ℕ)). pages ++ second.more) first.is ∙ append_assoc a first.more second.more;
}

-- numbers of pages stay such
pub below_later : (before after : List (List ℕ)) (numbers : List ℕ) → IsExtended before after → All (λ number. number < length before) numbers → All (λ number. number < length after) numbers
below_later before after numbers more all k d h = omega (arith, all k d h, ap length more.is, length-append before more.more)

-- and one more number
pub below_more : (before after : List (List ℕ)) (numbers : List ℕ) (number : ℕ) → IsExtended before after → All (λ n. n < length before) numbers → number < length after → All (λ n. n < length after) (numbers ++ number ∷ [])
below_more before after numbers number more all own k d h = by (cases_lt k (length numbers))
  where
    by : (k < length numbers) ⊎ (length numbers ≤ k) → get_or (numbers ++ number ∷ []) k d < length after
    by (inl below) = rw (get_or_append_left numbers (number ∷ []) d k below) (below_later before after numbers more all k d below)
    by (inr past) =
        let here : length numbers ≡ k = omega (arith, h, past, length-append numbers (number ∷ [])) in
        rw (get_or_push numbers number d k here) own

module _ (before after : List (List ℕ)) (numbers window : List ℕ) (number place : ℕ) (more : IsExtended before after) (long : length numbers ≡ place) (each : (k : ℕ) → k < place → IsHeld before (get_or numbers k 0) (page window k)) (held : IsHeld after number (page window place)) where
  one : (k : ℕ) → k < place + 1 → (k < place) ⊎ (place ≤ k) → IsHeld after (get_or (numbers ++ number ∷ []) k 0) (page window k)
  one k h (inl below) =
      let there = held_later before after (get_or numbers k 0) (page window k) more (each k below) in
      rw (get_or_append_left numbers (number ∷ []) 0 k (omega (arith, long, below))) there
  one k h (inr past) =
      let here : place ≡ k = omega arith in
      let number_is : get_or (numbers ++ number ∷ []) place 0 ≡ number = get_or_push numbers number 0 place long in
      subst (λ (n : ℕ). IsHeld after (get_or (numbers ++ number ∷ []) n 0) (page window n)) here (rw number_is held)

  -- one more page is held
  pub next_is_held : (k : ℕ) → k < place + 1 → IsHeld after (get_or (numbers ++ number ∷ []) k 0) (page window k)
  next_is_held k h = one k h (cases_lt k place)
