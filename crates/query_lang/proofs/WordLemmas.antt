-- The words of a line, taken off one by one.
use Rattle.std.proofs.Common.{◌≡◌, ℕ, suc, ◌+◌, ◌<◌, List, [], ◌∷◌, length, take, drop, refl, ap, sym, ◌∙◌, arith, Bool, true, false, cond, nat_lt, not}
use Rattle.std.proofs.lemmas.Bool.{lt-ltb}
use Rattle.std.proofs.lemmas.Bool.Decides.{nat_tests}
use Rattle.std.specs.Str.{bytes_eq}
use Rattle.std.specs.Prelude.{◌==◌}
use Rattle.std.specs.List.{slice_split, onto_first, filter, position_or_len}
use Rattle.report_model.specs.Grammar.{words, is_blank, is_comment}
use Rattle.query_lang.specs.Parts.{from_word, first_word, after_word}

abbrev pub has_bytes : List ℕ → Bool
has_bytes word = nat_lt 0 (length word)

one_more : (n : ℕ) → 1 + n ≡ suc n
one_more n = omega arith

-- blanks before a word say nothing
pub words-from_word : (xs : List ℕ) → words (from_word xs) ≡ words xs
words-from_word [] = refl
words-from_word (x ∷ xs) = by (words-from_word xs) (is_blank x) refl where
  by : words (from_word xs) ≡ words xs → (b : Bool) → is_blank x ≡ b → words (drop (cond (not (not b)) (1 + position_or_len (λ c. not (is_blank c)) xs) 0) (x ∷ xs)) ≡ words (x ∷ xs)
  by ih true e = rw (e, one_more (position_or_len (λ c. not (is_blank c)) xs)) ih
  by ih false e = refl

-- the parts of a text are what stands before its first blank, and others
pub parts_of : (xs : List ℕ) → (others : List (List ℕ)) × (slice_split is_blank xs ≡ first_word xs ∷ others) × (filter has_bytes others ≡ words (after_word xs))
parts_of [] = ([], refl, refl)
parts_of (x ∷ xs) = by (parts_of xs) (is_blank x) refl where
  by : (others : List (List ℕ)) × (slice_split is_blank xs ≡ first_word xs ∷ others) × (filter has_bytes others ≡ words (after_word xs))
      → (b : Bool) → is_blank x ≡ b
      → (others : List (List ℕ)) × (cond b ([] ∷ slice_split is_blank xs) (onto_first x (slice_split is_blank xs)) ≡ take (cond (not b) (1 + position_or_len is_blank xs) 0) (x ∷ xs) ∷ others)
      × (filter has_bytes others ≡ words (drop (cond (not b) (1 + position_or_len is_blank xs) 0) (x ∷ xs)))
  by ih true e = (slice_split is_blank xs, refl, rw e refl)
  by ih false e = (ih.0, rw (ih.1, one_more (position_or_len is_blank xs)) refl, rw (one_more (position_or_len is_blank xs)) ih.2)

pub words-first_word : (xs : List ℕ) → words xs ≡ cond (has_bytes (first_word xs)) (first_word xs ∷ words (after_word xs)) (words (after_word xs))
words-first_word xs = let p = parts_of xs in ap (filter has_bytes) p.1 ∙ ap (λ (ws : List (List ℕ)). cond (has_bytes (first_word xs)) (first_word xs ∷ ws) ws) p.2

-- after the blanks stands a word, or nothing
pub nothing_left : (xs : List ℕ) → length (first_word (from_word xs)) ≡ 0 → from_word xs ≡ []
nothing_left [] h = refl
nothing_left (x ∷ xs) h = by (nothing_left xs) (is_blank x) refl h where
  by : (length (first_word (from_word xs)) ≡ 0 → from_word xs ≡ []) → (b : Bool) → is_blank x ≡ b
      → length (first_word (drop (cond (not (not b)) (1 + position_or_len (λ c. not (is_blank c)) xs) 0) (x ∷ xs))) ≡ 0
      → drop (cond (not (not b)) (1 + position_or_len (λ c. not (is_blank c)) xs) 0) (x ∷ xs) ≡ []
  by ih true e h = rw (one_more (position_or_len (λ c. not (is_blank c)) xs)) (ih (rw (one_more (position_or_len (λ c. not (is_blank c)) xs)) at h))
  by ih false e h = let k = rw (e, one_more (position_or_len is_blank xs)) at h in absurd (omega (arith, k))

pub no_words : (xs : List ℕ) → length (first_word (from_word xs)) ≡ 0 → (words xs ≡ []) × (words (after_word (from_word xs)) ≡ [])
no_words xs h =
    let e = nothing_left xs h in
    (sym (words-from_word xs) ∙ ap words e, ap (λ (ys : List ℕ). words (after_word ys)) e)

pub next_word : (xs : List ℕ) → 0 < length (first_word (from_word xs)) → words xs ≡ first_word (from_word xs) ∷ words (after_word (from_word xs))
next_word xs h =
    let ys = from_word xs in
    sym (words-from_word xs) ∙ words-first_word ys ∙ ap (λ (b : Bool). cond b (first_word ys ∷ words (after_word ys)) (words (after_word ys)))
    (lt-ltb 0 (length (first_word ys)) h)

-- ---- comments

abbrev pub begins_comment : List ℕ → Bool
begins_comment text = bytes_eq (0x23 ∷ []) (take 1 text)

begins_by : (x : ℕ) (xs : List ℕ) → begins_comment (x ∷ xs) ≡ (x == 0x23)
begins_by x xs = grind (arith, nat_tests)

pub is_comment-from_word : (xs : List ℕ) → is_comment xs ≡ begins_comment (from_word xs)
is_comment-from_word [] = refl
is_comment-from_word (x ∷ xs) = by (is_comment-from_word xs) (is_blank x) where
  by : is_comment xs ≡ begins_comment (from_word xs) → (b : Bool) → cond b (is_comment xs) (x == 0x23) ≡ begins_comment (drop (cond (not (not b)) (1 + position_or_len (λ c. not (is_blank c)) xs) 0) (x ∷ xs))
  by ih true = rw (one_more (position_or_len (λ c. not (is_blank c)) xs)) ih
  by ih false = sym (begins_by x xs)
