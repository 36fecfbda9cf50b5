-- The lines of a text, taken off one by one.
use Rattle.std.proofs.Common.{◌≡◌, ℕ, suc, ◌+◌, ◌-◌, ◌<◌, List, [], ◌∷◌, length, take, drop, refl, ap, sym, ◌∙◌, arith, Bool, true, false, cond, nat_lt, nat_eq, subst, Bor}
use Rattle.std.specs.Prelude.{◌==◌, ◌&&◌, Option, Some, None, position, MatchOption}
use Rattle.std.specs.List.{slice_split, position_or_len}
use Rattle.std.specs.Str.{bytes_eq}
use Rattle.std.specs.Option.{unwrap_or}
use Rattle.std.proofs.lemmas.List.Splits.{slice_split_first, slice_split_none, length-slice_split}
use Rattle.std.proofs.lemmas.List.Sums.{fails_before_first}
use Rattle.std.proofs.lemmas.Bool.{ltb-false}
use Rattle.std.proofs.lemmas.Bool.Decides.{nat_tests}
use Rattle.report_model.specs.Grammar.{without_last_cr, lines_of_parts, lines}

abbrev pub is_lf : ℕ → Bool
is_lf b = b == 0x0a

-- the last line alone keeps its carriage return
lines_first_part : (line : List ℕ) (parts : List (List ℕ)) → 0 < length parts → lines_of_parts (line ∷ parts) ≡ without_last_cr line ∷ lines_of_parts parts
lines_first_part line [] some = absurd (omega arith)
lines_first_part line (part ∷ parts) some = refl

pub lines_first : (xs : List ℕ) → position_or_len is_lf xs < length xs → lines xs ≡ without_last_cr (take (position_or_len is_lf xs) xs) ∷ lines (drop (position_or_len is_lf xs + 1) xs)
lines_first xs h =
    let rest = drop (position_or_len is_lf xs + 1) xs in
    ap lines_of_parts (slice_split_first is_lf xs 0 h) ∙ lines_first_part (take (position_or_len is_lf xs) xs) (slice_split is_lf rest)
    (omega (arith, length-slice_split is_lf rest))

-- ---- a carriage return at the end

pub without_last_cr-is : (xs : List ℕ) → without_last_cr xs ≡ cond (bytes_eq (drop (length xs - 1) xs) (0x0d ∷ [])) (take (length xs - 1) xs) xs
without_last_cr-is [] = refl
without_last_cr-is (x ∷ []) = by (nat_eq x 0x0d) where
  by : (b : Bool) → cond b [] (x ∷ []) ≡ cond (b && true) [] (x ∷ [])
  by true = refl
  by false = refl
without_last_cr-is (x ∷ y ∷ xs) =
    let less : length (x ∷ y ∷ xs) - 1 ≡ suc (length (y ∷ xs) - 1) = omega arith in
    rw (less, without_last_cr-is (y ∷ xs)) (onto (bytes_eq (drop (length (y ∷ xs) - 1) (y ∷ xs)) (0x0d ∷ [])) (length (y ∷ xs) - 1)) where
      onto : (b : Bool) (n : ℕ) → x ∷ cond b (take n (y ∷ xs)) (y ∷ xs) ≡ cond b (x ∷ take n (y ∷ xs)) (x ∷ y ∷ xs)
      onto true n = refl
      onto false n = refl

-- ---- by what a search for a line feed answers

pub lines_after : (xs : List ℕ) (i : ℕ) → position is_lf xs ≡ Some i → lines xs ≡ without_last_cr (take i xs) ∷ lines (drop (i + 1) xs)
lines_after xs i h = by (nat_lt (position_or_len is_lf xs) (length xs)) refl h where
  by : (b : Bool) → nat_lt (position_or_len is_lf xs) (length xs) ≡ b → cond b (Some (position_or_len is_lf xs)) None ≡ Some i
      → lines xs ≡ without_last_cr (take i xs) ∷ lines (drop (i + 1) xs)
  by true e h =
      let found : position_or_len is_lf xs ≡ i = cc in
      let within : position_or_len is_lf xs < length xs = grind (arith, nat_tests) in
      subst (λ (n : ℕ). lines xs ≡ without_last_cr (take n xs) ∷ lines (drop (n + 1) xs)) found (lines_first xs within)
  by false e h = cc

pub one_line : (xs : List ℕ) → position is_lf xs ≡ None → lines xs ≡ xs ∷ []
one_line xs h = by (nat_lt (position_or_len is_lf xs) (length xs)) refl h where
  by : (b : Bool) → nat_lt (position_or_len is_lf xs) (length xs) ≡ b → cond b (Some (position_or_len is_lf xs)) None ≡ None → lines xs ≡ xs ∷ []
  by true e h = cc
  by false e h =
      ap lines_of_parts (slice_split_none is_lf xs
      (λ k d below. fails_before_first is_lf xs k d (omega (arith, below, ltb-false (position_or_len is_lf xs) (length xs) e))))

-- ---- by what stripping a carriage return answers

pub stripped : (xs : List ℕ) (r : Option (Bor (List ℕ))) (whole : Bor (List ℕ)) → whole.now ≡ xs
    → MatchOption r (bytes_eq (drop (length xs - 1) xs) (0x0d ∷ []) ≡ false)
    (λ x. (bytes_eq (drop (length xs - 1) xs) (0x0d ∷ []) ≡ true) × (x.now ≡ take (length xs - 1) xs) × (length x.now + 1 ≡ length xs))
    → (unwrap_or r whole).now ≡ without_last_cr xs
stripped xs (Some x) whole e h = h.1 ∙ sym (without_last_cr-is xs ∙ ap (λ (b : Bool). cond b (take (length xs - 1) xs) xs) h.0)
stripped xs None whole e h = e ∙ sym (without_last_cr-is xs ∙ ap (λ (b : Bool). cond b (take (length xs - 1) xs) xs) h)
