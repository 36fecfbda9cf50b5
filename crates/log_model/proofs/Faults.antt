-- Records without a fault. Crates above cite these lemmas.
use Rattle.std.proofs.Common.{◌≡◌, ℕ, ◌+◌, ◌≤◌, ◌<◌, false, List, length, None, refl, arith}
use Rattle.std.specs.Prelude.{nat_lt, nat_le, ◌==◌}
use Rattle.std.proofs.lemmas.Bool.{le-ltb, lt-leb, ne_eqb, or_parts, or_from, eqb-false, ltb-false, leb-false}
use Rattle.lists.proofs.FirstTrue.{none-if}
use Rattle.log_model.specs.declared.Version.{Version}
use Rattle.log_model.specs.Faults.{tag_of, step_of, fields_of, fixed_length, data_length, step_bound, is_step_wrong, is_result_wrong, are_bytes_wrong, record_fault}
use Rattle.log_model.specs.Reading.{item_length}

-- ---- a record without a fault, of the tag t

pub record IsKnown (v : Version) (least : ℕ) (left : List (List ℕ)) (rest : List ℕ) (t : ℕ) : Type 0 where
  pub tag : tag_of rest ≡ t
  pub low : 1 ≤ t
  pub high : t ≤ 7
  pub order : least ≤ step_of v rest
  pub below : step_of v rest < step_bound t
  pub outcome : is_result_wrong t (fields_of v rest) ≡ false
  pub bytes : are_bytes_wrong v t left (fields_of v rest) ≡ false
  pub whole : fixed_length v t + data_length v t rest ≤ length rest

pub record_fault-none : (v : Version) (least : ℕ) (left : List (List ℕ)) (rest : List ℕ) (t : ℕ) → IsKnown v least left rest t → record_fault v least left rest ≡ None
record_fault-none v least left rest t is =
    let at = step_of v rest in
    let not_zero : (t == 0) ≡ false = ne_eqb t 0 (λ e. omega (arith, is.low)) in
    let known : nat_lt 7 t ≡ false = le-ltb 7 t is.high in
    let some : (length rest == 0) ≡ false = ne_eqb (length rest) 0 (λ e. omega (arith, is.whole)) in
    let fixed : nat_lt (length rest) (fixed_length v t) ≡ false = le-ltb (length rest) (fixed_length v t) (omega (arith, is.whole)) in
    let rises : is_step_wrong least t at ≡ false = or_from (nat_lt at least) (nat_le (step_bound t) at) (le-ltb at least is.order) (lt-leb (step_bound t) at is.below) in
    let complete : nat_lt (length rest) (fixed_length v t + data_length v t rest) ≡ false = le-ltb (length rest) (fixed_length v t + data_length v t rest) is.whole in
    rw (is.tag, some, not_zero, known, fixed, rises, is.outcome, is.bytes, complete) refl

-- ---- what a record without a fault meets

pub some_of : (n : ℕ) → (n == 0) ≡ false → 1 ≤ n
some_of n h = let not_zero = eqb-false n 0 h in omega (arith, not_zero)

pub no_fault : (v : Version) (least : ℕ) (left : List (List ℕ)) (rest : List ℕ) → record_fault v least left rest ≡ None → IsKnown v least left rest (tag_of rest)
no_fault v least left rest h =
    let tag = tag_of rest in
    let at = step_of v rest in
    let a = none-if _ _ _ h in
    let b = none-if _ _ _ a.1 in
    let c = none-if _ _ _ b.1 in
    let d = none-if _ _ _ c.1 in
    let e = none-if _ _ _ d.1 in
    let f = none-if _ _ _ e.1 in
    let g = none-if _ _ _ f.1 in
    let known = or_parts (tag == 0) (nat_lt 7 tag) b.0 in
    let step = or_parts (nat_lt at least) (nat_le (step_bound tag) at) d.0 in
    record {
      tag = refl;
      low = some_of tag known.0;
      high = ltb-false 7 tag known.1;
      order = ltb-false at least step.0;
      below = leb-false (step_bound tag) at step.1;
      outcome = e.0;
      bytes = f.0;
      whole = ltb-false (length rest) (item_length v rest) g.0;
    }

-- it takes some bytes, and no more than there are
pub item_length-bounds : (v : Version) (least : ℕ) (left : List (List ℕ)) (rest : List ℕ) → record_fault v least left rest ≡ None → (1 ≤ item_length v rest) × (item_length v rest ≤ length rest)
item_length-bounds v least left rest none = (omega arith, (no_fault v least left rest none).whole)
