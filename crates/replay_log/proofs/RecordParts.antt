-- The parts of the record at the front, and its faults.
use Rattle.std.proofs.Common.{◌≡◌, ℕ, ◌+◌, ◌-◌, ◌<◌, ◌≤◌, Bool, true, false, List, [], ◌∷◌, ◌++◌, length, take, drop, refl, sym, ap, ap₂, subst, ◌∙◌, arith}
use Rattle.std.specs.Prelude.{nat_lt, nat_le, ◌==◌}
use Rattle.std.proofs.lemmas.Bool.{le-ltb, lt-ltb, ne_eqb, or_parts, ltb-false, leb-false}
use Rattle.std.proofs.lemmas.List.{take_at, drop_at, take-append-drop, take_rest, drop-drop, length-append, length-drop}
use Rattle.lists.specs.FirstTrue.{first_true}
use Rattle.log_model.specs.declared.Version.{Version}
use Rattle.log_model.specs.declared.LogKind.TheVariants.{Short, Result, Bytes}
use Rattle.log_model.specs.Faults.{tag_of, step_of, step_length, fields_of, fields_length, fixed_length, data_length, step_bound, is_step_wrong, is_result_wrong, are_bytes_wrong, record_fault}
use Rattle.log_model.specs.Reading.{data_of}
use Rattle.log_model.proofs.Faults.{IsKnown, record_fault-none}
use Rattle.replay_log.specs.declared.tags.Tag.{Tag}
use Rattle.replay_log.specs.declared.tags.Tag.TheVariants.{Read}
use Rattle.replay_log.specs.declared.record_parts.RecordParts.{RecordParts}
use Rattle.replay_log.specs.Tags.{number}
use Rattle.replay_log.specs.Records.{ArePartsOf, data_count}

number_within : (tag : Tag) → (1 ≤ number tag) × (number tag ≤ 7)
number_within Read = (omega arith, omega arith)
number_within tag = (omega arith, omega arith)

-- the fields are all there, where the fixed part of the record is
pub fields_there : (v : Version) (rest : List ℕ) (t fixed : ℕ) (fields : List ℕ) → fixed ≡ fixed_length v t → fixed ≤ length rest → fields ≡ fields_of v rest → fields_length t ≤ length fields
fields_there v rest t fixed fields e long f =
    by (step_length v) (fields_length t) fixed (length rest) (length fields) e long (ap length f ∙ length-drop (1 + step_length v) rest)
  where
    by : (step least fixed whole here : ℕ) → fixed ≡ 1 + step + least → fixed ≤ whole → here ≡ whole - (1 + step) → least ≤ here
    by step least fixed whole here a b c = omega arith

-- the step number is there, where the fixed part of the record is
pub step_there : (v : Version) (rest : List ℕ) (t fixed : ℕ) → fixed ≡ fixed_length v t → fixed ≤ length rest → 1 + step_length v ≤ length rest
step_there v rest t fixed e long = by (step_length v) (fields_length t) fixed (length rest) e long
  where
    by : (step least fixed whole : ℕ) → fixed ≡ 1 + step + least → fixed ≤ whole → 1 + step ≤ whole
    by step least fixed whole a b = omega arith

-- the record begins well: its tag, its step number and its length are right
pub record IsBegun (v : Version) (least : ℕ) (rest : List ℕ) (tag : Tag) (at : ℕ) (fields : List ℕ) : Type 0 where
  pub tag_is : number tag ≡ tag_of rest
  pub fixed : fixed_length v (number tag) ≤ length rest
  pub at_is : at ≡ step_of v rest
  pub step : is_step_wrong least (number tag) at ≡ false
  pub fields_are : fields ≡ fields_of v rest

-- as code has tested it
pub begun : {v : Version} {least first fixed at : ℕ} {rest fields : List ℕ} {tag : Tag} {b : Bool} → number tag ≡ first → first ≡ tag_of rest → fixed ≡ fixed_length v (number tag) → fixed ≤ length rest
    → at ≡ step_of v rest → b ≡ is_step_wrong least (number tag) at → b ≡ false → fields ≡ fields_of v rest → IsBegun v least rest tag at fields
begun {rest} t f e long a s n g = record { tag_is = t ∙ f; fixed = subst (λ (k : ℕ). k ≤ length rest) e long; at_is = a; step = sym s ∙ n; fields_are = g }

module _ {v : Version} {least : ℕ} {rest : List ℕ} {tag : Tag} {at : ℕ} {fields : List ℕ} (is : IsBegun v least rest tag at fields) where
  -- the fault of such a record is that of its fields and its data
  pub late_fault : (left : List (List ℕ)) → record_fault v least left rest ≡ first_true (
      (is_result_wrong (number tag) fields, Result) ∷ (are_bytes_wrong v (number tag) left fields, Bytes)
      ∷ (nat_lt (length rest) (fixed_length v (number tag) + data_count v (number tag) fields), Short) ∷ [])
  late_fault left =
      let some : (length rest == 0) ≡ false = ne_eqb (length rest) 0 (λ e. omega (arith, is.fixed, e)) in
      let not_zero : (number tag == 0) ≡ false = ne_eqb (number tag) 0 (λ e. omega (arith, (number_within tag).0, e)) in
      let known : nat_lt 7 (number tag) ≡ false = le-ltb 7 (number tag) (number_within tag).1 in
      let fixed : nat_lt (length rest) (fixed_length v (number tag)) ≡ false = le-ltb (length rest) (fixed_length v (number tag)) is.fixed in
      let step : is_step_wrong least (number tag) (step_of v rest) ≡ false = rw is.at_is at is.step in
      rw (← is.tag_is) (rw (some, not_zero, known, fixed, step, is.fields_are) refl)

  pub short_fault : (size : ℕ) → size ≡ data_count v (number tag) fields → length fields - fields_length (number tag) < size
      → nat_lt (length rest) (fixed_length v (number tag) + data_count v (number tag) fields) ≡ true
  short_fault size same short =
      lt-ltb (length rest) (fixed_length v (number tag) + data_count v (number tag) fields)
      (omega (arith, same, short, is.fixed, ap length is.fields_are, length-drop (1 + step_length v) rest))

-- what the code has tested and cut
pub record IsCut (v : Version) (least : ℕ) (left : List (List ℕ)) (rest : List ℕ) (parts : RecordParts) : Type 0 where
  pub begun : IsBegun v least rest parts.tag parts.at parts.fields.now
  pub outcome : is_result_wrong (number parts.tag) parts.fields.now ≡ false
  pub allowed : are_bytes_wrong v (number parts.tag) left parts.fields.now ≡ false
  pub size : length parts.bytes.now ≡ data_count v (number parts.tag) parts.fields.now
  pub cut : drop (fields_length (number parts.tag)) parts.fields.now ≡ parts.bytes.now ++ parts.after.now

pub cut_parts : (fields bytes after : List ℕ) (fixed size : ℕ) → bytes ≡ take size (take (length fields - fixed) (drop fixed fields)) → after ≡ drop size (take (length fields - fixed) (drop fixed fields)) → drop fixed fields ≡ bytes ++ after
cut_parts fields bytes after fixed size e f =
    let unfixed = take (length fields - fixed) (drop fixed fields) in
    sym (ap₂ (λ (x y : List ℕ). x ++ y) e f ∙ take-append-drop size unfixed ∙ take_rest fields fixed)

pub are_parts : (v : Version) (least : ℕ) (left : List (List ℕ)) (rest : List ℕ) (parts : RecordParts) → IsCut v least left rest parts → ArePartsOf v least left rest parts
are_parts v least left rest parts is =
    let t = number parts.tag in
    let begun = is.begun in
    let fields = parts.fields.now in
    let bytes = parts.bytes.now in
    let after = parts.after.now in
    let size = data_length v t rest in
    let count : length bytes ≡ size = is.size ∙ ap (data_count v t) begun.fields_are in
    let cut : drop (fixed_length v t) rest ≡ bytes ++ after = sym (drop-drop (fields_length t) (1 + step_length v) rest) ∙ sym (ap (drop (fields_length t)) begun.fields_are) ∙ is.cut in
    let whole : fixed_length v t + size ≤ length rest = omega (arith, begun.fixed, count, ap length cut, length-append bytes after, length-drop (fixed_length v t) rest) in
    let bytes_are : bytes ≡ data_of v t rest = sym (ap (take size) cut ∙ take_at bytes after size count) in
    let left_is : after ≡ drop (fixed_length v t + size) rest = sym (sym (drop-drop size (fixed_length v t) rest) ∙ ap (drop size) cut ∙ drop_at bytes after size count) in
    let step = or_parts (nat_lt parts.at least) (nat_le (step_bound t) parts.at) begun.step in
    let order = ltb-false parts.at least step.0 in
    let below = leb-false (step_bound t) parts.at step.1 in
    let known : IsKnown v least left rest t = record {
      tag = sym begun.tag_is;
      low = (number_within parts.tag).0;
      high = (number_within parts.tag).1;
      order = subst (λ (k : ℕ). least ≤ k) begun.at_is order;
      below = subst (λ (k : ℕ). k < step_bound t) begun.at_is below;
      outcome = subst (λ (x : List ℕ). is_result_wrong t x ≡ false) begun.fields_are is.outcome;
      bytes = subst (λ (x : List ℕ). are_bytes_wrong v t left x ≡ false) begun.fields_are is.allowed;
      whole = whole;
    } in
    record {
      none = record_fault-none v least left rest t known;
      tag = begun.tag_is;
      fixed = subst (λ (k : ℕ). fixed_length v k ≤ length rest) begun.tag_is begun.fixed;
      at = begun.at_is;
      fields = begun.fields_are;
      bytes = bytes_are ∙ ap (λ (k : ℕ). data_of v k rest) begun.tag_is;
      after = left_is ∙ ap (λ (k : ℕ). drop (fixed_length v k + data_length v k rest) rest) begun.tag_is;
    }
