-- The header of bytes, where it has no fault, and the text of a log's header, whatever follows it.
use Rattle.std.proofs.Common.{◌≡◌, ℕ, ◌≤◌, false, List, ◌++◌, length, take, drop, Some, None, refl, sym, ap, subst, ◌∙◌, append_assoc, arith, Bool, true, Option}
use Rattle.std.specs.Prelude.{nat_lt, ◌==◌, nat_eq, is_none, if◌then◌else◌}
use Rattle.std.specs.List.{flat_map, starts_with}
use Rattle.std.specs.Int.{w32, from_le_bytes}
use Rattle.std.proofs.lemmas.Bool.{le-ltb, ne_eqb, or_from, or_parts, ltb-false}
use Rattle.std.proofs.lemmas.List.{take_at, drop_at, drop-drop, length-append, take-append-drop}
use Rattle.std.proofs.lemmas.Nat.{from_le_bytes-to_le_bytes_4}
use Rattle.std.proofs.lemmas.Slice.Eq.{bytes_eq-Decides}
use Rattle.lists.specs.Fields.{word_at}
use Rattle.log_model.specs.declared.Version.{Version}
use Rattle.log_model.specs.declared.Version.TheVariants.{One, Two}
use Rattle.log_model.specs.Logs.{Log, IsLog, word32, magic, header_text, channel_text, kept_channels, record_text, end_text, log_text, IsBytes}
use Rattle.log_model.specs.Faults.{version_of, are_pages_wrong, header_fault}
use Rattle.lists.proofs.FirstTrue.{none-if}
use Rattle.log_model.proofs.Words.{word_spelt}
use Rattle.log_model.proofs.Faults.{some_of}

-- ---- a log's header, and what follows it

pub regroup : (a b c d e : List ℕ) → a ++ b ++ c ++ d ++ e ≡ a ++ (b ++ (c ++ (d ++ e)))
regroup a b c d e = simp append_assoc

pub record IsHeaderAgain (v : Version) (text : List ℕ) (log : Log) (after : List ℕ) : Type 0 where
  pub version : version_of text ≡ Some v
  pub digest : take 32 (drop 8 text) ≡ log.digest
  pub pages : word_at text 40 ≡ log.pages
  pub inputs : word_at text 44 ≡ log.inputs
  pub rest : drop 48 text ≡ after
  pub none : header_fault text ≡ None

header_none : (v : Version) (text : List ℕ) (pages inputs : ℕ) → version_of text ≡ Some v → 48 ≤ length text → word_at text 40 ≡ pages → word_at text 44 ≡ inputs → (1 ≤ pages) × (pages ≤ 4096) → inputs ≤ 16 → header_fault text ≡ None
header_none v text pages inputs version whole p i few most =
    let long : nat_lt (length text) 48 ≡ false = le-ltb (length text) 48 whole in
    let right : are_pages_wrong pages ≡ false = or_from (pages == 0) (nat_lt 4096 pages) (ne_eqb pages 0 (λ e. omega arith)) (le-ltb 4096 pages few.1) in
    let low : nat_lt 16 inputs ≡ false = le-ltb 16 inputs most in
    rw (version, long, p, i, right, low) refl

pub magic_length : (v : Version) → length (magic v) ≡ 8
magic_length One = refl
magic_length Two = refl

magic_version : (v : Version) (after : List ℕ) → version_of (magic v ++ after) ≡ Some v
magic_version One after = refl
magic_version Two after = refl

pub header_again : (v : Version) (log : Log) (after : List ℕ) → IsLog log → IsHeaderAgain v (header_text v log ++ after) log after
header_again v log after is =
    let pages = word32 log.pages in
    let inputs = word32 log.inputs in
    let tail = pages ++ (inputs ++ after) in
    let text = magic v ++ (log.digest ++ tail) in
    let same : header_text v log ++ after ≡ text = regroup (magic v) log.digest pages inputs after in
    let at8 : drop 8 text ≡ log.digest ++ tail = drop_at (magic v) (log.digest ++ tail) 8 (magic_length v) in
    let at40 : drop 40 text ≡ tail = sym (drop-drop 32 8 text) ∙ ap (drop 32) at8 ∙ drop_at log.digest tail 32 is.digest in
    let at44 : drop 44 text ≡ inputs ++ after = sym (drop-drop 4 40 text) ∙ ap (drop 4) at40 in
    let at48 : drop 48 text ≡ after = sym (drop-drop 8 40 text) ∙ ap (drop 8) at40 in
    let p : word_at text 40 ≡ log.pages = ap (λ (x : List ℕ). from_le_bytes w32 (take 4 x)) at40 ∙ from_le_bytes-to_le_bytes_4 log.pages (omega (arith, is.pages.1)) in
    let i : word_at text 44 ≡ log.inputs = ap (λ (x : List ℕ). from_le_bytes w32 (take 4 x)) at44 ∙ from_le_bytes-to_le_bytes_4 log.inputs (omega (arith, is.inputs)) in
    let whole : 48 ≤ length text = omega (arith, magic_length v, length-append (magic v) (log.digest ++ tail), length-append log.digest tail, is.digest) in
    let version = magic_version v (log.digest ++ tail) in
    subst (λ (x : List ℕ). IsHeaderAgain v x log after) (sym same)
    record {
      version = version;
      digest = ap (take 32) at8 ∙ take_at log.digest tail 32 is.digest;
      pages = p;
      inputs = i;
      rest = at48;
      none = header_none v text log.pages log.inputs version whole p i is.pages is.inputs;
    }

-- what follows the header in a log's text
abbrev pub after_header : Version → Log → List ℕ
after_header v log = flat_map channel_text (kept_channels v log) ++ (flat_map (record_text v) log.records ++ end_text v log.end)

parts_again : (a b c d : List ℕ) → a ++ b ++ c ++ d ≡ a ++ (b ++ (c ++ d))
parts_again a b c d = simp append_assoc

pub text_parts : (v : Version) (log : Log) → log_text v log ≡ header_text v log ++ after_header v log
text_parts v log = parts_again (header_text v log) (flat_map channel_text (kept_channels v log)) (flat_map (record_text v) log.records) (end_text v log.end)

-- the whole text
pub log_again : (v : Version) (log : Log) → IsLog log → IsHeaderAgain v (log_text v log) log (after_header v log)
log_again v log is = subst (λ (x : List ℕ). IsHeaderAgain v x log (after_header v log)) (sym (text_parts v log)) (header_again v log (after_header v log) is)

-- ---- bytes whose header has no fault

pub record IsHeaded (bytes : List ℕ) : Type 0 where
  pub v : Version
  pub version : version_of bytes ≡ Some v
  pub whole : 48 ≤ length bytes
  pub pages : (1 ≤ word_at bytes 40) × (word_at bytes 40 ≤ 4096)
  pub inputs : word_at bytes 44 ≤ 16

some_version : (o : Option Version) → is_none o ≡ false → (v : Version) × (o ≡ Some v)
some_version (Some v) e = (v, refl)
some_version None e = absurd cc

pub headed : (bytes : List ℕ) → header_fault bytes ≡ None → IsHeaded bytes
headed bytes h =
    let a = none-if _ _ _ h in
    let b = none-if _ _ _ a.1 in
    let c = none-if _ _ _ b.1 in
    let d = none-if _ _ _ c.1 in
    let version = some_version (version_of bytes) a.0 in
    let pages = or_parts (word_at bytes 40 == 0) (nat_lt 4096 (word_at bytes 40)) c.0 in
    record {
      v = version.0;
      version = version.1;
      whole = ltb-false (length bytes) 48 b.0;
      pages = (some_of (word_at bytes 40) pages.0, ltb-false 4096 (word_at bytes 40) pages.1);
      inputs = ltb-false 16 (word_at bytes 44) d.0;
    }

begins_with : (v : Version) (a b : Bool) → (if a then Some One else (if b then Some Two else None)) ≡ Some v → (bytes : List ℕ) → starts_with nat_eq bytes (magic One) ≡ a → starts_with nat_eq bytes (magic Two) ≡ b
    → starts_with nat_eq bytes (magic v) ≡ true
begins_with One true b e bytes p q = p
begins_with One false true e bytes p q = absurd cc
begins_with Two false true e bytes p q = q
begins_with v a b e bytes p q = absurd cc

magic_first : (v : Version) (bytes : List ℕ) → version_of bytes ≡ Some v → magic v ≡ take 8 bytes
magic_first One bytes e = (bytes_eq-Decides (magic One) (take 8 bytes)).0 (begins_with One _ _ e bytes refl refl)
magic_first Two bytes e = (bytes_eq-Decides (magic Two) (take 8 bytes)).0 (begins_with Two _ _ e bytes refl refl)

pub header_spelt : (v : Version) (bytes : List ℕ) → IsBytes bytes → 48 ≤ length bytes → version_of bytes ≡ Some v
    → bytes ≡ magic v ++ take 32 (drop 8 bytes) ++ word32 (word_at bytes 40) ++ word32 (word_at bytes 44) ++ drop 48 bytes
header_spelt v bytes fits h e =
    let digest = take 32 (drop 8 bytes) in
    let a : bytes ≡ magic v ++ drop 8 bytes = sym (take-append-drop 8 bytes) ∙ ap (λ (x : List ℕ). x ++ drop 8 bytes) (sym (magic_first v bytes e)) in
    let b : drop 8 bytes ≡ digest ++ drop 40 bytes = sym (take-append-drop 32 (drop 8 bytes)) ∙ ap (λ (x : List ℕ). digest ++ x) (drop-drop 32 8 bytes) in
    let d : drop 40 bytes ≡ word32 (word_at bytes 40) ++ (word32 (word_at bytes 44) ++ drop 48 bytes) = word_spelt bytes 40 fits (omega arith) ∙ ap (λ (x : List ℕ). word32 (word_at bytes 40) ++ x) (word_spelt bytes 44 fits h) in
    a ∙ ap (λ (x : List ℕ). magic v ++ x) (b ∙ ap (λ (x : List ℕ). digest ++ x) d) ∙ sym (regroup (magic v) digest (word32 (word_at bytes 40)) (word32 (word_at bytes 44)) (drop 48 bytes))
