-- The texts of a log are lists of bytes.
use Rattle.std.proofs.Common.{arith, refl, sym, ◌≡◌, ap, subst, ℕ, ◌<◌, List, [], ◌∷◌, ◌++◌, length, map, Bool, true, false, nat_lt, Ok, Err}
use Rattle.lists.proofs.Lists.{all-append}
use Rattle.lists.proofs.Numbers.{all-below}
use Rattle.std.specs.Prelude.{if◌then◌else◌}
use Rattle.std.specs.List.{AllByRecursion, list_all, flat_map, range_with_len}
use Rattle.std.proofs.lemmas.Bool.{lt-ltb}
use Rattle.log_model.specs.declared.Version.{Version}
use Rattle.log_model.specs.declared.Version.TheVariants.{One, Two}
use Rattle.log_model.specs.declared.CallRecord.{CallRecord}
use Rattle.log_model.specs.declared.CallRecord.TheVariants.{Read}
use Rattle.log_model.specs.declared.RunEnd.{RunEnd}
use Rattle.log_model.specs.declared.RunEnd.TheVariants.{Exit}
use Rattle.log_model.specs.Logs.{Log, IsLog, IsRecord, IsTextOf, magic, word32, step_text, read_text, record_text, end_text, header_text, channel_text, kept_channels, log_text}
use Rattle.log_model.specs.Moved.{received, received_by, received_of, is_on}
use Rattle.jet_refusal.specs.declared.refusal.Refusal.TheVariants as refusal
use Rattle.jet_model.specs.Contents.{if_bytes}

abbrev pub AreBytes : List ℕ → Type 0
AreBytes bytes = AllByRecursion (λ b. b < 256) bytes

-- ---- the test

test-true : (bytes : List ℕ) → AreBytes bytes → list_all (λ n. nat_lt n 256) bytes ≡ true
test-true [] h = refl
test-true (b ∷ bytes) h = rw (lt-ltb b 256 h.0, test-true bytes h.1)

pub if_bytes-are : (bytes : List ℕ) → AreBytes bytes → if_bytes bytes ≡ Ok bytes
if_bytes-are bytes h = ap (λ (b : Bool). if b then Ok bytes else Err refusal.ReadFault) (test-true bytes h)

pub if_bytes-is_ok : (bytes other : List ℕ) → if_bytes bytes ≡ Ok other → AreBytes other × (bytes ≡ other)
if_bytes-is_ok bytes other h = by (list_all (λ n. nat_lt n 256) bytes) refl h where
  by : (b : Bool) → list_all (λ n. nat_lt n 256) bytes ≡ b → (if b then Ok bytes else Err refusal.ReadFault) ≡ Ok other → AreBytes other × (bytes ≡ other)
  by true e r = let same : bytes ≡ other = cc in (subst AreBytes same (all-below 256 bytes e), same)
  by false e r = cc

-- ---- the text of a log

append-bytes : (xs ys : List ℕ) → AreBytes xs → AreBytes ys → AreBytes (xs ++ ys)
append-bytes = all-append (λ b. b < 256)

word32-bytes : (n : ℕ) → AreBytes (word32 n)
word32-bytes n = search arith parts 9

-- words, one after another
words-bytes : (ns : List ℕ) → AreBytes (flat_map word32 ns)
words-bytes [] = tt
words-bytes (n ∷ ns) = append-bytes (word32 n) (flat_map word32 ns) (word32-bytes n) (words-bytes ns)

step-bytes : (v : Version) (at : ℕ) → AreBytes (step_text v at)
step-bytes One at = word32-bytes at
step-bytes Two at = search arith parts 9

read-bytes : (v : Version) (bytes : List ℕ) → AreBytes bytes → AreBytes (read_text v bytes)
read-bytes One bytes h = h
read-bytes Two bytes h = tt

magic-bytes : (v : Version) → AreBytes (magic v)
magic-bytes One = all-below 256 (magic One) refl
magic-bytes Two = all-below 256 (magic Two) refl

-- the parts of a text
ruleset parts_of_texts = (append-bytes, words-bytes, step-bytes, read-bytes, magic-bytes, arith)

record-bytes : (v : Version) (r : CallRecord) → IsRecord r → AreBytes (record_text v r)
record-bytes v (Read at args result bytes) h = search parts_of_texts depth 20 parts 20
record-bytes v r h = search parts_of_texts depth 20 parts 20

records-bytes : (v : Version) (rs : List CallRecord) → AllByRecursion IsRecord rs → AreBytes (flat_map (record_text v) rs)
records-bytes v [] h = tt
records-bytes v (r ∷ rs) h = append-bytes (record_text v r) (flat_map (record_text v) rs) (record-bytes v r h.0) (records-bytes v rs h.1)

end-bytes : (v : Version) (e : RunEnd) → AreBytes (end_text v e)
end-bytes v (Exit at code) = search parts_of_texts depth 20 parts 20
end-bytes v e = search parts_of_texts depth 20 parts 20

header-bytes : (v : Version) (log : Log) → IsLog log → AreBytes (header_text v log)
header-bytes v log h = search parts_of_texts depth 20 parts 20

-- ---- the channels

received_of-bytes : (r : CallRecord) → IsRecord r → AreBytes (received_of r)
received_of-bytes (Read at args result bytes) h = h.1.are_bytes
received_of-bytes r h = tt

if-bytes : (b : Bool) (bytes : List ℕ) → AreBytes bytes → AreBytes (if b then bytes else [])
if-bytes true bytes h = h
if-bytes false bytes h = tt

received-bytes : (channel : ℕ) (rs : List CallRecord) → AllByRecursion IsRecord rs → AreBytes (received channel rs)
received-bytes channel [] h = tt
received-bytes channel (r ∷ rs) h =
    append-bytes (received_by channel r) (received channel rs) (if-bytes (is_on channel r) (received_of r) (received_of-bytes r h.0)) (received-bytes channel rs h.1)

channels-bytes : (rs : List CallRecord) (cs : List ℕ) → AllByRecursion IsRecord rs → AreBytes (flat_map channel_text (map (λ c. received c rs) cs))
channels-bytes rs [] h = tt
channels-bytes rs (c ∷ cs) h =
    append-bytes (channel_text (received c rs)) (flat_map channel_text (map (λ c. received c rs) cs))
    (append-bytes (word32 (length (received c rs))) (received c rs) (word32-bytes (length (received c rs))) (received-bytes c rs h)) (channels-bytes rs cs h)

kept-bytes : (v : Version) (log : Log) → IsLog log → AreBytes (flat_map channel_text (kept_channels v log))
kept-bytes One log h = tt
kept-bytes Two log h = channels-bytes log.records (range_with_len 0 log.inputs) h.records

log_text-bytes : (v : Version) (log : Log) → IsLog log → AreBytes (log_text v log)
log_text-bytes v log h =
    let records = records-bytes v log.records h.records in search (header-bytes, kept-bytes, records, end-bytes, append-bytes) depth 20

pub text-bytes : (log : Log) (bytes : List ℕ) → IsLog log → IsTextOf log bytes → AreBytes bytes
text-bytes log bytes is t = subst AreBytes (sym t.spelt) (log_text-bytes t.version log is)
