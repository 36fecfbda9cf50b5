-- The log that bytes are read as is one, and they are a text of it; the fault that they are read as is theirs. Crates
-- above cite these lemmas.
use Rattle.std.proofs.Common.{◌≡◌, ℕ, zero, suc, ◌+◌, ◌-◌, ◌<◌, ◌≤◌, false, List, [], ◌∷◌, ◌++◌, length, get_or, set, drop, Option, Some, None, Result, Ok, Err, refl, sym, ap, subst, ◌∙◌, append_assoc, arith, inl, inr}
use Rattle.std.specs.Prelude.{slice_index}
use Rattle.std.specs.List.{flat_map, AllByRecursion}
use Rattle.std.proofs.lemmas.Bool.{cases_eq}
use Rattle.std.proofs.lemmas.List.{append-nil, take_at, drop_at, get_or-set_other, length-append, length-drop, length-take}
use Rattle.log_model.specs.declared.Version.{Version}
use Rattle.log_model.specs.declared.CallRecord.{CallRecord}
use Rattle.log_model.specs.declared.CallRecord.TheVariants.{Read}
use Rattle.log_model.specs.declared.RunEnd.{RunEnd}
use Rattle.log_model.specs.declared.RunEnd.TheVariants.{Exit}
use Rattle.log_model.specs.declared.Item.{Item}
use Rattle.log_model.specs.declared.Item.TheVariants.{Call, End}
use Rattle.log_model.specs.declared.LogKind.{LogKind}
use Rattle.log_model.specs.declared.LogKind.TheVariants.{Trailing}
use Rattle.log_model.specs.Logs.{Log, IsLog, IsTextOf, IsBytes, header_text, channel_text, kept_channels, at_of, end_at, record_text, end_text, least_after, IsRecord, IsEnd, Rise}
use Rattle.log_model.specs.Faults.{version_of, channel_count, step_end, are_left, header_fault, record_fault, AreLeft, AreChannels, IsRead, HasFault, InHeader, InChannel, InRecord, AfterEnd}
use Rattle.log_model.specs.Reading.{item_of, item_length, left_after, map_ok, Channels, channels_of, Body, with_call, with_end, body_of, with_header, after_channels, log_of}
use Rattle.log_model.proofs.Words.{IsBytes-drop, IsBytes-take}
use Rattle.log_model.proofs.Items.{item_text, IsNext}
use Rattle.log_model.proofs.Left.{HasNone, none_after, left_nil, left_more, same_place, are_kept}
use Rattle.log_model.proofs.Again.{item_again}
use Rattle.log_model.proofs.Front.{AreAllBytes, item_next}
use Rattle.log_model.proofs.Headers.{headed, header_spelt, text_parts}
use Rattle.log_model.proofs.Channels.{AreSound, channels_sound}
use Rattle.log_model.proofs.Reading.{text_some, none_of, body_of-fault, body_of-call, body_of-end, log_of-fault, log_of-body}

-- ---- what is read after the channels

-- these bytes are the texts of these calls, and then `after`, where `left` is left of the channels
record AreCalls (v : Version) (least : ℕ) (bytes : List ℕ) (channels : List (List ℕ)) (calls : List CallRecord) (left : List (List ℕ)) (after : List ℕ) : Type 0 where
  are_records : AllByRecursion IsRecord calls
  written : AllByRecursion (λ r. at_of r < step_end v) calls
  rise : Rise least calls
  taken : AreLeft v channels calls left
  text : bytes ≡ flat_map (record_text v) calls ++ after

record IsWhole (v : Version) (least : ℕ) (bytes : List ℕ) (channels : List (List ℕ)) (calls : List CallRecord) (end : RunEnd) : Type 0 where
  left : List (List ℕ)
  are : AreCalls v least bytes channels calls left (end_text v end)
  is_end : IsEnd end
  written : end_at end < step_end v
  ends_after : least_after least calls ≤ end_at end
  none : are_left left ≡ false

data IsFaulty (v : Version) (least : ℕ) (bytes : List ℕ) (channels : List (List ℕ)) (kind : LogKind) (offset end : ℕ) : Type 0 where
  OfRecord : (calls : List CallRecord) (left : List (List ℕ)) (after : List ℕ) → AreCalls v least bytes channels calls left after → record_fault v (least_after least calls) left after ≡ Some kind
      → offset + length after ≡ end → IsFaulty v least bytes channels kind offset end
  OfEnd : (calls : List CallRecord) (last : RunEnd) (left : List (List ℕ)) (after : List ℕ) → AreCalls v least bytes channels calls left (end_text v last ++ after) → IsEnd last → end_at last < step_end v
      → least_after least calls ≤ end_at last → are_left left ≡ false → 0 < length after → kind ≡ Trailing → offset + length after ≡ end → IsFaulty v least bytes channels kind offset end

-- of bytes from one offset to another
abbrev IsSound : Version → ℕ → List ℕ → List (List ℕ) → ℕ → Result Body (LogKind × ℕ) → Type 0
IsSound v least bytes channels end (Ok body) = IsWhole v least bytes channels body.0 body.1
IsSound v least bytes channels end (Err fault) = IsFaulty v least bytes channels fault.0 fault.1 end

-- a call before others
one_more : (v : Version) (least : ℕ) (bytes after : List ℕ) (channels : List (List ℕ)) (call : CallRecord) (calls : List CallRecord) (left : List (List ℕ)) (rest : List ℕ) → HasNone v channels → IsNext v least channels bytes (Call call) after
    → AreCalls v (at_of call + 1) after (left_after call channels) calls left rest → AreCalls v least bytes channels (call ∷ calls) left rest
one_more v least bytes after channels call calls left rest none next are = record {
  are_records = (next.form, are.are_records);
  written = (next.written, are.written);
  rise = (next.order, are.rise);
  taken = left_more v channels call calls left none next.allowed are.taken;
  text = next.parts ∙ ap (λ (x : List ℕ). record_text v call ++ x) are.text ∙ sym (append_assoc (record_text v call) (flat_map (record_text v) calls) rest);
}

faulty_more : (v : Version) (least : ℕ) (bytes after : List ℕ) (channels : List (List ℕ)) (call : CallRecord) (kind : LogKind) (offset end : ℕ) → HasNone v channels → IsNext v least channels bytes (Call call) after
    → IsFaulty v (at_of call + 1) after (left_after call channels) kind offset end → IsFaulty v least bytes channels kind offset end
faulty_more v least bytes after channels call kind offset end none next (OfRecord calls left rest are fault e) =
    OfRecord (call ∷ calls) left rest (one_more v least bytes after channels call calls left rest none next are) fault e
faulty_more v least bytes after channels call kind offset end none next (OfEnd calls last left rest are is written order nothing some k e) =
    OfEnd (call ∷ calls) last left rest (one_more v least bytes after channels call calls left (end_text v last ++ rest) none next are) is written order nothing some k e

sound_more : (v : Version) (least end : ℕ) (bytes after : List ℕ) (channels : List (List ℕ)) (call : CallRecord) (r : Result Body (LogKind × ℕ)) → HasNone v channels → IsNext v least channels bytes (Call call) after
    → IsSound v (at_of call + 1) after (left_after call channels) end r → IsSound v least bytes channels end (map_ok (with_call call) r)
sound_more v least end bytes after channels call (Ok body) none next whole = record {
  left = whole.left;
  are = one_more v least bytes after channels call body.0 whole.left (end_text v body.1) none next whole.are;
  is_end = whole.is_end;
  written = whole.written;
  ends_after = whole.ends_after;
  none = whole.none;
}
sound_more v least end bytes after channels call (Err fault) none next faulty = faulty_more v least bytes after channels call fault.0 fault.1 end none next faulty

-- the end, with what is after it
sound_end : (v : Version) (least end offset : ℕ) (bytes after : List ℕ) (channels : List (List ℕ)) (last : RunEnd) → IsNext v least channels bytes (End last) after → offset + length after ≡ end → IsSound v least bytes channels end (with_end last offset after)
sound_end v least end offset bytes [] channels last next e = record {
  left = channels;
  are = record { are_records = tt; written = tt; rise = tt; taken = left_nil v channels; text = next.parts ∙ append-nil (end_text v last) };
  is_end = next.form;
  written = next.written;
  ends_after = next.order;
  none = next.allowed;
}
sound_end v least end offset bytes (b ∷ after) channels last next e =
    OfEnd [] last channels (b ∷ after) record { are_records = tt; written = tt; rise = tt; taken = left_nil v channels; text = next.parts } next.form next.written next.order next.allowed (omega arith) refl e

item_some : (v : Version) (item : Item) → 1 ≤ length (item_text v item)
item_some v (Call call) = text_some v call
item_some v (End (Exit at code)) = omega arith
item_some v (End e) = omega arith

-- what is known where an item is at the front
record IsStep (v : Version) (least offset end : ℕ) (channels : List (List ℕ)) (rest : List ℕ) (item : Item) : Type 0 where
  next : IsNext v least channels rest item (drop (item_length v rest) rest)
  shorter : length (drop (item_length v rest) rest) < length rest
  offsets : offset + item_length v rest + length (drop (item_length v rest) rest) ≡ end

step : (v : Version) (least offset end : ℕ) (channels : List (List ℕ)) (rest : List ℕ) → IsBytes rest → AreAllBytes channels → record_fault v least channels rest ≡ None → offset + length rest ≡ end → IsStep v least offset end channels rest (item_of v channels rest)
step v least offset end channels rest fits all none e =
    let item = item_of v channels rest in
    let after = drop (item_length v rest) rest in
    let next = item_next v least channels rest fits all none in
    let size : item_length v rest ≡ length (item_text v item) = ap (item_length v) next.parts ∙ (item_again v channels item after next.form next.written next.allowed).size in
    let sum : length rest ≡ length (item_text v item) + length after = ap length next.parts ∙ length-append (item_text v item) after in
    record {
      next = next;
      shorter = omega (arith, sum, item_some v item);
      offsets = omega (arith, sum, size, e);
    }

read_left : (channels : List (List ℕ)) (k n : ℕ) → AreAllBytes channels → AreAllBytes (set channels k (drop n (get_or channels k [])))
read_left channels k n all c =
    elim (cases_eq c k) [
      | inl e ↦ subst (λ (c : ℕ). IsBytes (get_or (set channels k (drop n (get_or channels k []))) c [])) (sym e) (subst IsBytes (sym (same_place channels k n)) (IsBytes-drop n _ (all k)))
      | inr other ↦ subst IsBytes (sym (get_or-set_other channels k c _ [] other)) (all c)
    ]

all_after : (call : CallRecord) (channels : List (List ℕ)) → AreAllBytes channels → AreAllBytes (left_after call channels)
all_after (Read at args result bytes) channels all = read_left channels (slice_index args 0) (length bytes) all
all_after call channels all = all

-- that holds of shorter bytes
abbrev OfShorter : Version → ℕ → ℕ → ℕ → Type 0
OfShorter v most end size =
    (least offset : ℕ) (channels : List (List ℕ)) (rest : List ℕ) → IsBytes rest → AreAllBytes channels → HasNone v channels → length rest < size → offset + length rest ≡ end
    → IsSound v least rest channels end (body_of v most least offset channels rest)

sound_item : (v : Version) (most least offset end : ℕ) (channels : List (List ℕ)) (rest : List ℕ) → IsBytes rest → AreAllBytes channels → HasNone v channels → record_fault v least channels rest ≡ None → OfShorter v most end (length rest)
    → (item : Item) → item_of v channels rest ≡ item → IsStep v least offset end channels rest item → IsSound v least rest channels end (body_of v (suc most) least offset channels rest)
sound_item v most least offset end channels rest fits all nothing none shorter (Call call) e s =
    let after = drop (item_length v rest) rest in
    let next = offset + item_length v rest in
    let left = left_after call channels in
    let tail = shorter (at_of call + 1) next left after (IsBytes-drop (item_length v rest) rest fits) (all_after call channels all) (none_after v channels call nothing) s.shorter s.offsets in
    subst (IsSound v least rest channels end) (sym (body_of-call v most least offset channels rest call none e)) (sound_more v least end rest after channels call (body_of v most (at_of call + 1) next left after) nothing s.next tail)
sound_item v most least offset end channels rest fits all nothing none shorter (End last) e s =
    let after = drop (item_length v rest) rest in
    let next = offset + item_length v rest in
    subst (IsSound v least rest channels end) (sym (body_of-end v most least offset channels rest last none e)) (sound_end v least end next rest after channels last s.next s.offsets)

sound_front : (v : Version) (most least offset end : ℕ) (channels : List (List ℕ)) (rest : List ℕ) → IsBytes rest → AreAllBytes channels → HasNone v channels → OfShorter v most end (length rest) → offset + length rest ≡ end
    → (fault : Option LogKind) → record_fault v least channels rest ≡ fault → IsSound v least rest channels end (body_of v (suc most) least offset channels rest)
sound_front v most least offset end channels rest fits all nothing shorter e (Some kind) h =
    let here : AreCalls v least rest channels [] channels rest = record { are_records = tt; written = tt; rise = tt; taken = left_nil v channels; text = refl } in
    subst (IsSound v least rest channels end) (sym (body_of-fault v most least offset channels rest kind h)) (OfRecord [] channels rest here h e)
sound_front v most least offset end channels rest fits all nothing shorter e None h =
    sound_item v most least offset end channels rest fits all nothing h shorter (item_of v channels rest) refl (step v least offset end channels rest fits all h e)

sound_body : (v : Version) (most end size : ℕ) → size ≤ most → OfShorter v most end size
sound_body v zero end size h least offset channels rest fits all nothing less e = absurd (omega (arith, less))
sound_body v (suc most) end size h least offset channels rest fits all nothing less e =
    sound_front v most least offset end channels rest fits all nothing (sound_body v most end (length rest) (omega (arith, h, less))) e (record_fault v least channels rest) refl

-- ---- the whole

abbrev pub IsReadAs : List ℕ → Result Log (LogKind × ℕ) → Type 0
IsReadAs bytes (Ok log) = IsLog log × IsTextOf log bytes
IsReadAs bytes (Err fault) = HasFault bytes fault.0 fault.1

-- bytes whose header and channels have no fault
record AreBefore (v : Version) (bytes : List ℕ) (channels : List (List ℕ)) (rest : List ℕ) : Type 0 where
  stand : AreChannels v bytes channels rest
  all : length channels ≡ channel_count v bytes

read_of : (v : Version) (bytes : List ℕ) (channels : List (List ℕ)) (rest : List ℕ) (calls : List CallRecord) (left : List (List ℕ)) (after : List ℕ) → AreBefore v bytes channels rest → AreCalls v 0 rest channels calls left after → IsRead v bytes calls left after
read_of v bytes channels rest calls left after before are = record {
  channels = channels;
  stand = subst (AreChannels v bytes channels) are.text before.stand;
  are_all = before.all;
  are_records = are.are_records;
  written = are.written;
  rise = are.rise;
  taken = are.taken;
}

fault_of : (v : Version) (bytes : List ℕ) (channels : List (List ℕ)) (rest : List ℕ) (kind : LogKind) (offset : ℕ) → AreBefore v bytes channels rest → IsFaulty v 0 rest channels kind offset (length bytes) → HasFault bytes kind offset
fault_of v bytes channels rest kind offset before (OfRecord calls left after are fault e) =
    let here : length bytes - length after ≡ offset = omega (arith, e) in
    subst (HasFault bytes kind) here (InRecord v calls left after (read_of v bytes channels rest calls left after before are) fault)
fault_of v bytes channels rest kind offset before (OfEnd calls last left after are is written order none some k e) =
    let here : length bytes - length after ≡ offset = omega (arith, e) in
    let there : HasFault bytes Trailing offset = subst (HasFault bytes Trailing) here (AfterEnd v calls last left after (read_of v bytes channels rest calls left (end_text v last ++ after) before are) is written order none some) in
    subst (λ (x : LogKind). HasFault bytes x offset) (sym k) there

log_of_body : (v : Version) (bytes : List ℕ) (channels : List (List ℕ)) (rest : List ℕ) (body : Body) → IsBytes bytes → AreBefore v bytes channels rest → IsWhole v 0 rest channels body.0 body.1
    → IsLog (with_header bytes body) × IsTextOf (with_header bytes body) bytes
log_of_body v bytes channels rest body fits before whole =
    let stand = before.stand in
    let h = headed bytes stand.header in
    let log = with_header bytes body in
    let calls = whole.are in
    let is : IsLog log = record {
      pages = h.pages;
      inputs = h.inputs;
      digest = omega (arith, h.whole, length-take 32 (drop 8 bytes), length-drop 8 bytes);
      digest_bytes = IsBytes-take 32 (drop 8 bytes) (IsBytes-drop 8 bytes fits);
      records = calls.are_records;
      end = whole.is_end;
      rise = calls.rise;
      ends_after = whole.ends_after;
    } in
    let kept = are_kept v bytes log channels whole.left stand.counted before.all refl calls.taken whole.none calls.written whole.written in
    let records = flat_map (record_text v) body.0 ++ end_text v body.1 in
    let after : drop 48 bytes ≡ flat_map channel_text (kept_channels v log) ++ records =
    stand.text ∙ ap (λ (x : List ℕ). flat_map channel_text channels ++ x) calls.text ∙ ap (λ (x : List (List ℕ)). flat_map channel_text x ++ records) kept.kept in (
      is,
      record {
        version = v;
        held = kept.held;
        spelt = header_spelt v bytes fits h.whole stand.version ∙ ap (λ (x : List ℕ). header_text v log ++ x) after ∙ sym (text_parts v log);
      },
    )

body_read : (v : Version) (bytes : List ℕ) (channels : List (List ℕ)) (rest : List ℕ) (r : Result Body (LogKind × ℕ)) → IsBytes bytes → AreBefore v bytes channels rest → IsSound v 0 rest channels (length bytes) r → IsReadAs bytes (map_ok (with_header bytes) r)
body_read v bytes channels rest (Ok body) fits before whole = log_of_body v bytes channels rest body fits before whole
body_read v bytes channels rest (Err fault) fits before faulty = fault_of v bytes channels rest fault.0 fault.1 before faulty

-- the channels of bytes are bytes, and so is what follows them
both_bytes : (x y : List ℕ) → IsBytes (x ++ y) → IsBytes x × IsBytes y
both_bytes x y h = (subst IsBytes (take_at x y (length x) refl) (IsBytes-take (length x) (x ++ y) h), subst IsBytes (drop_at x y (length x) refl) (IsBytes-drop (length x) (x ++ y) h))

channel_bytes : (channels : List (List ℕ)) → IsBytes (flat_map channel_text channels) → AreAllBytes channels
channel_bytes [] h c = tt
channel_bytes (x ∷ channels) h zero = IsBytes-drop 4 (channel_text x) (both_bytes (channel_text x) (flat_map channel_text channels) h).0
channel_bytes (x ∷ channels) h (suc c) = channel_bytes channels (both_bytes (channel_text x) (flat_map channel_text channels) h).1 c

channels_read_as : (v : Version) (bytes : List ℕ) → IsBytes bytes → header_fault bytes ≡ None → version_of bytes ≡ Some v → (r : Result Channels (LogKind × ℕ)) → AreSound (channel_count v bytes) (drop 48 bytes) (length bytes) r
    → IsReadAs bytes (map_ok (with_header bytes) (after_channels v (length bytes) r))
channels_read_as v bytes fits none version (Ok read) whole =
    let rest = read.1 in
    let before : AreBefore v bytes read.0 rest = record { stand = record { header = none; version = version; counted = whole.counted; text = whole.text }; all = whole.as_many } in
    let two = both_bytes (flat_map channel_text read.0) rest (subst IsBytes whole.text (IsBytes-drop 48 bytes fits)) in
    let shorter : length rest < length bytes = omega (arith, (headed bytes none).whole, ap length whole.text, length-append (flat_map channel_text read.0) rest, length-drop 48 bytes) in
    let sound = sound_body v (length bytes) (length bytes) (length bytes) (omega arith) 0 (length bytes - length rest) read.0 rest two.1 (channel_bytes read.0 two.0) (none_of v bytes read.0 whole.as_many) shorter (omega (arith, shorter)) in
    body_read v bytes read.0 rest (body_of v (length bytes) 0 (length bytes - length rest) read.0 rest) fits before sound
channels_read_as v bytes fits none version (Err fault) cut =
    let here : length bytes - length cut.rest ≡ fault.1 = omega (arith, cut.place) in
    let stand : AreChannels v bytes cut.channels cut.rest = record { header = none; version = version; counted = cut.counted; text = cut.text } in
    subst (λ (x : LogKind). HasFault bytes x fault.1) (sym cut.is_header) (subst (HasFault bytes _) here (InChannel v cut.channels cut.rest stand cut.fewer cut.cut))

read_as : (bytes : List ℕ) → IsBytes bytes → (fault : Option (LogKind × ℕ)) → header_fault bytes ≡ fault → IsReadAs bytes (log_of bytes)
read_as bytes fits (Some fault) e = subst (IsReadAs bytes) (sym (log_of-fault bytes fault e)) (InHeader e)
read_as bytes fits None e =
    let h = headed bytes e in
    let rest = drop 48 bytes in
    let size = length-drop 48 bytes in
    let sound = channels_sound (channel_count h.v bytes) (length bytes) 48 rest (IsBytes-drop 48 bytes fits) (omega (arith, h.whole, size)) in
    subst (IsReadAs bytes) (sym (log_of-body h.v bytes e h.version)) (channels_read_as h.v bytes fits e h.version (channels_of (channel_count h.v bytes) 48 rest) sound)

-- bytes are read as what they are
pub log_of-sound : (bytes : List ℕ) → IsBytes bytes → IsReadAs bytes (log_of bytes)
log_of-sound bytes fits = read_as bytes fits (header_fault bytes) refl

pub log_read : (bytes : List ℕ) (log : Log) → IsBytes bytes → log_of bytes ≡ Ok log → IsLog log × IsTextOf log bytes
log_read bytes log fits e = subst (IsReadAs bytes) e (log_of-sound bytes fits)

pub fault_read : (bytes : List ℕ) (kind : LogKind) (offset : ℕ) → IsBytes bytes → log_of bytes ≡ Err (kind, offset) → HasFault bytes kind offset
fault_read bytes kind offset fits e = subst (IsReadAs bytes) e (log_of-sound bytes fits)
