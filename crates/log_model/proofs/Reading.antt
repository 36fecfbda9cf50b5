-- What bytes are read as: the log whose text they are, or the fault that they have. Crates above cite these lemmas.
use Rattle.std.proofs.Common.{◌≡◌, ℕ, zero, suc, ◌+◌, ◌-◌, ◌<◌, ◌≤◌, true, false, List, [], ◌∷◌, ◌++◌, length, take, drop, Option, Some, None, Result, Ok, Err, refl, sym, ap, ap₂, ◌∙◌, append_assoc, arith}
use Rattle.std.specs.List.{flat_map, AllByRecursion}
use Rattle.std.proofs.lemmas.List.{append-nil, drop_at, nil_from_length, length-append, length-drop}
use Rattle.lists.specs.Fields.{word_at}
use Rattle.log_model.specs.declared.Version.{Version}
use Rattle.log_model.specs.declared.Version.TheVariants.{One, Two}
use Rattle.log_model.specs.declared.CallRecord.{CallRecord}
use Rattle.log_model.specs.declared.CallRecord.TheVariants.{Read}
use Rattle.log_model.specs.declared.RunEnd.{RunEnd}
use Rattle.log_model.specs.declared.Item.{Item}
use Rattle.log_model.specs.declared.Item.TheVariants.{Call, End}
use Rattle.log_model.specs.declared.LogKind.{LogKind}
use Rattle.log_model.specs.declared.LogKind.TheVariants.{Header, Trailing}
use Rattle.log_model.specs.Logs.{Log, IsLog, IsTextOf, CanHold, kept_channels, log_text, at_of, end_at, channel_text, record_text, end_text, least_after, IsRecord, IsEnd, Rise}
use Rattle.log_model.specs.Faults.{version_of, channel_count, is_channel_cut, step_end, are_left, header_fault, record_fault, AreLeft, AreChannels, IsRead, HasFault, InHeader, InChannel, InRecord, AfterEnd}
use Rattle.log_model.specs.Reading.{item_of, item_length, left_after, map_ok, Channels, channels_of, Body, with_call, with_end, body_of, with_header, after_channels, body_in, log_of}
use Rattle.log_model.proofs.Headers.{log_again, headed}
use Rattle.log_model.proofs.Items.{IsCallOf}
use Rattle.log_model.proofs.Again.{item_again}
use Rattle.log_model.proofs.Left.{HasNone, none_after, call_of, left_next, left_same, none_left, end_written, text_read}
use Rattle.log_model.proofs.Channels.{joined, channels_read, channels_of-none, channels_of-cut}

-- ---- one record

-- what is read where the record at the front has this fault, or says this
abbrev first_read : Version → (most offset : ℕ) → List (List ℕ) → List ℕ → Option LogKind → Item → Result Body (LogKind × ℕ)
first_read v most offset left rest fault item =
    elim fault [
      | Some kind ↦ Err (kind, offset)
      | None ↦ elim item [
        | Call call ↦ map_ok (with_call call) (body_of v most (at_of call + 1) (offset + item_length v rest) (left_after call left) (drop (item_length v rest) rest))
        | End end ↦ with_end end (offset + item_length v rest) (drop (item_length v rest) rest)
      ]
    ]

front_read : (v : Version) (most least offset : ℕ) (left : List (List ℕ)) (rest : List ℕ) (fault : Option LogKind) (item : Item) → record_fault v least left rest ≡ fault → item_of v left rest ≡ item
    → body_of v (suc most) least offset left rest ≡ first_read v most offset left rest fault item
unfolding body_of
front_read v most least offset left rest fault item e f = ap₂ (first_read v most offset left rest) e f

pub body_of-fault : (v : Version) (most least offset : ℕ) (left : List (List ℕ)) (rest : List ℕ) (kind : LogKind) → record_fault v least left rest ≡ Some kind → body_of v (suc most) least offset left rest ≡ Err (kind, offset)
body_of-fault v most least offset left rest kind e = front_read v most least offset left rest (Some kind) (item_of v left rest) e refl

pub body_of-call : (v : Version) (most least offset : ℕ) (left : List (List ℕ)) (rest : List ℕ) (call : CallRecord) → record_fault v least left rest ≡ None → item_of v left rest ≡ Call call
    → body_of v (suc most) least offset left rest ≡ map_ok (with_call call) (body_of v most (at_of call + 1) (offset + item_length v rest) (left_after call left) (drop (item_length v rest) rest))
body_of-call v most least offset left rest call e f = front_read v most least offset left rest None (Call call) e f

pub body_of-end : (v : Version) (most least offset : ℕ) (left : List (List ℕ)) (rest : List ℕ) (end : RunEnd) → record_fault v least left rest ≡ None → item_of v left rest ≡ End end
    → body_of v (suc most) least offset left rest ≡ with_end end (offset + item_length v rest) (drop (item_length v rest) rest)
body_of-end v most least offset left rest end e f = front_read v most least offset left rest None (End end) e f

-- ---- records by their texts

-- these calls and what follows them
abbrev pub with_calls : List CallRecord → Body → Body
with_calls calls body = (calls ++ body.0, body.1)

pub with_calls-cons : (call : CallRecord) (calls : List CallRecord) (r : Result Body (LogKind × ℕ)) → map_ok (with_call call) (map_ok (with_calls calls) r) ≡ map_ok (with_calls (call ∷ calls)) r
with_calls-cons call calls (Ok body) = refl
with_calls-cons call calls (Err fault) = refl

pub with_calls-push : (calls : List CallRecord) (call : CallRecord) (r : Result Body (LogKind × ℕ)) → map_ok (with_calls calls) (map_ok (with_call call) r) ≡ map_ok (with_calls (calls ++ call ∷ [])) r
with_calls-push calls call (Ok body) = ap (λ (x : List CallRecord). Ok (x, body.1)) (sym (append_assoc calls (call ∷ []) body.0))
with_calls-push calls call (Err fault) = refl

with_calls-nil : (r : Result Body (LogKind × ℕ)) → map_ok (with_calls []) r ≡ r
with_calls-nil (Ok body) = refl
with_calls-nil (Err fault) = refl

call_read : (v : Version) (most least offset : ℕ) (left : List (List ℕ)) (call : CallRecord) (after : List ℕ) → IsRecord call → at_of call < step_end v → IsCallOf v left call → least ≤ at_of call
    → body_of v (suc most) least offset left (record_text v call ++ after) ≡ map_ok (with_call call) (body_of v most (at_of call + 1) (offset + length (record_text v call)) (left_after call left) after)
call_read v most least offset left call after form written allowed order =
    let text = record_text v call in
    let again = item_again v left (Call call) after form written allowed in
    let past : drop (item_length v (text ++ after)) (text ++ after) ≡ after = drop_at text after (item_length v (text ++ after)) (sym again.size) in
    body_of-call v most least offset left (text ++ after) call (again.none least order) again.same
    ∙ ap₂ (λ (n : ℕ) (x : List ℕ). map_ok (with_call call) (body_of v most (at_of call + 1) (offset + n) (left_after call left) x)) again.size past

end_read : (v : Version) (most least offset : ℕ) (left : List (List ℕ)) (end : RunEnd) (after : List ℕ) → IsEnd end → end_at end < step_end v → are_left left ≡ false → least ≤ end_at end
    → body_of v (suc most) least offset left (end_text v end ++ after) ≡ with_end end (offset + length (end_text v end)) after
end_read v most least offset left end after form written none order =
    let text = end_text v end in
    let again = item_again v left (End end) after form written none in
    let past : drop (item_length v (text ++ after)) (text ++ after) ≡ after = drop_at text after (item_length v (text ++ after)) (sym again.size) in
    body_of-end v most least offset left (text ++ after) end (again.none least order) again.same
    ∙ ap₂ (λ (n : ℕ) (x : List ℕ). with_end end (offset + n) x) again.size past

-- these calls are read, and then what follows them
record AreRead (v : Version) (most least offset : ℕ) (channels : List (List ℕ)) (calls : List CallRecord) (left : List (List ℕ)) (after : List ℕ) : Type 0 where
  fuel : ℕ
  read : body_of v most least offset channels (flat_map (record_text v) calls ++ after) ≡ map_ok (with_calls calls) (body_of v (suc fuel) (least_after least calls) (offset + length (flat_map (record_text v) calls)) left after)

calls_read : (v : Version) (most least offset : ℕ) (channels : List (List ℕ)) (calls : List CallRecord) (left : List (List ℕ)) (after : List ℕ) → AllByRecursion IsRecord calls → AllByRecursion (λ r. at_of r < step_end v) calls → Rise least calls
    → HasNone v channels → AreLeft v channels calls left → length calls < most → AreRead v most least offset channels calls left after
calls_read v zero least offset channels calls left after forms written rise none are h = absurd (omega (arith, h))
calls_read v (suc most) least offset channels [] left after forms written rise none are h =
    let here : offset ≡ offset + 0 = omega arith in
    record {
      fuel = most;
      read = ap₂ (λ (n : ℕ) (x : List (List ℕ)). body_of v (suc most) least n x after) here (left_same v channels left are) ∙ sym (with_calls-nil (body_of v (suc most) least (offset + 0) left after));
    }
calls_read v (suc most) least offset channels (call ∷ calls) left after forms written rise none are h =
    let text = record_text v call in
    let texts = flat_map (record_text v) calls in
    let allowed = call_of v channels call calls left are in
    let next = calls_read v most (at_of call + 1) (offset + length text) (left_after call channels) calls left after forms.1 written.1 rise.1 (none_after v channels call none) (left_next v channels call calls left none are) (omega (arith, h)) in
    let size : offset + length text + length texts ≡ offset + length (text ++ texts) = omega (arith, length-append text texts) in
    let final = least_after (at_of call + 1) calls in
    record {
      fuel = next.fuel;
      read =
          ap (body_of v (suc most) least offset channels) (append_assoc text texts after)
          ∙ call_read v most least offset channels call (texts ++ after) forms.0 written.0 allowed rise.0
          ∙ ap (map_ok (with_call call)) next.read
          ∙ with_calls-cons call calls (body_of v (suc next.fuel) final (offset + length text + length texts) left after)
          ∙ ap (λ (n : ℕ). map_ok (with_calls (call ∷ calls)) (body_of v (suc next.fuel) final n left after)) size;
    }

-- ---- the whole, by its text or its fault

-- what is read where the header has this fault
abbrev whole_read : List ℕ → Option (LogKind × ℕ) → Result Log (LogKind × ℕ)
whole_read bytes fault =
    elim fault [
      | Some fault ↦ Err fault
      | None ↦ map_ok (with_header bytes) (body_in (version_of bytes) bytes)
    ]

pub log_of-fault : (bytes : List ℕ) (fault : LogKind × ℕ) → header_fault bytes ≡ Some fault → log_of bytes ≡ Err fault
unfolding log_of
log_of-fault bytes fault e = ap (whole_read bytes) e

log_of-none : (bytes : List ℕ) → header_fault bytes ≡ None → log_of bytes ≡ map_ok (with_header bytes) (body_in (version_of bytes) bytes)
unfolding log_of
log_of-none bytes e = ap (whole_read bytes) e

-- what is read after the header
pub log_of-body : (v : Version) (bytes : List ℕ) → header_fault bytes ≡ None → version_of bytes ≡ Some v → log_of bytes ≡ map_ok (with_header bytes) (body_in (Some v) bytes)
log_of-body v bytes e f = log_of-none bytes e ∙ ap (λ (o : Option Version). map_ok (with_header bytes) (body_in o bytes)) f

-- what is read after the channels
pub body_in-channels : (v : Version) (bytes : List ℕ) (read : Channels) → channels_of (channel_count v bytes) 48 (drop 48 bytes) ≡ Ok read
    → body_in (Some v) bytes ≡ body_of v (length bytes) 0 (length bytes - length read.1) read.0 read.1
body_in-channels v bytes read e = ap (after_channels v (length bytes)) e

pub body_in-fault : (v : Version) (bytes : List ℕ) (fault : LogKind × ℕ) → channels_of (channel_count v bytes) 48 (drop 48 bytes) ≡ Err fault → body_in (Some v) bytes ≡ Err fault
body_in-fault v bytes fault e = ap (after_channels v (length bytes)) e

-- all channels are read, of bytes that they stand in
all_read : (v : Version) (bytes : List ℕ) (channels : List (List ℕ)) (rest : List ℕ) → AreChannels v bytes channels rest → length channels ≡ channel_count v bytes
    → channels_of (channel_count v bytes) 48 (drop 48 bytes) ≡ Ok (channels, rest)
all_read v bytes channels rest stand all =
    let count : channel_count v bytes ≡ length channels + 0 = omega (arith, all) in
    ap₂ (λ (n : ℕ) (x : List ℕ). channels_of n 48 x) count stand.text
    ∙ channels_read 0 48 channels rest stand.counted
    ∙ ap (map_ok (joined channels)) (channels_of-none (48 + length (flat_map channel_text channels)) rest)
    ∙ ap (λ (x : List (List ℕ)). Ok (x, rest)) (append-nil channels)

pub text_some : (v : Version) (call : CallRecord) → 1 ≤ length (record_text v call)
text_some v (Read at args result bytes) = omega arith
text_some v call = omega arith

pub no_more_than_bytes : (v : Version) (calls : List CallRecord) → length calls ≤ length (flat_map (record_text v) calls)
no_more_than_bytes v [] = omega arith
no_more_than_bytes v (call ∷ calls) = omega (arith, text_some v call, no_more_than_bytes v calls, length-append (record_text v call) (flat_map (record_text v) calls))

pub none_of : (v : Version) (bytes : List ℕ) (channels : List (List ℕ)) → length channels ≡ channel_count v bytes → HasNone v channels
none_of One bytes channels all = nil_from_length channels all
none_of Two bytes channels all = tt

-- where the bytes after the channels, and those after the calls, begin
record HasPlaces (v : Version) (bytes : List ℕ) (channels : List (List ℕ)) (calls : List CallRecord) (after : List ℕ) : Type 0 where
  whole : 48 ≤ length bytes
  records : length (flat_map (record_text v) calls ++ after) ≡ length (flat_map (record_text v) calls) + length after
  sum : 48 + length (flat_map channel_text channels) + length (flat_map (record_text v) calls ++ after) ≡ length bytes

places : (v : Version) (bytes : List ℕ) (channels : List (List ℕ)) (calls : List CallRecord) (after : List ℕ) → AreChannels v bytes channels (flat_map (record_text v) calls ++ after) → HasPlaces v bytes channels calls after
places v bytes channels calls after stand =
    let whole = (headed bytes stand.header).whole in
    let rest = flat_map (record_text v) calls ++ after in
    record {
      whole = whole;
      records = length-append (flat_map (record_text v) calls) after;
      sum = omega (arith, whole, ap length stand.text, length-append (flat_map channel_text channels) rest, length-drop 48 bytes);
    }

-- where the calls begin
abbrev begin : Version → List ℕ → List CallRecord → List ℕ → ℕ
begin v bytes calls after = length bytes - length (flat_map (record_text v) calls ++ after)

-- the log is read by these calls, and what follows them
read_by : (v : Version) (bytes : List ℕ) (calls : List CallRecord) (left : List (List ℕ)) (after : List ℕ) (read : IsRead v bytes calls left after)
    → AreRead v (length bytes) 0 (begin v bytes calls after) read.channels calls left after
read_by v bytes calls left after read =
    let p = places v bytes read.channels calls after read.stand in
    calls_read v (length bytes) 0 (begin v bytes calls after) read.channels calls left after read.are_records read.written read.rise (none_of v bytes read.channels read.are_all) read.taken
    (omega (arith, p.whole, p.records, p.sum, no_more_than_bytes v calls))

log_by : (v : Version) (bytes : List ℕ) (calls : List CallRecord) (left : List (List ℕ)) (after : List ℕ) (read : IsRead v bytes calls left after) (r : Result Body (LogKind × ℕ))
    → body_of v (suc (read_by v bytes calls left after read).fuel) (least_after 0 calls) (begin v bytes calls after + length (flat_map (record_text v) calls)) left after ≡ r
    → log_of bytes ≡ map_ok (with_header bytes) (map_ok (with_calls calls) r)
log_by v bytes calls left after read r e =
    let rest = flat_map (record_text v) calls ++ after in
    log_of-body v bytes read.stand.header read.stand.version
    ∙ ap (map_ok (with_header bytes)) (body_in-channels v bytes (read.channels, rest) (all_read v bytes read.channels rest read.stand read.are_all) ∙ (read_by v bytes calls left after read).read ∙ ap (map_ok (with_calls calls)) e)

bytes_after : (end : RunEnd) (offset : ℕ) (rest : List ℕ) → 0 < length rest → with_end end offset rest ≡ Err (Trailing, offset)
bytes_after end offset [] some = absurd (omega (arith, some))
bytes_after end offset (byte ∷ rest) some = refl

channel_fault : (v : Version) (bytes : List ℕ) (channels : List (List ℕ)) (rest : List ℕ) → AreChannels v bytes channels rest → length channels < channel_count v bytes → is_channel_cut rest ≡ true
    → channels_of (channel_count v bytes) 48 (drop 48 bytes) ≡ Err (Header, length bytes - length rest)
channel_fault v bytes channels rest stand fewer cut =
    let texts = flat_map channel_text channels in
    let more = channel_count v bytes - length channels - 1 in
    let count : channel_count v bytes ≡ length channels + suc more = omega (arith, fewer) in
    let whole = (headed bytes stand.header).whole in
    let here : 48 + length texts ≡ length bytes - length rest = omega (arith, whole, ap length stand.text, length-append texts rest, length-drop 48 bytes) in
    ap₂ (λ (n : ℕ) (x : List ℕ). channels_of n 48 x) count stand.text
    ∙ channels_read (suc more) 48 channels rest stand.counted
    ∙ ap (map_ok (joined channels)) (channels_of-cut more (48 + length texts) rest cut)
    ∙ ap (λ (n : ℕ). Err (Header, n)) here

pub reads_fault : (bytes : List ℕ) (kind : LogKind) (offset : ℕ) → HasFault bytes kind offset → log_of bytes ≡ Err (kind, offset)
reads_fault bytes kind offset (InHeader h) = log_of-fault bytes (kind, offset) h
reads_fault bytes kind offset (InChannel v channels rest stand fewer cut) =
    log_of-body v bytes stand.header stand.version
    ∙ ap (map_ok (with_header bytes)) (body_in-fault v bytes (Header, length bytes - length rest) (channel_fault v bytes channels rest stand fewer cut))
reads_fault bytes kind offset (InRecord v calls left rest read fault) =
    let p = places v bytes read.channels calls rest read.stand in
    let here = begin v bytes calls rest + length (flat_map (record_text v) calls) in
    let there : here ≡ length bytes - length rest = omega (arith, p.records, p.sum) in
    log_by v bytes calls left rest read (Err (kind, here)) (body_of-fault v (read_by v bytes calls left rest read).fuel (least_after 0 calls) here left rest kind fault)
    ∙ ap (λ (n : ℕ). Err (kind, n)) there
reads_fault bytes kind offset (AfterEnd v calls end left rest read is written order none some) =
    let after = end_text v end ++ rest in
    let p = places v bytes read.channels calls after read.stand in
    let here = begin v bytes calls after + length (flat_map (record_text v) calls) in
    let there : here + length (end_text v end) ≡ length bytes - length rest = omega (arith, p.records, p.sum, length-append (end_text v end) rest) in
    log_by v bytes calls left after read (Err (Trailing, here + length (end_text v end)))
    (end_read v (read_by v bytes calls left after read).fuel (least_after 0 calls) here left end rest is written none order ∙ bytes_after end (here + length (end_text v end)) rest some)
    ∙ ap (λ (n : ℕ). Err (Trailing, n)) there

log_from : (log : Log) (pages inputs : ℕ) (digest : List ℕ) → pages ≡ log.pages → inputs ≡ log.inputs → digest ≡ log.digest
    → record { pages = pages; inputs = inputs; digest = digest; records = log.records; end = log.end } ≡ log
log_from log pages inputs digest p i d =
    ap (λ (x : ℕ). record log { pages = x; inputs = inputs; digest = digest }) p
    ∙ ap (λ (x : ℕ). record log { inputs = x; digest = digest }) i
    ∙ ap (λ (x : List ℕ). record log { digest = x }) d

text_is_read : (v : Version) (log : Log) → IsLog log → CanHold v log → log_of (log_text v log) ≡ Ok log
text_is_read v log is held =
    let text = log_text v log in
    let again = log_again v log is in
    let last = end_text v log.end in
    let read = text_read v log is held in
    let fuel = (read_by v text log.records _ last read).fuel in
    let here = begin v text log.records last + length (flat_map (record_text v) log.records) in
    let end =
    ap (body_of v (suc fuel) (least_after 0 log.records) here _) (sym (append-nil last))
    ∙ end_read v fuel (least_after 0 log.records) here _ log.end [] is.end (end_written v log is held) (none_left (kept_channels v log)) is.ends_after in
    log_by v text log.records _ last read (Ok ([], log.end)) end
    ∙ ap (λ (x : List CallRecord). Ok (with_header text (x, log.end))) (append-nil log.records)
    ∙ ap Ok (log_from log (word_at text 40) (word_at text 44) (take 32 (drop 8 text)) again.pages again.inputs again.digest)

pub reads_log : (bytes : List ℕ) (log : Log) → IsLog log → IsTextOf log bytes → log_of bytes ≡ Ok log
reads_log bytes log is text = ap log_of text.spelt ∙ text_is_read text.version log is text.held
