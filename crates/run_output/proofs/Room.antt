-- The bytes that a log's calls moved can be counted in 64 bits.
use Rattle.std.proofs.Common.{◌≡◌, ℕ, suc, ◌+◌, ◌^◌, ◌<◌, ◌≤◌, Bool, true, false, List, [], ◌∷◌, length, take, get_or, ap, ◌∙◌, arith, length-take}
use Rattle.std.specs.Prelude.{if◌then◌else◌}
use Rattle.std.specs.List.{AllByRecursion}
use Rattle.std.proofs.lemmas.List.{take_more}
use Rattle.log_model.specs.declared.Version.TheVariants.{Two}
use Rattle.log_model.specs.declared.CallRecord.{CallRecord}
use Rattle.log_model.specs.Logs.{Log, IsLog, IsRecord, log_text}
use Rattle.log_model.specs.Moved.{received_of, written_of, is_on}
use Rattle.replay_model.proofs.Sizes.{moved_with, moved_below_each, received_of_below, written_of_below, records_fit_text}
use Rattle.run_output.specs.declared.ways.Way.{Way}
use Rattle.run_output.specs.declared.ways.Way.TheVariants.{Received, Written}
use Rattle.run_output.specs.Ways.{moved, moved_by}
use Rattle.run_output.specs.declared.counts.ByteCounts.{ByteCounts}
use Rattle.run_output.specs.Lines.{counts_of}
use Rattle.run_output.specs.Counts.{count_of, HasRoom}

if_below : (b : Bool) (bytes : List ℕ) (n : ℕ) → length bytes < n → length (if b then bytes else []) < n
if_below true bytes n h = h
if_below false bytes n h = omega (arith, h)

moved_by_below : (way : Way) (c : ℕ) (r : CallRecord) → IsRecord r → length (moved_by way c r) < 2 ^ 31
moved_by_below Received c r is = if_below (is_on c r) (received_of r) (2 ^ 31) (received_of_below r is)
moved_by_below Written c r is = if_below (is_on c r) (written_of r) (2 ^ 31) (written_of_below r is)

front_forms : (n : ℕ) (rs : List CallRecord) → AllByRecursion IsRecord rs → AllByRecursion IsRecord (take n rs)
front_forms (suc n) (r ∷ rs) is = (is.0, front_forms n rs is.1)
front_forms n rs is = tt

-- what the calls up to, and with, one of them moved
pub room_at : (log : Log) (way : Way) (c i : ℕ) (d : CallRecord) → IsLog log → length (log_text Two log) ≤ 2 ^ 27 → i < length log.records
    → counts_of (take i log.records) way c + length (moved_by way c (get_or log.records i d)) < 2 ^ 64
room_at log way c i d is small h =
    let rs = log.records in
    let more = ap (λ (qs : List CallRecord). length (moved way c qs)) (take_more rs i d h) ∙ moved_with (moved_by way c) (take i rs) (get_or rs i d) in
    let few = moved_below_each (moved_by way c) (moved_by_below way c) (take (i + 1) rs) (front_forms (i + 1) rs is.records) in
    omega (arith, more, few, small, length-take (i + 1) rs, records_fit_text log)

-- ---- room for the bytes of one call

pub room_for : (counts : ByteCounts) (call made : CallRecord) (way : Way) (channel : ℕ) (bytes : List ℕ) → HasRoom counts call → call ≡ made
    → moved_by way channel made ≡ bytes → count_of counts way channel + length bytes < 2 ^ 64
room_for counts call made way channel bytes room is own =
    omega (arith, room.each way channel, ap (λ (r : CallRecord). length (moved_by way channel r)) is, ap length own)

-- there is room for the bytes of each call of a log, after those before it
pub has_room : (log : Log) (rs : List CallRecord) (counts : ByteCounts) (i : ℕ) (call : CallRecord) → IsLog log → length (log_text Two log) ≤ 2 ^ 27 → rs ≡ log.records
    → i < length rs → call ≡ get_or rs i call → ((way : Way) (c : ℕ) → count_of counts way c ≡ counts_of (take i rs) way c) → HasRoom counts call
has_room log rs counts i call is small all inside here counted = record { each = each } where
  each : (way : Way) (c : ℕ) → count_of counts way c + length (moved_by way c call) < 2 ^ 64
  each way c =
      let most = room_at log way c i call is small (omega (arith, inside, ap length all)) in
      let before : count_of counts way c ≡ counts_of (take i log.records) way c = counted way c ∙ ap (λ (qs : List CallRecord). counts_of (take i qs) way c) all in
      let this = ap (λ (r : CallRecord). length (moved_by way c r)) (here ∙ ap (λ (qs : List CallRecord). get_or qs i call) all) in
      omega (arith, most, before, this)
