-- The counts of written bytes, and what calls need by them.
use Rattle.std.proofs.Common.{◌≡◌, ℕ, suc, ◌+◌, ◌-◌, ◌^◌, ◌<◌, ◌≤◌, Bool, false, ◌||◌, List, length, map, take, drop, get_or, ap, ◌∙◌, arith}
use Rattle.std.specs.List.{list_any, range_with_len}
use Rattle.std.proofs.lemmas.List.{take_more, take-append-drop}
use Rattle.log_model.specs.declared.Version.TheVariants.{Two}
use Rattle.log_model.specs.declared.CallRecord.{CallRecord}
use Rattle.log_model.specs.Logs.{Log, log_text}
use Rattle.log_model.specs.Moved.{written, written_by}
use Rattle.log_model.proofs.Moved.{length-written-append, length-written-push}
use Rattle.replay_model.proofs.Sizes.{written_fits}
use Rattle.flow_model.specs.declared.SinkPoint.{SinkPoint}
use Rattle.run_beginning.specs.Need.{output_byte, written_before}

-- ---- bytes of a channel, one after another

pub none_yet : (p : SinkPoint → Bool) (c from i n : ℕ) → i < n → p (output_byte c from i) ≡ false
    → list_any p (map (output_byte c from) (range_with_len i (n - i))) ≡ list_any p (map (output_byte c from) (range_with_len (i + 1) (n - (i + 1))))
none_yet p c from i n h e =
    let left : n - i ≡ suc (n - (i + 1)) = omega arith in
    ap (λ (k : ℕ). list_any p (map (output_byte c from) (range_with_len i k))) left
    ∙ ap (λ (b : Bool). b || list_any p (map (output_byte c from) (range_with_len (i + 1) (n - (i + 1))))) e

-- ---- calls, one after another

pub counted_more : (rs : List CallRecord) (c i : ℕ) (d : CallRecord) → i < length rs
    → written_before (take (i + 1) rs) c ≡ written_before (take i rs) c + length (written_by c (get_or rs i d))
counted_more rs c i d h = ap (λ (front : List CallRecord). written_before front c) (take_more rs i d h) ∙ length-written-push c (take i rs) (get_or rs i d)

-- the bytes up to, and with, a call can be counted in 32 bits
pub room : (log : Log) (rs : List CallRecord) (c i : ℕ) (r : CallRecord) → length (log_text Two log) ≤ 2 ^ 27 → rs ≡ log.records → i < length rs → r ≡ get_or rs i r
    → written_before (take i rs) c + length (written_by c r) < 2 ^ 32
room log rs c i r small all h e =
    let whole = ap (λ (xs : List CallRecord). length (written c xs)) (take-append-drop (i + 1) rs ∙ all) in
    omega (
      arith,
      small,
      written_fits c log,
      whole,
      length-written-append c (take (i + 1) rs) (drop (i + 1) rs),
      counted_more rs c i r h,
      ap (λ (x : CallRecord). length (written_by c x)) e,
    )
