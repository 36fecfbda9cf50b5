-- How many bytes were moved each way on each channel, as they are counted.
use Rattle.std.specs.Prelude.{◌≡◌, ℕ, ◌+◌, ◌^◌, ◌<◌, ◌==◌, ◌&&◌, if◌then◌else◌, length, nat_eq, unwrap_or}
use Rattle.std.specs.HashMap.{get}
use Rattle.log_model.specs.declared.CallRecord.{CallRecord}
use Rattle.run_output.specs.declared.ways.Way.{Way}
use Rattle.run_output.specs.declared.ways.Way.TheVariants.{Received, Written}
use Rattle.run_output.specs.Ways.{moved_by}
use Rattle.run_output.specs.declared.counts.ByteCounts.{ByteCounts}
use Rattle.run_output.specs.Pieces.{same_way}

-- how many bytes are counted one way on a channel
abbrev pub count_of : ByteCounts → Way → ℕ → ℕ
count_of counts Received channel = unwrap_or (get nat_eq counts.received channel) 0
count_of counts Written channel = unwrap_or (get nat_eq counts.written channel) 0

-- what bytes that are moved one way on a channel add to a count
abbrev pub added : Way → ℕ → ℕ → Way → ℕ → ℕ
added way channel n w c = if same_way way w && (channel == c) then n else 0

-- n bytes that are moved one way on a channel are counted
pub record AreAdded (old : ByteCounts) (way : Way) (channel n : ℕ) (new : ByteCounts) : Type 0 where
  pub each : (w : Way) (c : ℕ) → count_of new w c ≡ count_of old w c + added way channel n w c

-- the bytes of a call are counted
pub record IsCounted (old : ByteCounts) (call : CallRecord) (new : ByteCounts) : Type 0 where
  pub each : (way : Way) (channel : ℕ)
      → count_of new way channel ≡ count_of old way channel + length (moved_by way channel call)

-- the counts with those of a call are numbers of 64 bits
pub record HasRoom (counts : ByteCounts) (call : CallRecord) : Type 0 where
  pub each : (way : Way) (channel : ℕ) → count_of counts way channel + length (moved_by way channel call) < 2 ^ 64
