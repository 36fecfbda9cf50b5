-- The source bytes that a run received, as its log tells them.
use Rattle.std.specs.Prelude.{ℕ, List, length, map}
use Rattle.std.specs.List.{flat_map, range_with_len}
use Rattle.flow_model.specs.declared.SourceByte.{SourceByte}
use Rattle.log_model.specs.Logs.{Log}
use Rattle.log_model.specs.Moved.{received}

-- the byte of a channel with this offset
abbrev pub source_on : ℕ → ℕ → SourceByte
source_on channel offset = record { channel = channel; offset = offset }

-- the first bytes of a channel, so many
abbrev pub sources_on : ℕ → ℕ → List SourceByte
sources_on channel count = map (source_on channel) (range_with_len 0 count)

-- the bytes that the log's run received, by channel and then offset; there are at most 16 channels
abbrev pub received_sources : Log → List SourceByte
received_sources log = flat_map (λ c. sources_on c (length (received c log.records))) (range_with_len 0 16)
