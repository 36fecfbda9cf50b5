-- What a log says of its run, in numbers.
use Rattle.std.specs.Prelude.{ℕ, length}
use Rattle.std.specs.List.{flat_map}
use Rattle.log_model.specs.Logs.{Log}
use Rattle.log_model.specs.Moved.{received_of, written_of}

-- the calls before the end, the bytes that they read, and the bytes that they wrote, whatever the channel
abbrev pub calls : Log → ℕ
calls log = length log.records

abbrev pub bytes_read : Log → ℕ
bytes_read log = length (flat_map received_of log.records)

abbrev pub bytes_written : Log → ℕ
bytes_written log = length (flat_map written_of log.records)
