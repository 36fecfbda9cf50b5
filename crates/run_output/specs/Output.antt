-- The bytes that a run wrote on a channel.
use Rattle.std.specs.Prelude.{ℕ, List}
use Rattle.log_model.specs.Logs.{Log}
use Rattle.log_model.specs.Moved.{written}

-- the bytes of all its writes on the channel, in order
abbrev pub output : ℕ → Log → List ℕ
output channel log = written channel log.records
