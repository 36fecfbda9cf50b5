-- The bytes that a run read on a channel.
use Rattle.std.specs.Prelude.{ℕ, List}
use Rattle.log_model.specs.Logs.{Log}
use Rattle.log_model.specs.Moved.{received}

-- the bytes of all its reads on the channel, in order
abbrev pub input : ℕ → Log → List ℕ
input channel log = received channel log.records
