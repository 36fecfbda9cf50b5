-- The bytes that calls moved one way: into the program, or out of it.
use Rattle.std.specs.Prelude.{ℕ, List}
use Rattle.std.specs.List.{flat_map}
use Rattle.log_model.specs.declared.CallRecord.{CallRecord}
use Rattle.log_model.specs.Moved.{received_by, written_by}
use Rattle.run_output.specs.declared.ways.Way.{Way}
use Rattle.run_output.specs.declared.ways.Way.TheVariants.{Received, Written}

-- the bytes that a call moved this way on a channel
abbrev pub moved_by : Way → ℕ → CallRecord → List ℕ
moved_by Received channel r = received_by channel r
moved_by Written channel r = written_by channel r

-- all bytes that these calls moved this way on a channel, in order
abbrev pub moved : Way → ℕ → List CallRecord → List ℕ
moved way channel records = flat_map (moved_by way channel) records
