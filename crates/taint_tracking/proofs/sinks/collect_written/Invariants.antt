use Rattle.std.proofs.Common.{ℕ, map}
use Rattle.std.specs.List.{range_with_len}
use Rattle.report_model.specs.Rows.{sink_at}
use Rattle.taint_tracking.specs.Sinks.{Notes, chosen}
use Rattle.taint_tracking.proofs.sinks.collect_written.Given as goal

abbrev pub invariant-loop-i : goal.invariant-loop-i
invariant-loop-i l = (t : ℕ) → Notes l.places (chosen l.query (map (sink_at t l.call) (range_with_len 0 l.i))) l.initial.sinks.items l.sinks.items
