-- What a log has next, as the definitions have it.
use Rattle.std.specs.Prelude.{ℕ, List, [], ◌∷◌}
use Rattle.log_model.specs.declared.CallRecord.{CallRecord}
use Rattle.log_model.specs.declared.RunEnd.{RunEnd}
use Rattle.log_model.specs.Logs.{at_of, end_at}
use Rattle.replay_model.specs.Comparison as model
use Rattle.replay_run.specs.declared.expected.Expected.{Expected}
use Rattle.replay_run.specs.declared.expected.Expected.TheVariants as expects

abbrev pub expected_of : Expected → model.Expected
expected_of expects.PlainStep = model.PlainStep
expected_of (expects.Call r) = model.CallOf r.now
expected_of (expects.End e) = model.EndOf e

-- when the log next has something other than a plain step, where these records are left: its next call, or its end
abbrev pub event_time : List CallRecord → RunEnd → ℕ
event_time [] end = end_at end
event_time (r ∷ rs) end = at_of r
