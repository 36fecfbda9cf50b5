use Rattle.std.proofs.Common.{◌≡◌, ◌++◌, take}
use Rattle.std.specs.List.{flat_map}
use Rattle.page_data.specs.Data.{call_line}
use Rattle.page_data.proofs.calls.push_calls.Given as goal

-- the lines of the calls so far
abbrev pub invariant-loop-call : goal.invariant-loop-call
invariant-loop-call l = l.out.items ≡ l.fn.out.items ++ flat_map call_line (take l.call-index l.calls)
