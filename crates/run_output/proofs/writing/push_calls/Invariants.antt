use Rattle.std.proofs.Common.{◌≡◌, ℕ, ◌++◌, take}
use Rattle.std.specs.List.{flat_map}
use Rattle.run_output.specs.declared.ways.Way.{Way}
use Rattle.run_output.specs.Lines.{counts_of, line_text}
use Rattle.run_output.specs.Calls.{lines}
use Rattle.run_output.specs.Counts.{count_of}
use Rattle.run_output.proofs.Lines.{left_text}
use Rattle.run_output.proofs.writing.push_calls.Given as goal

abbrev pub invariant-loop-call : goal.invariant-loop-call
invariant-loop-call l = record {
  text : l.out.items ++ left_text l.records l.call-index ≡ l.fn.out.items ++ flat_map line_text (lines l.log);
  counts : (way : Way) (c : ℕ) → count_of l.counts way c ≡ counts_of (take l.call-index l.records) way c;
}
