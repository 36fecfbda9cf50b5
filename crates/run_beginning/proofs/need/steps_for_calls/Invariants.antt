use Rattle.std.proofs.Common.{◌≡◌, ℕ, ◌<◌, [], take, drop}
use Rattle.std.specs.Prelude.{max, slice_index}
use Rattle.run_beginning.specs.Need.{written_before, steps_for_calls}
use Rattle.run_beginning.proofs.need.steps_for_calls.Given as goal

abbrev pub invariant-loop-call : goal.invariant-loop-call
invariant-loop-call l = record {
  most : max l.most (steps_for_calls l.query (take l.call-index l.records) (drop l.call-index l.records)) ≡ steps_for_calls l.query [] l.records;
  counted : (c : ℕ) → c < 16 → slice_index l.written c ≡ written_before (take l.call-index l.records) c;
}
