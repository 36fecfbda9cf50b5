use Rattle.std.proofs.Common.{◌≡◌, ◌≤◌, take, vec_len, vec_capacity}
use Rattle.epoch_model.specs.Cutting.{epochs}
use Rattle.epoch_cut.specs.Numbered.{numbered}
use Rattle.epoch_cut.proofs.cutting.Cuts.tickets.Given as goal

-- one ticket for each number so far, and room for all
abbrev pub invariant-loop-number : goal.invariant-loop-number
invariant-loop-number l = record {
  tickets : l.tickets.items ≡ take l.number (numbered 0 (epochs 0 l.self));
  count : vec_len l.tickets ≡ l.number;
  room : l.count ≤ vec_capacity l.tickets;
}
