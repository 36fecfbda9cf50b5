use Rattle.std.proofs.Common.{◌≡◌, ◌∙◌, min, ap, arith}
use Rattle.epoch_model.specs.ByLength.{epoch_count, cut_times, cut_times_from, long_first_times}
use Rattle.epoch_cut.proofs.CutTimes.{from_first}
use Rattle.epoch_cut.proofs.by_length.cuts.Goals as goal

pub returns-clause-cut : goal.returns-clause-cut
returns-clause-cut c =
    let steps = c.args.steps in
    let by = c.args.length in
    let one : min 1 (epoch_count steps by) ≡ 1 = omega arith in
    let same : long_first_times 1 steps by ≡ cut_times steps by = ap (λ k. cut_times_from k steps by) one ∙ from_first steps by in
    rw (← same) c.long_first_cuts.ensures.cut
