use Rattle.std.proofs.Common.{◌≡◌, List, [], ◌∷◌, ◌++◌, length, reverse, ap, sym, subst, ◌∙◌, arith}
use Rattle.std.proofs.lemmas.List.{reverse-reverse}
use Rattle.log_model.specs.Logs.{steps}
use Rattle.epoch_model.specs.Cutting.{epochs}
use Rattle.epoch_cut.specs.Numbered.{NumberedEpoch, numbered}
use Rattle.epoch_cut.proofs.Numbered.{length-numbered}
use Rattle.replay_run.specs.Runs.{RunAt}
use Rattle.checked_epochs.specs.Beginnings.{IsOfSome}
use Rattle.checked_epochs.specs.Aheads.{Follow}
use Rattle.checked_epochs.proofs.Cutting.{split_cutting, before_end}
use Rattle.checked_epochs.proofs.working.ahead_of.Goals as goal

pub unreachable-requires : goal.unreachable-requires
unreachable-requires c =
    omega (arith, c.in_default.ensures.cases.0, c.in_ok-left.left.ok, ap length c.in_ok-left.ensures, length-numbered 0 0 c.args.cuts, c.count-count.ensures.is, c.count-count.ensures.in_range)

pub returns-clause-ahead : goal.returns-clause-ahead
returns-clause-ahead c =
    let log = c.args.checker.log in
    let last = c.in-Some.last in
    let inner = c.pop.new.self.items in
    let same : inner ++ last ∷ [] ≡ numbered 0 (epochs 0 c.args.cuts) = sym c.in-Some.ensures.items ∙ c.in_ok-left.ensures in
    let split = split_cutting (steps log) c.args.cuts inner last c.requires.cutting same in
    let left : reverse c.reverse.new.self.items ≡ inner = ap reverse c.reverse.ensures.items ∙ reverse-reverse inner in
    let time : c.into_state-state.result.counters.time ≡ 0 = ap (λ (r : RunAt). r.moment.time) c.into_state-state.ensures.again ∙ c.requires.begins in
    record {
      counted = c.into_state-state.ensures.counted;
      of_some = subst IsOfSome (sym c.into_state-state.ensures.again) c.requires.of_some;
      before = omega (arith, time);
      follow = subst (λ (es : List NumberedEpoch). Follow 0 es last.first) (sym left) split.follow;
      before_end = before_end log.end last.first split.begins;
      ends = split.ends;
    }
