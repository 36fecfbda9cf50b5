-- A check that goes on a stretch at a time.
use Rattle.std.proofs.Common.{◌≡◌, ℕ, zero, suc, ◌+◌, ◌-◌, ◌≤◌, false, Some, None, arith, ap, ap₂, sym, ◌∙◌, subst}
use Rattle.log_model.specs.Logs.{Log, end_at, steps}
use Rattle.log_model.proofs.Ends.{end_at-le-steps_by}
use Rattle.replay_model.specs.declared.Divergence.{Divergence}
use Rattle.replay_model.specs.Run.{start, moment_after}
use Rattle.replay_model.specs.Comparison.{difference, divergence}
use Rattle.replay_model.proofs.Firsts.{none_exactly}
use Rattle.replay_model.proofs.Track.{step_time}
use Rattle.replay_run.specs.Runs.{RunAt}
use Rattle.replayer.specs.CheckedSteps.{Advances, IsPassed, IsAdvanced, IsEnded, DiffersLater}
use Rattle.replayer.specs.Cursors.{Stands}
use Rattle.replayer.specs.InParts.{AgreesSoFar, HasCome, HasEnded, Differs}
use Rattle.replayer.specs.Jobs.{Job}
use Rattle.replayer.specs.Watching.{Seen, IsTold, ArePassed}
use Rattle.replayer.proofs.Loops.{IsChecking, checking_ends, checking_differs}
use Rattle.replayer.proofs.Passing.{checking_passed}
use Rattle.replayer.proofs.Standing.{stands_later}
use Rattle.replayer.proofs.Watching.{moved, told_then}

-- ---- steps that are passed

pub one_later : (before after : RunAt) → IsAdvanced before after → after.moment.time ≡ before.moment.time + 1
one_later before after made = ap (λ (r : RunAt). r.moment.time) made.moved ∙ step_time before.log before.moment made.early made.agrees

pub not_earlier : (before after : RunAt) → IsPassed before after → before.moment.time ≤ after.moment.time
not_earlier before after p = let time = (moved p.count before after p.steps).time in omega arith

pub same_end : (before after : RunAt) → IsPassed before after → end_at after.log.end ≡ end_at before.log.end
same_end before after p = ap (λ (l : Log). end_at l.end) (moved p.count before after p.steps).same_log

-- no step is made at the time of the end
to_the_end : (n : ℕ) (before after : RunAt) → Advances n before after → before.moment.time ≤ end_at before.log.end → after.moment.time ≤ end_at after.log.end
to_the_end zero before after e h = let time = ap (λ (r : RunAt). r.moment.time) e in let end = ap (λ (r : RunAt). end_at r.log.end) e in omega arith
to_the_end (suc n) before after (between, steps, made) h =
    let early = made.early in
    let end : end_at after.log.end ≡ end_at between.log.end = ap (λ (r : RunAt). end_at r.log.end) made.moved in
    omega (arith, one_later between after made)

-- ---- where nothing differs so far

module _ (job : Job) where
  checking_of : (run : RunAt) → AgreesSoFar job run → run.waits ≡ false → IsChecking job.log job.start run.moment.time run
  checking_of run a goes_on = record { same_log = a.stands.same_log; goes_on = goes_on; here = a.stands.here; time = refl_of run.moment.time; none_before = a.none_before }
    where
      refl_of : (n : ℕ) → n ≡ n
      refl_of n = omega arith

  agrees_of : (i : ℕ) (run : RunAt) → IsChecking job.log job.start i run → i ≤ steps job.log → AgreesSoFar job run
  agrees_of i run c within =
      let time = c.time in
      record {
        stands = record { same_log = c.same_log; within = omega arith; here = c.here ∙ ap (λ (k : ℕ). moment_after k (start job.start job.log)) (sym time) };
        none_before = λ k h. c.none_before k (omega arith);
      }

  module _ (before : RunAt) (goes_on : before.waits ≡ false) (h : before.moment.time ≤ end_at before.log.end) where
    -- a run that stood at a moment of the job's run comes to another
    pub stands_on : (after : RunAt) → IsPassed before after → Stands job before → Stands job after
    stands_on after p stands =
        let there = moved p.count before after p.steps in
        let time = there.time in
        let late = to_the_end p.count before after p.steps h in
        let end : end_at after.log.end ≡ end_at job.log.end = ap (λ (l : Log). end_at l.end) (there.same_log ∙ stands.same_log) in
        stands_later job before stands p.count after there (omega (arith, end_at-le-steps_by job.log.end))

    pub agrees_on : (after : RunAt) → IsPassed before after → AgreesSoFar job before → AgreesSoFar job after
    agrees_on after p a =
        let there = stands_on after p a.stands in
        let time = (moved p.count before after p.steps).time in
        let within = there.within in
        agrees_of (before.moment.time + p.count) after (checking_passed job.log job.start p.count before.moment.time before after (checking_of before a goes_on) p.steps) (omega arith)

    checking_on : (after : RunAt) → (p : IsPassed before after) → AgreesSoFar job before → IsChecking job.log job.start (before.moment.time + p.count) after
    checking_on after p a = checking_passed job.log job.start (p.count) before.moment.time before after (checking_of before a goes_on) p.steps

    pub differs_first : (d : Divergence) → DiffersLater before d → AgreesSoFar job before → divergence job.start job.log ≡ Some d
    differs_first d later a =
        let c = checking_on later.there later.passed a in
        let late = to_the_end later.passed.count before later.there later.passed.steps h in
        let end : end_at later.there.log.end ≡ end_at job.log.end = ap (λ (l : Log). end_at l.end) c.same_log in
        let time = c.time in
        sym (checking_differs job.log job.start (before.moment.time + later.passed.count) later.there c d (omega arith) later.different)

    pub differs_somewhere : (d : Divergence) → DiffersLater before d → Stands job before → divergence job.start job.log ≡ None → ⊥
    differs_somewhere d later stands none =
        let there = stands_on later.there later.passed stands in
        let late = to_the_end later.passed.count before later.there later.passed.steps h in
        let end : end_at later.there.log.end ≡ end_at job.log.end = ap (λ (l : Log). end_at l.end) there.same_log in
        let agrees = ((none_exactly job.start job.log).0 none).none later.there.moment.time (omega arith) in
        let here = ap₂ difference (sym there.same_log) (sym there.here) in
        let both = sym agrees ∙ here ∙ later.different.differs in
        cc

    pub ends : (after : RunAt) → IsPassed before after → IsEnded after → AgreesSoFar job before → divergence job.start job.log ≡ None
    ends after p ended a = sym (checking_ends job.log job.start (before.moment.time + p.count) after (checking_on after p a) ended)

-- ---- what a check says

module _ (before : RunAt) (goes_on : before.waits ≡ false) (h : before.moment.time ≤ end_at before.log.end) where
  pub differs : (d : Divergence) → DiffersLater before d → Differs before d
  differs d later = record { some = λ job. differs_somewhere job before goes_on h d later; first = λ job. differs_first job before goes_on h d later }

  module _ {W : Type 0} (seen : Seen W) (old : W) where
    pub has_come : (until : ℕ) (after : RunAt) (new : W) → ArePassed seen before old after new → after.moment.time ≡ until → HasCome seen before old until after new
    has_come until after new p time = record {
      time = time;
      stands = λ job. stands_on job before goes_on h after p.passed;
      agrees = λ job. agrees_on job before goes_on h after p.passed;
      told = subst (λ (t : ℕ). IsTold seen before (t - before.moment.time) old new) time p.told;
    }

    pub has_ended : (after : RunAt) (so_far new : W) → ArePassed seen before old after so_far → IsEnded after → IsTold seen after (steps after.log - after.moment.time) so_far new → HasEnded seen before old new
    has_ended after so_far new p ended told =
        let there = moved p.passed.count before after p.passed.steps in
        let time = there.time in
        let log : steps after.log ≡ steps before.log = ap steps there.same_log in
        let late = to_the_end p.passed.count before after p.passed.steps h in
        let n : after.moment.time - before.moment.time ≡ p.passed.count = omega arith in
        let all : p.passed.count + (steps after.log - after.moment.time) ≡ steps before.log - before.moment.time = omega (arith, end_at-le-steps_by after.log.end) in
        record {
          agrees = λ job. ends job before goes_on h after p.passed ended;
          told = subst (λ (k : ℕ). IsTold seen before k old new) all
              (told_then seen before after p.passed.count (steps after.log - after.moment.time) old so_far new there (subst (λ (k : ℕ). IsTold seen before k old so_far) n p.told) told);
        }

-- ---- the beginning

pub agrees_at_start : (job : Job) (run : RunAt) → run ≡ record { log = job.log; moment = start job.start job.log; waits = false } → AgreesSoFar job run
agrees_at_start job run e =
    let time : run.moment.time ≡ 0 = ap (λ (r : RunAt). r.moment.time) e in
    record {
      stands = record {
        same_log = ap (λ (r : RunAt). r.log) e;
        within = omega arith;
        here = ap (λ (r : RunAt). r.moment) e ∙ ap (λ (k : ℕ). moment_after k (start job.start job.log)) (sym time);
      };
      none_before = λ k b. absurd (omega arith);
    }
