use Rattle.std.proofs.Common.{◌≡◌, ℕ, ◌+◌, ◌≤◌, ap, sym, subst, ◌∙◌, arith}
use Rattle.std.specs.Prelude.{Some}
use Rattle.flow_model.specs.Origins.{step_at}
use Rattle.replayer.specs.Jobs.{Job, trace_of}
use Rattle.replayer.specs.Positions.{CursorAt}
use Rattle.taint_tracking.specs.Watched.{IsOfSteps, Tracks}
use Rattle.source_labels.specs.Words.{node_words}
use Rattle.replayer.proofs.Told.{went_on}
use Rattle.local_taint.proofs.InARow.{tracks_row}
use Rattle.local_taint.proofs.analysis.follow.Goals as goal

pub run_plain-requires : goal.run_plain-requires
run_plain-requires c = λ k late early. let calls = c.quiet_until-until.ensures.calls in c.plain_until.ensures.plain k late (omega (arith, early, calls))

pub loop-cursor-smaller : goal.loop-cursor-smaller
loop-cursor-smaller c =
    let later = went_on c.run_plain.ensures.told in
    let next = ap (λ (p : CursorAt). p.time) c.in-Step.ensures.moved in
    omega (arith, later, next, c.loop-cursor-test.true, c.time.ensures)

pub loop-cursor-preserved : goal.loop-cursor-preserved
loop-cursor-preserved c =
    let job = c.args.cursor.now.job in
    let trace = trace_of job in
    let start = c.args.cursor.now.time in
    let before = c.loop-cursor.invariant in
    let old = c.loop-cursor.cursor in
    let row = c.run_plain.new.self in
    let step = c.in-Step.step in
    let made = c.in-Step.ensures in
    let same : row.job ≡ job = c.run_plain.ensures.job ∙ before.same_job in
    let later = went_on c.run_plain.ensures.told in
    let last = c.quiet_until-until.ensures.last in
    let next = ap (λ (p : CursorAt). p.time) made.moved in
    let points = subst (λ (t : ℕ). c.quiet_until-until.result ≤ t) c.quiet_until.ensures c.quiet_until-until.ensures.points in
    let quiet = (tracks_row node_words _ old.job c.quiet_until-until.result (omega (arith, last, c.ranges.past_last.fits)) old.time c.loop-cursor.watching points row.time c.run_plain.new.follower c.run_plain.ensures.told c.run_plain.ensures.within).0 in
    let at : step_at trace step.number ≡ Some step = subst (λ (t : ℕ). step_at trace t ≡ Some step) (sym made.number) (subst (λ (j : Job). step_at (trace_of j) row.time ≡ Some step) same made.step) in
    let one_more = subst (λ (t : ℕ). Tracks node_words trace t (t + 1) c.run_plain.new.follower c.track.new.self) made.number (c.track.ensures trace at) in
    record {
      same_job = ap (λ (p : CursorAt). p.job) made.moved ∙ same;
      begun = omega (arith, later, next, before.begun);
      within = omega (arith, next, last, c.run_plain.ensures.within, c.loop-cursor-test.true, c.time.ensures);
      tracked = λ q first here.
          let stretch = subst (λ (j : Job). Tracks node_words (trace_of j) old.time row.time c.loop-cursor.watching c.run_plain.new.follower) before.same_job quiet in
          subst (λ (t : ℕ). IsOfSteps node_words q trace first t c.track.new.self) (sym next) (one_more q first (stretch q first (before.tracked q first here)));
    }
