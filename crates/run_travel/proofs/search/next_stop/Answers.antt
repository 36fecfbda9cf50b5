use Rattle.std.proofs.Common.{ℕ, ap, sym, ◌∙◌, arith}
use Rattle.std.specs.Prelude.{Option}
use Rattle.std.specs.Option.{option_map}
use Rattle.log_model.specs.Logs.{steps}
use Rattle.replayer.specs.Jobs.{Job}
use Rattle.run_travel.specs.Moves.{time_after}
use Rattle.run_travel.specs.Searches.{stop_at}
use Rattle.run_travel.proofs.Rows.{row_stopped, row_goes_on, row_at, after_last}
use Rattle.run_travel.proofs.search.next_stop.Goals as goal

pub returns-then-is_some-clause-stop : goal.returns-then-is_some-clause-stop
returns-then-is_some-clause-stop c =
    let job = c.args.cursor.now.job in
    let points = c.args.points.now in
    let old = c.loop-aim.cursor in
    let new = c.stop_after_row-stop.new.cursor in
    let row = row_at job points c.args.aim old new c.stop_after_row-stop.result c.loop-aim.invariant.same_job c.stop_after_row-stop.ensures in
    let stopped = row_stopped job points c.args.aim old.time new c.stop_after_row-stop.result row (sym c.is_some.ensures ∙ c.if-is_some.true) in
    stopped.1 ∙ ap (option_map (stop_at job points)) (sym (c.loop-aim.invariant.ahead ∙ stopped.0))

pub returns-then-is_some-clause-moved : goal.returns-then-is_some-clause-moved
returns-then-is_some-clause-moved c =
    let job = c.args.cursor.now.job in
    let points = c.args.points.now in
    let old = c.loop-aim.cursor in
    let new = c.stop_after_row-stop.new.cursor in
    let row = row_at job points c.args.aim old new c.stop_after_row-stop.result c.loop-aim.invariant.same_job c.stop_after_row-stop.ensures in
    let stopped = row_stopped job points c.args.aim old.time new c.stop_after_row-stop.result row (sym c.is_some.ensures ∙ c.if-is_some.true) in
    after_last job old.time new row.same_job row.later
    ∙ ap (λ (o : Option ℕ). record { job = job; time = time_after job o }) (sym (c.loop-aim.invariant.ahead ∙ stopped.0))

pub returns-then-is_some-clause-within : goal.returns-then-is_some-clause-within
returns-then-is_some-clause-within c =
    let high = c.stop_after_row-stop.ensures.within in
    let log = ap (λ (j : Job). steps j.log) c.loop-aim.invariant.same_job in
    omega (arith, high, log)

pub loop-aim-smaller : goal.loop-aim-smaller
loop-aim-smaller c = let low = c.stop_after_row-stop.ensures.later in omega (arith, low, c.loop-aim-test.true, c.time.ensures)

pub loop-aim-preserved : goal.loop-aim-preserved
loop-aim-preserved c =
    let job = c.args.cursor.now.job in
    let points = c.args.points.now in
    let old = c.loop-aim.cursor in
    let new = c.stop_after_row-stop.new.cursor in
    let row = row_at job points c.args.aim old new c.stop_after_row-stop.result c.loop-aim.invariant.same_job c.stop_after_row-stop.ensures in
    let high = row.within in
    record {
      same_job = row.same_job;
      within = omega (arith, high);
      ahead = c.loop-aim.invariant.ahead ∙ row_goes_on job points c.args.aim old.time new c.stop_after_row-stop.result row (sym c.is_some.ensures ∙ c.if-is_some.false);
    }
