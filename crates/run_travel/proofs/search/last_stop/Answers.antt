use Rattle.std.proofs.Common.{ap, sym, ◌∙◌, arith}
use Rattle.std.specs.Prelude.{Option}
use Rattle.std.specs.Option.{option_or}
use Rattle.log_model.specs.Logs.{steps}
use Rattle.replayer.specs.Jobs.{Job}
use Rattle.replayer.specs.Positions.{CursorAt}
use Rattle.run_travel.specs.declared.search.Stop.{Stop}
use Rattle.run_travel.specs.Searches.{found_back}
use Rattle.run_travel.proofs.Stopping.{kept}
use Rattle.run_travel.proofs.Rows.{row_back_at, kept_row, place_of}
use Rattle.run_travel.proofs.search.last_stop.Goals as goal

pub stop_in_row-requires : goal.stop_in_row-requires
stop_in_row-requires c = omega (arith, c.loop-cursor-test.true, c.time.ensures)

pub stop_before_next-requires : goal.stop_before_next-requires
stop_before_next-requires c =
    let row = row_back_at c.args.cursor.now.job c.args.points.now _ c.loop-cursor.cursor c.stop_in_row.new.cursor c.stop_in_row.result c.loop-cursor.invariant.same_job c.stop_in_row.ensures in
    let most = row.within in
    let log = ap (λ (j : Job). steps j.log) row.same_job in
    omega (arith, most, log, c.loop-cursor-test.true, c.time.ensures)

pub loop-cursor-smaller : goal.loop-cursor-smaller
loop-cursor-smaller c =
    let low = c.stop_in_row.ensures.later in
    let next = ap (λ (k : CursorAt). k.time) c.stop_before_next.ensures.moved in
    omega (arith, low, next, c.loop-cursor-test.true, c.time.ensures)

pub loop-cursor-preserved : goal.loop-cursor-preserved
loop-cursor-preserved c =
    let job = c.args.cursor.now.job in
    let points = c.args.points.now in
    let old = c.loop-cursor in
    let middle = c.stop_in_row.new.cursor in
    let row = row_back_at job points _ old.cursor middle c.stop_in_row.result old.invariant.same_job c.stop_in_row.ensures in
    let first = found_back job points c.args.cursor.now.time in
    let most = row.within in
    let next = ap (λ (k : CursorAt). k.time) c.stop_before_next.ensures.moved in
    let so_far = kept_row job points _ old.cursor.time middle c.stop_in_row.result old.found first row old.invariant.last in
    record {
      same_job = ap (λ (k : CursorAt). k.job) c.stop_before_next.ensures.moved ∙ row.same_job;
      within = omega (arith, most, next, c.loop-cursor-test.true, c.time.ensures);
      last =
          ap (found_back job points) next
          ∙ kept job points middle.time middle c.stop_before_next.result (option_or c.stop_in_row.result old.found) first (place_of job middle row.same_job) c.stop_before_next.ensures.stop so_far
          ∙ ap (λ (o : Option Stop). option_or (option_or c.stop_before_next.result o) first) (sym c.or-found.ensures)
          ∙ ap (λ (o : Option Stop). option_or o first) (sym c.or-found-in-loop-cursor.ensures);
    }
