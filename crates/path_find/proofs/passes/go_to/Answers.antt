use Rattle.std.proofs.Common.{◌<◌, ap, ◌∙◌, arith}
use Rattle.log_model.specs.Logs.{steps}
use Rattle.replayer.specs.Jobs.{Job}
use Rattle.replayer.specs.Positions.{CursorAt}
use Rattle.replayer.proofs.Told.{went_on}
use Rattle.path_find.proofs.Passing.{moved_on}
use Rattle.path_find.proofs.passes.go_to.Goals as goal

pub run_plain-requires : goal.run_plain-requires
run_plain-requires c = λ k late early. c.plain_until.ensures.plain k late (omega (arith, early, c.min-until.ensures))

pub loop-cursor-smaller : goal.loop-cursor-smaller
loop-cursor-smaller c =
    let row = c.run_plain.new.self in
    let log = ap (λ (j : Job). steps j.log) (c.run_plain.ensures.job ∙ c.loop-cursor.invariant.same_job) in
    let inside : row.time < steps row.job.log = omega (arith, log, c.requires.inside, c.run_plain.ensures.within, c.min-until.ensures, c.loop-cursor-test.true, c.time.ensures) in
    let next = ap (λ (k : CursorAt). k.time) (moved_on row c.next.new.self c.next.result inside c.next.ensures) in
    omega (arith, next, went_on c.run_plain.ensures.told, c.loop-cursor-test.true, c.time.ensures)

pub loop-cursor-preserved : goal.loop-cursor-preserved
loop-cursor-preserved c =
    let row = c.run_plain.new.self in
    let same = c.run_plain.ensures.job ∙ c.loop-cursor.invariant.same_job in
    let log = ap (λ (j : Job). steps j.log) same in
    let inside : row.time < steps row.job.log = omega (arith, log, c.requires.inside, c.run_plain.ensures.within, c.min-until.ensures, c.loop-cursor-test.true, c.time.ensures) in
    let moved = moved_on row c.next.new.self c.next.result inside c.next.ensures in
    record {
      same_job = ap (λ (k : CursorAt). k.job) moved ∙ same;
      within = omega (arith, ap (λ (k : CursorAt). k.time) moved, c.run_plain.ensures.within, c.min-until.ensures, c.loop-cursor-test.true, c.time.ensures);
    }
