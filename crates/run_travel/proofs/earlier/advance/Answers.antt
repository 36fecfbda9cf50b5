use Rattle.std.proofs.Common.{ap, ◌∙◌, arith}
use Rattle.replayer.specs.Positions.{CursorAt}
use Rattle.replayer.proofs.Told.{went_on}
use Rattle.run_travel.proofs.earlier.advance.Goals as goal

pub loop-cursor-smaller : goal.loop-cursor-smaller
loop-cursor-smaller c =
    let later = went_on c.run_plain.ensures.told in
    let next = ap (λ (p : CursorAt). p.time) c.in-Step.ensures.moved in
    omega (arith, later, next, c.loop-cursor-test.true, c.time.ensures, c.min-until.ensures)

pub loop-cursor-preserved : goal.loop-cursor-preserved
loop-cursor-preserved c =
    let next = ap (λ (p : CursorAt). p.time) c.in-Step.ensures.moved in
    record {
      same_job = ap (λ (p : CursorAt). p.job) c.in-Step.ensures.moved ∙ c.run_plain.ensures.job ∙ c.loop-cursor.invariant.same_job;
      within = omega (arith, next, c.run_plain.ensures.within, c.loop-cursor-test.true, c.time.ensures, c.min-until.ensures);
    }

pub run_plain-requires : goal.run_plain-requires
run_plain-requires c = λ k late early. let least = c.min-until.ensures in c.plain_until-plain.ensures.plain k late (omega (arith, early, least))
