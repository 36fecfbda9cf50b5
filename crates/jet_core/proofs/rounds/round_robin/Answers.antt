use Rattle.std.proofs.Common.{refl}
use Rattle.jet_core.proofs.Beginning.{laid_out_stands}
use Rattle.jet_core.proofs.rounds.round_robin.Goals as goal

pub round-requires-after_bounds : goal.round-requires-after_bounds
round-requires-after_bounds g c κs within = (_, laid_out_stands _ _ _ c.in_ok-new.ensures)

pub loop-line-init : goal.loop-line-init
loop-line-init g c = record {
  line = c.in_ok-line.ensures.line _ (laid_out_stands _ _ _ c.in_ok-new.ensures);
  parts = c.in_ok-line.ensures.begun _ c.in_ok-new.ensures;
}

pub loop-line-smaller : goal.loop-line-smaller
loop-line-smaller g c = c.in_ok-line-2.ensures.less _ c.loop-line.invariant.line c.loop-line.invariant.parts (c.loop-line-test.ensures.no refl)

pub loop-line-preserved : goal.loop-line-preserved
loop-line-preserved g c = record {
  line = c.in_ok-line-2.ensures.line _ c.loop-line.invariant.line;
  parts = c.in_ok-line-2.ensures.parts _ c.loop-line.invariant.line c.loop-line.invariant.parts;
}

pub returns : goal.returns
returns g c = c.collect.ensures _ c.loop-line.invariant.line
