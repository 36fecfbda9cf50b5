use Rattle.std.proofs.Common.{arith}
use Rattle.sink_collect.proofs.Reaching.{raised_is}
use Rattle.sink_collect.proofs.influence.add_range.Goals as goal

pub returns : goal.returns
returns c =
    raised_is c.args.sink c.args.reaches.now c.loop-place.reaches c.args.starts.now c.args.range c.count_before-first.result c.count_before-past.result c.loop-place.place
    c.requires.starts c.requires.fits c.requires.range c.count_before-first.ensures.bound
    (λ k h. omega (arith, c.count_before-first.ensures.before k h, c.place_of.ensures))
    (λ k low high. omega (arith, c.count_before-first.ensures.after k low high, c.place_of.ensures))
    (λ k h. omega (arith, c.count_before-past.ensures.before k h, c.place_of-2.ensures))
    (λ k low high. omega (arith, c.count_before-past.ensures.after k low high, c.place_of-2.ensures))
    c.loop-place-test.false c.loop-place.auto.place-end c.loop-place.invariant
