use Rattle.std.proofs.Common.{arith, ◌≡◌, ◌+◌, refl}
use Rattle.query_lang.proofs.PointLemmas.{one_more_byte}
use Rattle.query_lang.proofs.points.add_memory.Goals as goal

pub loop-place-preserved : goal.loop-place-preserved
loop-place-preserved c =
    let before = c.loop-place in
    record {
      added = one_more_byte c.args.points.now.items before.points.items c.push.new.self.items c.args.first before.place (before.place + 1) c.args.time before.invariant.from refl before.invariant.added c.in_ok-push.ensures.items;
      from = omega arith;
      up_to = omega arith;
    }

pub returns-in_ok-push : goal.returns-in_ok-push
returns-in_ok-push c =
    let before = c.loop-place in
    let end : c.args.last + 1 ≡ before.place + 1 = omega arith in
    one_more_byte c.args.points.now.items before.points.items c.push.new.self.items c.args.first before.place (c.args.last + 1) c.args.time before.invariant.from end before.invariant.added c.in_ok-push.ensures.items
