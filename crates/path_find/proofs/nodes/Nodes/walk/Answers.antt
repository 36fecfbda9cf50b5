use Rattle.std.proofs.Common.{arith, ap}
use Rattle.path_find.proofs.Paths.{one_walked, count_left, left_falls}
use Rattle.path_find.proofs.nodes.Nodes.walk.Goals as goal

pub loop-next-smaller : goal.loop-next-smaller
loop-next-smaller c =
    let one = one_walked c.self.inside.nodes.items c.args.self.now c.in-Some.index c.loop-next.next c.index-node.result.now c.loop-next.arrivals.items c.push.new.self.items _
    c.self.view_is c.self.invariant c.in-Some.is c.loop-next.invariant.inside c.index-node.ensures c.in_ok-push.ensures.items c.loop-next.invariant.so_far in
    omega (arith, left_falls c.in-Some.index c.index-node.result.now.previous one.2, ap count_left c.in-Some.is)

pub loop-next-preserved : goal.loop-next-preserved
loop-next-preserved c =
    let one = one_walked c.self.inside.nodes.items c.args.self.now c.in-Some.index c.loop-next.next c.index-node.result.now c.loop-next.arrivals.items c.push.new.self.items _
    c.self.view_is c.self.invariant c.in-Some.is c.loop-next.invariant.inside c.index-node.ensures c.in_ok-push.ensures.items c.loop-next.invariant.so_far in
    record { so_far = one.0; inside = one.1 }
