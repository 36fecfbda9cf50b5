use Rattle.std.proofs.Common.{sym, subst₂, arith}
use Rattle.epoch_node.specs.Cores.{core_of}
use Rattle.epoch_node.specs.Keeping.{KeepsCore}
use Rattle.jet_core.specs.declared.joints.Joint.{Joint}
use Rattle.jet_core.specs.Joints.{no_joint, traffic_between}
use Rattle.jet_core.specs.Turns.{TurnsBetween}
use Rattle.jet_core.proofs.Placing.{put_back_at, looked_up, looked_next}
use Rattle.jet_core.proofs.turning.turn_at.Goals as goal

pub turn_between-requires-after_bounds : goal.turn_between-requires-after_bounds
turn_between-requires-after_bounds g c κs within =
    let joints = c.args.joints.now.items in
    let p = c.args.place in
    subst₂ (λ (j i : Joint). KeepsCore (core_of {G = g.row.G.Denot} c.args.core.now) (traffic_between j i))
    (sym (looked_up joints p c.replace-previous.result c.index_mut.result.now no_joint c.replace-previous.ensures.value c.index_mut.ensures.value (omega (arith, c.requires.inside))))
    (sym (looked_next joints p c.replace-previous.new.dest c.replace-next.result c.index_mut-2.result.now no_joint c.replace-next.ensures.value c.index_mut-2.ensures.value c.requires.inside))
    c.requires.keeps

pub returns : goal.returns
returns g c =
    let joints = c.args.joints.now.items in
    let p = c.args.place in
    record {
      previous = c.turn_between.new.previous;
      next = c.turn_between.new.next;
      answer = c.turn_between.result;
      joints_are = put_back_at joints p c.replace-previous.new.dest c.replace-next.new.dest c.turn_between.new.previous c.turn_between.new.next;
      turns = subst₂ (λ (j i : Joint). TurnsBetween (core_of {G = g.row.G.Denot} c.args.core.now) j i (core_of {G = g.row.G.Denot} c.turn_between.new.core) c.turn_between.new.previous c.turn_between.new.next c.turn_between.result)
          (looked_up joints p c.replace-previous.result c.index_mut.result.now no_joint c.replace-previous.ensures.value c.index_mut.ensures.value (omega (arith, c.requires.inside)))
          (looked_next joints p c.replace-previous.new.dest c.replace-next.result c.index_mut-2.result.now no_joint c.replace-next.ensures.value c.index_mut-2.ensures.value c.requires.inside)
          c.turn_between.ensures;
    }
