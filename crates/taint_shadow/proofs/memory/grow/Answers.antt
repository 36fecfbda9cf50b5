use Rattle.std.proofs.Common.{arith, ap, ◌∙◌, List}
use Rattle.std.specs.Global.{Vec}
use Rattle.taint_shadow.specs.Memory.{items_at}
use Rattle.taint_shadow.proofs.Grown.{items_more}
use Rattle.taint_shadow.proofs.memory.grow.Goals as goal

pub loop-preserved : goal.loop-preserved
loop-preserved g c = record {
  size = omega (arith, c.in_ok-push.ensures.len, c.loop.invariant.size);
  same = λ i. ap (λ (vs : List (Vec g.row.T.Denot)). items_at vs i) c.in_ok-push.ensures.items ∙ items_more c.loop.tables.items _ i c.new.ensures.items ∙ c.loop.invariant.same i;
}
