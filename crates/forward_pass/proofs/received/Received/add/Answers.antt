use Rattle.std.proofs.Common.{subst, sym}
use Rattle.std.specs.declared.cmp.Ordering.{Ordering}
use Rattle.lists.specs.Sets.{Ascends}
use Rattle.flow_model.specs.declared.SourceByte.{SourceByte}
use Rattle.answer_sets.proofs.Members.{order_is}
use Rattle.forward_pass.proofs.OneMore.{ascends_after}
use Rattle.forward_pass.proofs.received.Received.add.Goals as goal

pub insert-requires : goal.insert-requires
insert-requires c = subst (λ (R : SourceByte → SourceByte → Ordering). Ascends R c.self.inside.so_far.items) (sym order_is) c.self.invariant

pub invariant_of-self : goal.invariant_of-self
invariant_of-self c = ascends_after c.args.byte c.insert.result c.self.inside.so_far.items c.insert.new.set.items c.self.invariant c.insert.ensures.added c.insert.ensures.err
