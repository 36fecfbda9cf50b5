use Rattle.std.proofs.Common.{◌≡◌, take}
use Rattle.lists.specs.Sets.{has}
use Rattle.flow_model.specs.Orders.{source_cmp}
use Rattle.flow_model.specs.declared.SourceByte.{SourceByte}
use Rattle.epoch_model.specs.Join.{answer_to}
use Rattle.answer_sets.specs.Gathered.{AreGathered}
use Rattle.answer_sets.proofs.Members.{among}
use Rattle.answer_sets.proofs.resolving.resolved.Given as goal

abbrev pub invariant-loop-loc : goal.invariant-loop-loc
invariant-loop-loc l = record {
  members : (b : SourceByte) → has source_cmp b l.gathered ≡ among (answer_to l.asked l.answers) l.terms.sources (take l.loc-index l.loc-items) b;
  large : AreGathered l.answers l.large.items l.gathered;
}
