use Rattle.std.proofs.Common.{◌++◌, List, ap, sym, ◌∙◌, subst}
use Rattle.lists.specs.Sets.{Ascends}
use Rattle.flow_model.specs.declared.SourceByte.{SourceByte}
use Rattle.flow_model.specs.Orders.{source_cmp}
use Rattle.source_runs.specs.Runs.{all_bytes}
use Rattle.answer_sets.proofs.resolving.Gathered.of_runs.Goals as goal

pub invariant_of-result : goal.invariant_of-result
invariant_of-result c =
    subst (Ascends source_cmp)
    (sym (c.in_ok-push_bytes.ensures ∙ ap (λ (bs : List SourceByte). bs ++ all_bytes c.args.runs.now) c.new-merged.ensures.items)) c.requires
