use Rattle.std.proofs.Common.{◌∙◌, slice_index}
use Rattle.merge_log.specs.Log.{terms}
use Rattle.merge_log.proofs.Terms.{ascend-terms}
use Rattle.merge_log.proofs.Sorting.{same_terms}
use Rattle.merge_log.proofs.Roots.{map_found}
use Rattle.merge_log.proofs.many.find_all.Goals as goal

pub returns-clause-found : goal.returns-clause-found
returns-clause-found c =
    let log = c.args.log.now in
    let roots = c.args.roots.now in
    map_found c.normalise_all.new.found.items roots (terms log) (c.in_ok-normalise_all.ensures.sets ∙ c.in_ok-walk_many.ensures.sets)
    (λ r h. same_terms _ _ (c.in_ok-normalise_all.ensures.ascending r) (ascend-terms log (slice_index roots r)) (λ q. c.in_ok-normalise_all.ensures.members r q ∙ c.in_ok-walk_many.ensures.found r q h))
