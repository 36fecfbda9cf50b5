use Rattle.std.proofs.Common.{ap, sym, ◌∙◌, subst, List}
use Rattle.std.proofs.lemmas.Result.{on_ok_weaker}
use Rattle.lists.specs.Sets.{has}
use Rattle.flow_model.specs.Orders.{source_cmp}
use Rattle.source_runs.specs.declared.runs.SourceRun.{SourceRun}
use Rattle.source_runs.specs.Runs.{all_bytes, AreRising}
use Rattle.source_runs.proofs.Joined.{sorted_rising, sorted_has}
use Rattle.source_runs.proofs.joining.normalise.Goals as goal
use Rattle.source_runs.proofs.joining.normalise.Goals.{After-join_neighbours-2}

pub returns-clause-members : goal.returns-clause-members
returns-clause-members c =
    on_ok_weaker c.join_neighbours-2.result
    (λ joined b. joined b ∙ ap (λ (rs : List SourceRun). has source_cmp b (all_bytes rs)) c.deref-2.ensures.value
    ∙ sorted_has b c.join_neighbours.new.joined.items _ c.sort_unstable.ensures.permutation
    ∙ c.in_ok-join_neighbours.ensures.members b ∙ ap (λ (rs : List SourceRun). has source_cmp b (all_bytes rs)) c.deref.ensures.value)
    c.join_neighbours-2.ensures.members

rising : (c : After-join_neighbours-2) → AreRising c.deref-2.result.now
rising c = subst AreRising (sym c.deref-2.ensures.value) (sorted_rising _ c.sort_unstable.ensures.sorted)

pub returns-clause-ascending : goal.returns-clause-ascending
returns-clause-ascending c = on_ok_weaker c.join_neighbours-2.result (λ joined. joined (rising c)) c.join_neighbours-2.ensures.ascending

pub returns-clause-longest : goal.returns-clause-longest
returns-clause-longest c = on_ok_weaker c.join_neighbours-2.result (λ joined. joined (rising c)) c.join_neighbours-2.ensures.longest
