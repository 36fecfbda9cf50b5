use Rattle.std.proofs.Common.{◌≡◌, sym, ap, ◌∙◌, subst}
use Rattle.std.specs.Prelude.{IfOk}
use Rattle.stream_model.specs.Passes.{rows_or_none}
use Rattle.forward_pass.specs.Forward.{fore_of}
use Rattle.epoch_node.specs.Cores.{stage_of, core_of, whole_at}
use Rattle.epoch_node.specs.Keeping.{AtStage, MovedAt}
use Rattle.epoch_node.proofs.Acting.{has_done}
use Rattle.epoch_node.proofs.Counting.{has_counted}
use Rattle.epoch_node.proofs.node_core.Core.into_result.Goals as goal

pub returns-clause-done : goal.returns-clause-done
returns-clause-done g c = λ w k.
    let done = ap stage_of (sym c.into_inner.ensures) ∙ c.in-Some.ensures.done in
    let at = subst (λ s. AtStage (core_of c.args.self).setup s w) done k.stage in
    let rows = subst (λ r. IfOk r (λ sets. sets ≡ rows_or_none (fore_of c.in-Some.fore).rows)) c.in_ok-sets.was c.into_sets-sets.ensures.rows in
    has_done (core_of c.args.self).setup (fore_of c.in-Some.fore) w at.0 at.1 (sym c.whole-whole.ensures ∙ c.if-not-whole.false) _ _ c.into_sets-sets.ensures.asked rows

pub returns-clause-counted : goal.returns-clause-counted
returns-clause-counted g c = λ w k.
    let done = ap stage_of (sym c.into_inner.ensures) ∙ c.in-Some.ensures.done in
    let at = subst (λ s. AtStage (core_of c.args.self).setup s w) done k.stage in
    let whole = sym c.whole-whole.ensures ∙ c.if-not-whole.false in
    let counts = k.counts (ap whole_at done ∙ whole) in
    let rows = subst (λ r. IfOk r (λ sets. sets ≡ rows_or_none (fore_of c.in-Some.fore).rows)) c.in_ok-sets.was c.into_sets-sets.ensures.rows in
    has_counted (core_of c.args.self).setup (fore_of c.in-Some.fore) w at.0 at.1 whole counts.moved (subst (λ s. MovedAt (core_of c.args.self).setup s w counts.moved) done counts.at_stage)
    c.into_sets-sets.result.1 _ _ rows counts.is
