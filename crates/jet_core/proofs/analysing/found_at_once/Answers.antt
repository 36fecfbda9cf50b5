use Rattle.std.proofs.Common.{ap, subst, ◌∙◌, List}
use Rattle.std.specs.Prelude.{IfOk}
use Rattle.std.specs.List.{AllZip}
use Rattle.rayon.specs.Lists.{vec_items}
use Rattle.report_model.specs.Query.{Query}
use Rattle.replayer.specs.Jobs.{trace_of}
use Rattle.checkpoints.specs.Points.{CheckpointsAt}
use Rattle.epoch_cut.specs.Numbered.{NumberedEpoch}
use Rattle.epoch_analysis.specs.Epochs.{IsFound}
use Rattle.jet_core.proofs.Analyses.{all_collected}
use Rattle.jet_core.proofs.analysing.found_at_once.Goals as goal

pub returns : goal.returns
returns g c =
    let h = c.in_ok-all.ensures in
    let chain = h.1 in
    let tickets = chain.1 ∙ ap (λ it. vec_items it.base) c.map.ensures.base ∙ ap vec_items c.with_min_len.ensures.base ∙ c.into_par_iter.ensures in
    let by_those = subst (λ (q : Query). AllZip (λ x u. IfOk u (IsFound q (trace_of c.map.result.f.1.now.job) x)) chain.0 h.0) (ap (λ f. f.2.now) c.map.ensures.f) chain.2 in
    let by_these = subst (λ (points : CheckpointsAt). AllZip (λ x u. IfOk u (IsFound c.args.query.now (trace_of points.job) x)) chain.0 h.0) (ap (λ f. f.1.now) c.map.ensures.f) by_those in
    let found = IsFound c.args.query.now (trace_of c.args.checkpoints.now.job) in
    all_collected found (λ v. v.items) c.args.tickets.items h.0 c.in_ok-all.all
    (subst (λ (xs : List NumberedEpoch). AllZip (λ x u. IfOk u (found x)) xs h.0) tickets by_these)
    h.2
