use Rattle.std.proofs.Common.{List, sym, ◌∙◌, subst}
use Rattle.std.specs.Prelude.{All}
use Rattle.replayer.specs.Jobs.{trace_of}
use Rattle.epoch_cut.specs.Numbered.{NumberedEpoch}
use Rattle.epoch_analysis.specs.Epochs.{AreFound, BeginsAt}
use Rattle.epoch_analysis.proofs.Epochs.{all_begin}
use Rattle.epoch_analysis.proofs.Runs.{of_run}
use Rattle.jet_core.proofs.analysing.rows_at_once.Goals as goal

pub found_at_once-requires-after_bounds : goal.found_at_once-requires-after_bounds
found_at_once-requires-after_bounds g c κs within =
    subst (All (BeginsAt c.args.checkpoints.now)) (sym c.in_ok-tickets.ensures) (all_begin c.args.query.now c.args.checkpoints.now c.args.cuts c.requires)

pub join-requires : goal.join-requires
join-requires g c =
    let job = c.args.checkpoints.now.job in
    let q = c.args.query.now in
    let es = c.in_ok-summaries.summaries.items in
    let found = subst (λ (ts : List NumberedEpoch). AreFound q (trace_of job) ts es) c.in_ok-tickets.ensures c.in_ok-summaries.ensures in
    (record { query = q; trace = trace_of job; cuts = c.args.cuts }, of_run job q c.args.cuts es c.points-points.ensures.located c.requires.cutting found)

pub returns : goal.returns
returns g c =
    let job = c.args.checkpoints.now.job in
    let q = c.args.query.now in
    let es = c.in_ok-summaries.summaries.items in
    let found = subst (λ (ts : List NumberedEpoch). AreFound q (trace_of job) ts es) c.in_ok-tickets.ensures c.in_ok-summaries.ensures in
    c.from_vec.ensures ∙ c.in_ok-rows.ensures ∙ c.in_ok-sinks.ensures (record { query = q; trace = trace_of job; cuts = c.args.cuts }) (of_run job q c.args.cuts es c.points-points.ensures.located c.requires.cutting found)
