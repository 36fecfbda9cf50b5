use Rattle.std.proofs.Common.{◌∙◌, ap, sym, List, length}
use Rattle.sha2.specs.Sha256.{sha256}
use Rattle.report_model.specs.Rows.{Row}
use Rattle.report_model.specs.Text.{report_text}
use Rattle.record_model.specs.Counts.{capped}
use Rattle.sink_collect.specs.Pairs.{pairs}
use Rattle.replayer.specs.Jobs.{trace_of}
use Rattle.replay_model.proofs.Offsets.{length-steps_from}
use Rattle.replay_model.specs.Run.{start}
use Rattle.log_model.specs.Logs.{steps}
use Rattle.jet_commands.specs.Bench.{asked_in_all}
use Rattle.jet_commands.proofs.Benching.{asked-in_all, numbers-are}
use Rattle.jet_commands.proofs.bench.numbers.Goals as goal

pub returns : goal.returns
returns g c =
    let job = c.args.job.now in
    let found = c.in_ok-found.ensures.report in
    numbers-are c.args.query.now c.args.cuts (trace_of job) _
    (c.steps.ensures ∙ sym (length-steps_from (steps job.log) (start job.start job.log)))
    (c.from-epochs.ensures ∙ c.count.ensures.is)
    (c.lines.ensures ∙ ap (λ (rs : List Row). length rs) found)
    (c.pairs.ensures ∙ ap (λ (rs : List Row). capped (pairs rs)) found)
    (c.count_asked.ensures ∙ ap asked_in_all (c.deref.ensures.value ∙ c.in_ok-found.ensures.crossings) ∙ asked-in_all c.args.query.now (trace_of job) c.args.cuts)
    (c.digest.ensures ∙ ap sha256 (c.in_ok-text.ensures ∙ ap report_text found))
    c.in_ok-found.ensures.events
