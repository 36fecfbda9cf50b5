-- The sinks of a run that was tracked from its beginning to its end, and the run's rows.
use Rattle.std.proofs.Common.{◌≡◌, ℕ, ◌-◌, List, map, refl, ap, sym, ◌∙◌, arith}
use Rattle.std.proofs.lemmas.Simd.{map-map}
use Rattle.flow_model.specs.declared.SourceByte.{SourceByte}
use Rattle.flow_model.specs.declared.SinkPoint.{SinkPoint}
use Rattle.flow_model.specs.declared.StepSeen.{StepSeen}
use Rattle.flow_model.specs.Origins.{Policy, origins}
use Rattle.log_model.specs.Logs.{steps}
use Rattle.report_model.specs.Query.{Query, policy_of}
use Rattle.report_model.specs.Rows.{Row, row, rows_as_written}
use Rattle.replay_model.specs.Run.{start}
use Rattle.replay_model.proofs.Offsets.{length-steps_from}
use Rattle.replayer.specs.Jobs.{Job, trace_of}
use Rattle.epoch_model.specs.Stretch.{sinks_of_epoch}
use Rattle.epoch_model.proofs.Sinks.{sinks-all}
use Rattle.taint_shadow.specs.declared.labels.SinkLabel.{SinkLabel}
use Rattle.taint_tracking.specs.Courses.{IsCourse}
use Rattle.taint_tracking.specs.Sinks.{labelled, meant}
use Rattle.source_labels.specs.declared.labels.SourceLabels.{SourceLabels}
use Rattle.source_labels.specs.Words.{label_words}
use Rattle.source_labels.proofs.Origins.{origins_later}
use Rattle.labelled_sinks.specs.Rows.{row_by}

-- the origins are what labels of source bytes mean over a run
pub origins_are_course : (policy : Policy) (trace : List StepSeen) → IsCourse label_words policy trace 0 (origins policy trace)
origins_are_course policy trace = record {
  begins = λ l. refl;
  turns = λ t step from at l. sym (origins_later policy trace t step l at);
}

-- sinks of a run's first n steps that have their origins come to the rows of these steps
pub rows_of_steps : (q : Query) (trace : List StepSeen) (n : ℕ) (labels : SourceLabels) (sinks : List SinkLabel)
    → map (labelled label_words labels) sinks ≡ map (meant (origins (policy_of q) trace)) (sinks_of_epoch q trace 0 n)
    → map (row_by labels) sinks ≡ map (row q trace) (sinks_of_epoch q trace 0 n)
rows_of_steps q trace n labels sinks found =
    let as_row : SinkPoint × List SourceByte → Row = λ p. record { sink = p.0; sources = p.1 } in
    sym (map-map as_row (labelled label_words labels) sinks) ∙ ap (map as_row) found
    ∙ map-map as_row (meant (origins (policy_of q) trace)) (sinks_of_epoch q trace 0 n)

-- those of all its steps come to the rows of the run
pub rows_of_run : (q : Query) (job : Job) (labels : SourceLabels) (sinks : List SinkLabel)
    → map (labelled label_words labels) sinks ≡ map (meant (origins (policy_of q) (trace_of job))) (sinks_of_epoch q (trace_of job) 0 (steps job.log - 0))
    → map (row_by labels) sinks ≡ rows_as_written q (trace_of job)
rows_of_run q job labels sinks found =
    let trace = trace_of job in
    let all : steps job.log - 0 ≡ steps job.log = omega arith in
    rows_of_steps q trace (steps job.log - 0) labels sinks found
    ∙ ap (map (row q trace)) (ap (sinks_of_epoch q trace 0) (all ∙ sym (length-steps_from (steps job.log) (start job.start job.log))) ∙ sym (sinks-all q trace))
