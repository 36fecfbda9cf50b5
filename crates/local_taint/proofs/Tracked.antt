-- An epoch that was tracked while it was checked.
use Rattle.std.proofs.Common.{◌≡◌, ℕ, ◌+◌, ◌-◌, ◌≤◌, refl, arith, ap, sym, ◌∙◌, subst, List}
use Rattle.log_model.specs.Logs.{steps}
use Rattle.flow_model.specs.declared.StepSeen.{StepSeen}
use Rattle.report_model.specs.Query.{Query, policy_of}
use Rattle.epoch_cut.specs.Numbered.{NumberedEpoch}
use Rattle.epoch_model.specs.Summary.{IsSummary}
use Rattle.replay_run.specs.Runs.{RunAt}
use Rattle.replayer.specs.Cursors.{Stands}
use Rattle.replayer.specs.Jobs.{Job, trace_of}
use Rattle.replayer.specs.Watching.{IsTold}
use Rattle.taint_tracking.specs.declared.tracking.Tracked.{Tracked}
use Rattle.taint_tracking.specs.Following.{IsOfEpoch}
use Rattle.taint_tracking.specs.Watched.{IsOfSteps, Finds}
use Rattle.source_labels.specs.declared.nodes.Nodes.{Nodes}
use Rattle.source_labels.specs.Words.{node_words}
use Rattle.epoch_summary.specs.declared.summary.Summary.{Summary}
use Rattle.epoch_summary.specs.Summaries.{number_of, summary_of}
use Rattle.local_taint.specs.Ahead.{EpochTracking, IsFoundAhead, IsSummaryOfTracked, tracks}
use Rattle.local_taint.specs.Following.{AreInRange, IsSummaryOf, terms_from}
use Rattle.local_taint.proofs.Terms.{terms_course}

module _ (q : Query) (run : RunAt) (epoch : NumberedEpoch) (old new : EpochTracking) (at : old.first ≡ epoch.first) (begins : run.moment.time ≡ epoch.first)
    (later : epoch.first ≤ epoch.past_last) (within : epoch.past_last ≤ steps run.log)
    (begun : (trace : List StepSeen) → IsOfSteps node_words q trace epoch.first epoch.first old.tracking)
    (told : IsTold tracks run (epoch.past_last - run.moment.time) old new) where
  told_of : (job : Job) → Stands job run → tracks old new job epoch.past_last
  told_of job stands =
      let log : steps job.log ≡ steps run.log = ap steps (sym stands.same_log) in
      let until : run.moment.time + (epoch.past_last - run.moment.time) ≡ epoch.past_last = omega arith in
      let now : old.first ≡ run.moment.time = at ∙ sym begins in
      let none : tracks old old job old.first = ((λ q first here. here), refl) in
      subst (tracks old new job) until (told old job stands (omega arith) (subst (tracks old old job) now none))

  same_first : (job : Job) → Stands job run → new.first ≡ epoch.first
  same_first job stands = (told_of job stands).1 ∙ at

  of_steps : (job : Job) → Stands job run → IsOfSteps node_words q (trace_of job) new.first epoch.past_last new.tracking
  of_steps job stands =
      let all = told_of job stands in
      let trace = trace_of job in
      let from_old = subst (λ (t : ℕ). IsOfSteps node_words q trace t t old.tracking) (sym at) (begun trace) in
      subst (λ (t : ℕ). IsOfSteps node_words q trace t epoch.past_last new.tracking) (sym all.1) (all.0 q old.first from_old)

  pub found_ahead : (number : ℕ) (e : Summary) → number ≡ epoch.number → IsSummaryOfTracked new number e → IsFoundAhead q run epoch e
  found_ahead number e is s = record {
    number = s.number_is ∙ is;
    summary = λ job stands.
        subst (λ (t : ℕ). IsSummary q (trace_of job) t (epoch.past_last - t) (summary_of e)) (same_first job stands) (s.summary q (trace_of job) epoch.past_last (of_steps job stands));
    in_range = λ job stands.
        subst (λ (t : ℕ). AreInRange (trace_of job) t (epoch.past_last - t)) (same_first job stands) (s.in_range q (trace_of job) epoch.past_last (of_steps job stands));
  }

-- the summary of what was tracked is one of each trace of which the steps were tracked
pub summarized_of : (w : EpochTracking) (t : Tracked Nodes) (number : ℕ) (e : Summary) → number_of e ≡ number → Finds node_words w.tracking t → IsSummaryOf t e → IsSummaryOfTracked w number e
summarized_of w t number e is finds sums = record {
  number_is = is;
  summary = λ q trace time here. sums q trace w.first time (found q trace time here);
  in_range = λ q trace time here. (found q trace time here).in_range;
}
  where
    found : (q : Query) (trace : List StepSeen) (time : ℕ) → IsOfSteps node_words q trace w.first time w.tracking → IsOfEpoch node_words q trace w.first time (terms_from (policy_of q) trace w.first) t
    found q trace time here = finds q trace w.first time here _ (terms_course (policy_of q) trace w.first)
