-- What was collected of a run from its checkpoints, said of the run's job, and the answer that is made of it.
use Rattle.std.proofs.Common.{◌≡◌, ◌∙◌, ap, refl, sym, subst, arith, ℕ, ◌+◌, ◌<◌, ◌≤◌, ◌^◌, List, [], ◌∷◌, length}
use Rattle.std.specs.Prelude.{Result, Ok, Err, IfOk}
use Rattle.flow_model.specs.declared.StepSeen.{StepSeen}
use Rattle.log_model.specs.Logs.{steps}
use Rattle.report_model.specs.Query.{Query}
use Rattle.report_model.specs.Rows.{rows, rows_as_written}
use Rattle.epoch_model.specs.Cutting.{IsCutting}
use Rattle.stream_model.specs.Work.{asked_at, run_work}
use Rattle.replayer.specs.Jobs.{Job, trace_of}
use Rattle.checkpoints.specs.Points.{CheckpointsAt, beginnings}
use Rattle.run_query.specs.Crossings.{numbered}
use Rattle.epoch_engine.specs.declared.collected.Collected.{Collected}
use Rattle.epoch_engine.specs.Collecting.{AreAtBeginnings, IsCollectedOf}
use Rattle.run_query.specs.declared.answer.QueryAnswer.{QueryAnswer}
use Rattle.run_query.specs.Answers.{IsAnswerTo}

-- there are fewer inner cuts than cuts
few_crossings : (q : Query) (trace : List StepSeen) (cuts : List ℕ) → length (asked_at q trace cuts) ≤ length cuts
few_crossings q trace [] = omega arith
few_crossings q trace (c ∷ []) = omega arith
few_crossings q trace (c ∷ d ∷ cuts) = let rest = few_crossings q trace (d ∷ cuts) in omega (arith, rest)

module _ (job : Job) (q : Query) (cuts : List ℕ) where
  module _ (points : CheckpointsAt) (taken : points ≡ record { job = job; times = beginnings cuts }) where
    pub at_beginnings : IsCutting (steps job.log) cuts → AreAtBeginnings cuts points
    at_beginnings cutting = record {
      times = ap (λ p. p.times) taken;
      cutting = subst (λ (j : Job). IsCutting (steps j.log) cuts) (sym (ap (λ p. p.job) taken)) cutting;
    }

    pub collected_of_job : (collected : Collected) → IsCollectedOf q points.job cuts collected → IsCollectedOf q job cuts collected
    collected_of_job collected is = subst (λ (j : Job). IsCollectedOf q j cuts collected) (ap (λ p. p.job) taken) is

  module _ (collected : Collected) (is : IsCollectedOf q job cuts collected) where
    pub few_asked : length cuts ≤ 4096 → length collected.crossed.items < 2 ^ 32
    few_asked few = let same = ap length is.crossed in omega (arith, same, few_crossings q (trace_of job) cuts, few)

    pub answered : {E : Type 0} (r : Result QueryAnswer E)
        → IfOk r (λ answer. answer.report ≡ rows q (trace_of job))
        → IfOk r (λ answer. answer.crossed.items ≡ numbered 1 collected.crossed.items)
        → IfOk r (λ answer. answer.events ≡ collected.events)
        → IfOk r (IsAnswerTo q job cuts)
    answered (Ok answer) report crossed events = record { report = report; crossings = crossed ∙ ap (numbered 1) is.crossed; events = events ∙ is.events }
    answered (Err e) report crossed events = tt

-- ---- a run of one epoch

-- it has no inner cut
pub nothing_asked : (q : Query) (trace : List StepSeen) (cuts : List ℕ) → length cuts ≡ 1 → asked_at q trace cuts ≡ []
nothing_asked q trace [] one = refl
nothing_asked q trace (c ∷ []) one = refl
nothing_asked q trace (c ∷ d ∷ cuts) one = absurd (omega (arith, one))

-- and so many events
pub work_of_one : (q : Query) (trace : List StepSeen) (cuts : List ℕ) → length cuts ≡ 1 → length (rows_as_written q trace) + 4 ≡ run_work q trace cuts
work_of_one q trace [] one = absurd (omega (arith, one))
work_of_one q trace (c ∷ []) one = omega arith
work_of_one q trace (c ∷ d ∷ cuts) one = absurd (omega (arith, one))
