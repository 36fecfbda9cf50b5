-- How a request ends, step after step.
use Rattle.std.proofs.Common.{◌≡◌, ◌∙◌, ap, sym, subst, List, [], ◌∷◌, true, false, Some, inl, inr, Result, Ok, Err}
use Rattle.std.proofs.Math.Seq.{take-length}
use Rattle.outer_io.specs.Faults.{Rose}
use Rattle.outer_io.specs.Shown.{StoreShown}
use Rattle.outer_io.specs.Tells.{Tells, IsPrefix}
use Rattle.outer_io.specs.Reads.{Reads}
use Rattle.outer_io.proofs.TellsLemmas.{tells-map}
use Rattle.outer_wire.specs.Wires.{Passed, went}
use Rattle.outer_wire.specs.Talks.{Answers, Gained, IsTalk, IsTalkInPart, IsWholeTalk, Talks}
use Rattle.outer_wire.specs.declared.broken.Broken.TheVariants.{Receiving, Sending}
use Rattle.no_memory.specs.declared.Fault.TheVariants.{At, NoMemory}
use Rattle.no_memory.specs.declared.NoMemory.{NoMemory as OutOfMemory}
use Rattle.log_model.specs.Logs.{Log}
use Rattle.isa.specs.Machine.{State}
use Rattle.replayer.specs.Jobs.{Job}
use Rattle.replayer.specs.Checks.{IsChecked}
use Rattle.jet_refusal.specs.declared.refusal.Refusal.{Refusal}
use Rattle.jet_refusal.specs.declared.refusal.Refusal.TheVariants as refusal
use Rattle.jet_refusal.proofs.Causes.{IsOwedTo-map}
use Rattle.jet_model.specs.Outcomes.{and_then}
use Rattle.jet_model.specs.Contents.{Run, run_at}
use Rattle.jet_model.specs.Answer.{fitting_start}
use Rattle.jet_model.proofs.AndThen.{and_then-ok}
use Rattle.gdb_words.specs.Requests.{RequestOf}
use Rattle.command_parts.specs.Outcome.{HeldBefore, IsOutcomeOf, IsWork, by_reading}
use Rattle.command_parts.proofs.Composing.{outcome_of-stops, outcome_of-work, work-stops}
use Rattle.command_parts.proofs.Fitting.{fitting_start-ok}
use Rattle.debug_talk.specs.Debugging.{answers_of}
use Rattle.gdb_server.specs.Serving.{Change, job_at, TalksOf, TalksOfRun, IsTalked, causes_of, Serves}

-- ---- what the files come to

abbrev job_of : Log → State → Result Job Refusal
job_of log start = Ok (record { start = start; log = log })

abbrev job_in : Run → Result Job Refusal
job_in run = and_then (fitting_start run.program run.log) (job_of run.log)

-- a file is none
pub no_run : (request : RequestOf) (f h : StoreShown) (r : Refusal) → IsOutcomeOf (λ file. run_at file request.program request.log) f h (Err r) → IsOutcomeOf (job_at request) f h (Err r)
no_run request f h r = outcome_of-stops (λ file. run_at file request.program request.log) (λ run file. job_in run) f h r

-- the log doesn't fit
pub no_job : (request : RequestOf) (run : Run) (f h : StoreShown) (r : Refusal) → IsOutcomeOf (λ file. run_at file request.program request.log) f h (Ok run)
    → IsWork (fitting_start run.program run.log) (Err r) → IsOutcomeOf (job_at request) f h (Err r)
no_job request run f h r first work =
    outcome_of-work (λ file. run_at file request.program request.log) job_in run f h first (Err r)
    (work-stops (fitting_start run.program run.log) (job_of run.log) r work)

-- it does
pub a_job : (request : RequestOf) (run : Run) (job : Job) (f h : StoreShown) → IsOutcomeOf (λ file. run_at file request.program request.log) f h (Ok run)
    → IsChecked run.program.bytes run.program.image run.log job → IsOutcomeOf (job_at request) f h (Ok job)
a_job request run job f h first checked =
    outcome_of-work (λ file. run_at file request.program request.log) job_in run f h first (Ok job)
    (and_then-ok (fitting_start run.program run.log) (job_of run.log) job.start
    (fitting_start-ok run.program run.log job.start checked.digest checked.start checked.agrees)
    ∙ ap (λ (log : Log). Ok (record { start = job.start; log = log })) (sym checked.same_log))

-- ---- before a talk

module _ (request : RequestOf) (change : Change) (is_silent : Type 0) (silent : is_silent) where
  pub refused : (r : Refusal) → IsOutcomeOf (job_at request) change.store change.store_after (Err r) → Reads (request.program ∷ request.log ∷ []) false change.store change.store_after
      → Serves request change is_silent (Err r)
  refused r outcome reads = record {
    ends = IsOwedTo-map
        (by_reading (Tells change.store.files change.store_after.files (HeldBefore (λ file. job_at request file ≡ Err r))) (Rose change.store.faults change.store_after.faults))
        (causes_of (Some request) change is_silent r)
        (λ p. absurd p) (λ found. (found, silent)) (λ rose. inl (rose, silent)) (λ p. absurd p) r outcome;
    so_far = inl silent;
    reads = reads;
  }

  pub out_of_memory : (no_memory : OutOfMemory) → Reads (request.program ∷ request.log ∷ []) false change.store change.store_after
      → Serves request change is_silent (Err (refusal.NoMemory no_memory))
  out_of_memory no_memory reads = record { ends = tt; so_far = inl silent; reads = reads }

-- ---- a talk

talk-in_part : (a : Answers) (passed : List Passed) → IsTalk a passed → IsTalkInPart a passed
talk-in_part a passed p = record {
  part = subst (IsPrefix (went passed)) p.whole (take-length (went passed));
  in_turn = p.in_turn;
}

module _ (request : RequestOf) (change : Change) (job : Job) (outcome : IsOutcomeOf (job_at request) change.store change.store_after (Ok job)) where
  talked : (is : Answers → List Passed → Type 0) → Tells change.wire.history change.wire_after.history (Gained (is (answers_of job request.time))) → IsTalked is request change
  talked is told =
      tells-map change.store.files change.store_after.files (HeldBefore (λ file. job_at request file ≡ Ok job)) (TalksOfRun is request change)
      (λ x y held. record { talks = subst (TalksOf is request.time change) (sym held.held) told }) outcome.1

  less : (is more : Answers → List Passed → Type 0) → ((passed : List Passed) → is (answers_of job request.time) passed → more (answers_of job request.time) passed)
      → Tells change.wire.history change.wire_after.history (Gained (is (answers_of job request.time)))
      → Tells change.wire.history change.wire_after.history (Gained (more (answers_of job request.time)))
  less is more step =
      tells-map change.wire.history change.wire_after.history (Gained (is (answers_of job request.time))) (Gained (more (answers_of job request.time)))
      (λ x y g. record { passed = g.passed; gains = g.gains; so = step g.passed g.so })

  module _ (is_silent : Type 0) where
    pub served : Reads (request.program ∷ request.log ∷ []) true change.store change.store_after
        → Talks {T = Unit {0}} (answers_of job request.time) change.wire change.wire_after (Ok tt) → Serves request change is_silent (Ok tt)
    served reads talks = record {
      ends = record { store = outcome.0; wire = talks.faults; talked = talked IsWholeTalk talks.told };
      so_far = inr (talked IsTalkInPart (less IsWholeTalk IsTalkInPart (λ passed p. talk-in_part (answers_of job request.time) passed p.talk) talks.told));
      reads = reads;
    }

    pub not_received : Reads (request.program ∷ request.log ∷ []) false change.store change.store_after
        → Talks {T = Unit {0}} (answers_of job request.time) change.wire change.wire_after (Err (At Receiving)) → Serves request change is_silent (Err refusal.ReadFault)
    not_received reads talks = record {
      ends = inr (talks.faults.1, talked IsTalk talks.told);
      so_far = inr (talked IsTalkInPart (less IsTalk IsTalkInPart (talk-in_part (answers_of job request.time)) talks.told));
      reads = reads;
    }

    pub not_sent : Reads (request.program ∷ request.log ∷ []) false change.store change.store_after
        → Talks {T = Unit {0}} (answers_of job request.time) change.wire change.wire_after (Err (At Sending)) → Serves request change is_silent (Err refusal.WriteFault)
    not_sent reads talks = record {
      ends = (talks.faults.1, talked IsTalkInPart talks.told);
      so_far = inr (talked IsTalkInPart talks.told);
      reads = reads;
    }

    pub no_memory_left : (no_memory : OutOfMemory) → Reads (request.program ∷ request.log ∷ []) false change.store change.store_after
        → Talks {T = Unit {0}} (answers_of job request.time) change.wire change.wire_after (Err (NoMemory no_memory)) → Serves request change is_silent (Err (refusal.NoMemory no_memory))
    no_memory_left no_memory reads talks = record {
      ends = tt;
      so_far = inr (talked IsTalkInPart talks.told);
      reads = reads;
    }
