-- From the recorded run of the workload to what `bench` comes to.
use Rattle.std.proofs.Common.{◌≡◌, ◌∙◌, ap, sym, refl, subst, ℕ, ◌+◌, ◌≤◌, ◌<◌, ◌^◌, arith, List, [], ◌∷◌, length, sum_by, Option, Some, None, Result, Ok, Err}
use Rattle.std.proofs.lemmas.List.Sums.{sum_by-cons}
use Rattle.sha2.specs.Sha256.{sha256}
use Rattle.isa.specs.Machine.{State}
use Rattle.elf_model.specs.declared.ImageKind.{ImageKind}
use Rattle.elf_model.specs.Image.{Image, image}
use Rattle.elf_model.specs.Window.{start_of}
use Rattle.log_model.specs.declared.Version.TheVariants.{Two}
use Rattle.log_model.specs.Logs.{Log, log_text, steps}
use Rattle.flow_model.specs.declared.Loc.{Loc}
use Rattle.flow_model.specs.declared.StepSeen.{StepSeen}
use Rattle.report_model.specs.Query.{Query}
use Rattle.report_model.specs.Rows.{rows}
use Rattle.report_model.specs.Text.{report_text}
use Rattle.replay_model.specs.Fits.{Fits, beginning, start_in_image}
use Rattle.record_model.specs.Counts.{capped}
use Rattle.epoch_model.specs.ByLength.{cut_times}
use Rattle.stream_model.specs.Work.{asked_at, run_work}
use Rattle.outer_io.specs.Faults.{Rose}
use Rattle.outer_io.specs.Tells.{Tells}
use Rattle.outer_io.specs.Files.{Files}
use Rattle.outer_io.specs.Shown.{StoreShown}
use Rattle.replayer.specs.Jobs.{Job, trace_of}
use Rattle.replayer.specs.Checks.{IsChecked}
use Rattle.sink_collect.specs.Pairs.{pairs}
use Rattle.run_query.specs.Crossings.{CrossedAt, numbered, crossed}
use Rattle.jet_refusal.specs.declared.refusal.Refusal.{Refusal}
use Rattle.jet_refusal.specs.declared.refusal.Refusal.TheVariants as refusal
use Rattle.jet_refusal.specs.Causes.{IsOwedTo}
use Rattle.jet_refusal.proofs.Causes.{IsOwedTo-map}
use Rattle.jet_model.specs.Contents.{Contents}
use Rattle.jet_model.specs.Report.{text_from}
use Rattle.jet_model.specs.Answer.{fitting_start, epochs_check}
use Rattle.jet_model.proofs.AndThen.{and_then-ok, and_then-err}
use Rattle.order_gateway.specs.Guest.{guest_file, guest_image}
use Rattle.order_gateway.specs.declared.Numbers.{Numbers}
use Rattle.order_gateway.specs.Lines.{numbers_of, bench_text}
use Rattle.order_gateway.specs.Answer.{lines_of, IsWorkloadLog, IsBenchAnswer}
use Rattle.order_gateway.proofs.Guests.{guest-image}
use Rattle.order_gateway.proofs.Outcomes.{short_log-outcome, long_log-outcome}
use Rattle.record_model.specs.declared.Unrecorded.{Unrecorded}
use Rattle.record_model.specs.declared.Unrecorded.TheVariants.{Window, LogTooLong}
use Rattle.no_memory.specs.declared.Fault.{Fault}
use Rattle.no_memory.specs.declared.Fault.TheVariants as fault
use Rattle.no_memory.specs.Faults.{IsCausedBy}
use Rattle.jet_refusal.specs.Faults.{unrecorded_refusal, IsRefusalOf}
use Rattle.order_gateway.specs.Recordings.{IsTooLong, IsCause}
use Rattle.command_parts.specs.Outcome.{HeldBefore, IsOutcomeBy, IsWork, by_reading}
use Rattle.jet_commands.specs.Answers.{IsWorkOf}
use Rattle.jet_commands.specs.Bench.{IsWorkloadJob, asked_in_all}
use Rattle.command_parts.proofs.Composing.{owed-map}
use Rattle.command_parts.proofs.Fitting.{fitting_start-ok}

-- ---- the guest's run begins

-- what begins in the guest's image begins in its file
image-begins : (im : Image) (pages : ℕ) → im ≡ guest_image → start_in_image (image guest_file) pages ≡ start_of im pages
image-begins im pages e = ap (λ (found : Result Image ImageKind). start_in_image found pages) guest-image ∙ ap (λ (i : Image). start_of i pages) (sym e)

pub checked-is_job : (seed n : ℕ) (program : List ℕ) (im : Image) (log : Log) (job : Job) → im ≡ guest_image → IsWorkloadLog seed n log
    → length (log_text Two log) ≤ 2 ^ 26 → IsChecked program im log job → IsWorkloadJob seed n job
checked-is_job seed n program im log job e is_log short checked =
    let same = sym checked.same_log in
    record {
      is_log = subst (IsWorkloadLog seed n) same is_log;
      begins = subst (λ (l : Log). beginning guest_file l ≡ Some job.start) same (image-begins im log.pages e ∙ checked.start);
      short = subst (λ (l : Log). length (log_text Two l) ≤ 2 ^ 26) same short;
    }

-- a log that is recorded fits, so that fitting it can only run out of memory
no_refusal : (P : Type 0) (found : Result State Refusal) (start : State) (r : Refusal) → found ≡ Ok start → IsWork found (Err r) → IsOwedTo (by_reading P ⊥) r
no_refusal P found start r e = owed-map (found ≡ Err r) P (λ stops. let f : ⊥ = cc in absurd f) r

pub fitted-stops : (P : Type 0) (program : List ℕ) (im : Image) (log : Log) (r : Refusal) → program ≡ guest_file → im ≡ guest_image → Fits guest_file log
    → IsWork (fitting_start (record { bytes = program; image = im }) log) (Err r) → IsOwedTo (by_reading P ⊥) r
fitted-stops P program im log r same e fits =
    no_refusal P (fitting_start (record { bytes = program; image = im }) log) fits.start r
    (fitting_start-ok (record { bytes = program; image = im }) log fits.start (fits.digest ∙ ap sha256 (sym same))
    (sym (image-begins im log.pages e) ∙ fits.begins) fits.agrees)

-- its log is too long
long-stops : (seed n epoch size : ℕ) → IsTooLong seed n size → IsBenchAnswer seed n epoch (Err (refusal.LogTooLong size))
long-stops seed n epoch size is =
    let long : 2 ^ 26 < length (log_text Two is.log) = omega (arith, is.over, is.size_is) in
    record {
      log = is.log;
      is_log = is.is_log;
      outcome = ap (λ (k : ℕ). Err (refusal.LogTooLong k)) is.size_is ∙ sym (long_log-outcome is.log epoch long);
    }

pub recording-stops : (seed n epoch : ℕ) (why : Fault Unrecorded) (r : Refusal) → IsCausedBy (IsCause seed n) why
    → IsRefusalOf (λ cause given. given ≡ unrecorded_refusal cause) why r → IsWorkOf (IsBenchAnswer seed n epoch) (Err r)
recording-stops seed n epoch (fault.At (Window window)) r is gives = absurd is
recording-stops seed n epoch (fault.At (LogTooLong size)) r is gives = rw gives (long-stops seed n epoch size is)
recording-stops seed n epoch (fault.NoMemory no_memory) r is gives = rw gives tt

-- ---- its numbers

sum-numbered : (k : ℕ) (all : List (List Loc)) → sum_by (λ (c : CrossedAt). length c.asked) (numbered k all) ≡ sum_by length all
sum-numbered k [] = refl
sum-numbered k (ls ∷ all) =
    sum_by-cons (λ (c : CrossedAt). length c.asked) (record { cut = k; asked = ls }) (numbered (k + 1) all)
    ∙ ap (λ (n : ℕ). length ls + n) (sum-numbered (k + 1) all)
    ∙ sym (sum_by-cons length ls all)

pub asked-in_all : (q : Query) (steps : List StepSeen) (cuts : List ℕ) → asked_in_all (crossed q steps cuts) ≡ capped (sum_by length (asked_at q steps cuts))
asked-in_all q steps cuts = ap capped (sum-numbered 1 (asked_at q steps cuts))

-- the numbers of these counts and this digest
pub numbers-are : (q : Query) (cuts : List ℕ) (steps : List StepSeen) (n : Numbers) → n.steps ≡ length steps → n.epochs ≡ length cuts
    → n.sinks ≡ length (rows q steps) → n.pairs ≡ capped (pairs (rows q steps)) → n.asked ≡ capped (sum_by length (asked_at q steps cuts))
    → n.digest ≡ sha256 (report_text (rows q steps)) → n.events ≡ capped (run_work q steps cuts) → n ≡ numbers_of q cuts steps
numbers-are q cuts steps n a b c d e f g = λ i. record { steps = a i; epochs = b i; sinks = c i; pairs = d i; asked = e i; digest = f i; events = g i }

-- ---- what it comes to

module _ (seed n epoch : ℕ) (job : Job) (is : IsWorkloadJob seed n job) where
  -- there are too many epochs
  pub cuts-stop : (r : Refusal) → IsWork (epochs_check epoch job.log) (Err r) → IsWorkOf (IsBenchAnswer seed n epoch) (Err r)
  cuts-stop r =
      owed-map (epochs_check epoch job.log ≡ Err r) (IsBenchAnswer seed n epoch (Err r))
      (λ e. record {
        log = job.log;
        is_log = is.is_log;
        outcome = sym (short_log-outcome job.log epoch is.short ∙ and_then-err (epochs_check epoch job.log) (λ few. Ok (lines_of job.log epoch)) r e);
      }) r

  lines-are : (cuts : List ℕ) → cuts ≡ cut_times (steps job.log) epoch → bench_text cuts (trace_of job) ≡ lines_of job.log epoch
  lines-are cuts e =
      ap (λ (at : List ℕ). bench_text at (trace_of job)) e
      ∙ sym (ap (λ (from : Option State). text_from from job.log (bench_text (cut_times (steps job.log) epoch))) is.begins)

  pub lines-give : (few : epochs_check epoch job.log ≡ Ok tt) (cuts text : List ℕ) → cuts ≡ cut_times (steps job.log) epoch → text ≡ bench_text cuts (trace_of job)
      → IsBenchAnswer seed n epoch (Ok text)
  lines-give few cuts text e same = record {
    log = job.log;
    is_log = is.is_log;
    outcome = ap Ok (same ∙ lines-are cuts e)
        ∙ sym (short_log-outcome job.log epoch is.short ∙ and_then-ok (epochs_check epoch job.log) (λ few. Ok (lines_of job.log epoch)) tt few);
  }

-- ---- no file is read

held-always : (P : Type 0) (f : Option Files) → P → Tells f f (HeldBefore (λ file. P))
held-always P None p = tt
held-always P (Some files) p = record { held = p }

-- what work comes to is what the files come to, whatever they are
pub outcome_by-always : {A : Type 0} (Q : Result A Refusal → Type 0) (f : StoreShown) (outcome : Result A Refusal) → IsWorkOf Q outcome
    → IsOutcomeBy (λ (file : Contents). Q) f f outcome
outcome_by-always Q f (Ok x) work = (refl, held-always (Q (Ok x)) f.files work)
outcome_by-always Q f (Err r) work =
    IsOwedTo-map (by_reading (Q (Err r)) ⊥) (by_reading (Tells f.files f.files (HeldBefore (λ file. Q (Err r)))) (Rose f.faults f.faults))
    (λ p. p) (held-always (Q (Err r)) f.files) (λ p. absurd p) (λ p. p) r work
