-- The log of a run that was recorded to its end.
use Rattle.std.proofs.Common.{◌≡◌, ℕ, zero, suc, ◌+◌, ◌*◌, ◌^◌, ◌≤◌, List, [], ◌∷◌, length, get_or, Option, Some, Result, Ok, Err, refl, arith, ap, sym, ◌∙◌, subst}
use Rattle.std.specs.Prelude.{IfOk, IfErr, OnErr}
use Rattle.std.specs.Global.{Vec}
use Rattle.std.specs.List.{All, AllByRecursion, sum_by}
use Rattle.std.proofs.lemmas.List.{length-map}
use Rattle.std.proofs.lemmas.List.Elements.{recursion_from_All}
use Rattle.isa.specs.Machine.{State}
use Rattle.elf_model.specs.declared.ImageKind.{ImageKind}
use Rattle.elf_model.specs.Image.{Image, image}
use Rattle.elf_model.specs.Window.{start_of}
use Rattle.log_model.specs.declared.Version.TheVariants.{Two}
use Rattle.log_model.specs.declared.CallRecord.{CallRecord}
use Rattle.log_model.specs.declared.RunEnd.{RunEnd}
use Rattle.log_model.specs.Logs.{Log, IsLog, CanHold, log_text, end_text, share}
use Rattle.replay_model.specs.Fits.{start_in_image}
use Rattle.record_model.specs.Recorded.{IsRecorded, clock_values}
use Rattle.record_model.specs.Counts.{capped}
use Rattle.log_model.proofs.Texts.{wide_length}
use Rattle.sha2.specs.Sha256.{sha256}
use Rattle.sha2.proofs.Facts256.{length-sha256}
use Rattle.call_record.specs.Sources.{contents, IsSource}
use Rattle.call_record.specs.Tapes.{log_with, log_of, IsComplete, IsTooLongWith}
use Rattle.call_record.specs.Runs.{IsRunOf, IsWhole}
use Rattle.call_record.specs.Steps.{Gained}
use Rattle.call_record.specs.Captures.{setting_of, IsCaptured, IsCause}
use Rattle.call_record.specs.declared.source.Source.{Source}
use Rattle.call_record.specs.declared.tape.Tape.{Tape}
use Rattle.record_model.specs.declared.Unrecorded.{Unrecorded}
use Rattle.record_model.specs.declared.Unrecorded.TheVariants.{Window, LogTooLong}
use Rattle.record_model.proofs.RecordedRuns.{sha256_bytes}
use Rattle.no_memory.specs.declared.Fault.{Fault}
use Rattle.no_memory.specs.declared.Fault.TheVariants.{At, NoMemory}
use Rattle.no_memory.specs.Faults.{IsCausedBy}
use Rattle.call_record.proofs.Counts.{capped_is, capped_add}
use Rattle.replay_model.proofs.Received.{fitting_is_held}

-- ---- the inputs

short_by : (inputs : List (Vec ℕ)) (c : ℕ) → AllByRecursion (λ (v : Vec ℕ). length v.items ≤ 2 ^ 26) inputs
    → length (get_or (contents inputs) c []) ≤ 2 ^ 26
short_by [] c all = omega arith
short_by (v ∷ vs) zero all = all.0
short_by (v ∷ vs) (suc c) all = short_by vs c all.1

pub is_source : (source : Source) → length source.inputs.now ≤ 16
    → All (λ (v : Vec ℕ). length v.items ≤ 2 ^ 26) source.inputs.now → IsSource source
is_source source few short = record {
  few = few;
  short = λ c. short_by source.inputs.now c
      (recursion_from_All (λ (v : Vec ℕ). length v.items ≤ 2 ^ 26) source.inputs.now short);
}

-- ---- the log

-- how the run begins
pub record Begins (program : List ℕ) (im : Image) (pages : ℕ) (source : Source) (s : State) : Type 0 where
  pub image_is : image program ≡ Ok im
  pub starts : start_of im pages ≡ Some s
  pub some : 1 ≤ pages
  pub most : pages ≤ 4096
  pub few : length source.inputs.now ≤ 16

abbrev pub whole_log : List ℕ → ℕ → Source → List CallRecord → RunEnd → Log
whole_log program pages source records end = log_with pages (length source.inputs.now) (sha256 program) records end

-- the text up to the end has this length
abbrev size_before : ℕ → List CallRecord → ℕ
size_before inputs records = 48 + 4 * inputs + sum_by (share inputs) records

-- what is made of the tape: this log, which isn't too long
abbrev pub IsMade : Tape → ℕ → List ℕ → RunEnd → Log → Type 0
IsMade tape pages digest end log = (log ≡ log_of tape pages digest end) × (tape.size + length (end_text Two end) ≤ 2 ^ 26)

module _ {program : List ℕ} {im : Image} {pages : ℕ} {source : Source} {s : State} {steps : ℕ} {end : RunEnd} (begins : Begins program im pages source s) where
  -- the records of a whole run make a log
  module _ {records : List CallRecord} (run : IsRunOf s source steps end records) where
    whole_form : IsLog (whole_log program pages source records end)
    whole_form = record {
      pages = (begins.some, begins.most);
      inputs = begins.few;
      digest = length-sha256 program;
      digest_bytes = sha256_bytes program;
      records = run.form;
      end = run.end_form;
      rise = run.rise;
      ends_after = run.ends_after;
    }

    whole_recorded : IsRecorded (setting_of program pages source.inputs.now source.piece steps) (clock_values records) (whole_log program pages source records end)
    whole_recorded = record {
      is_log = whole_form;
      has_pages = refl;
      has_channels = sym (length-map source.inputs.now (λ (v : Vec ℕ). v.items));
      fits = record {
        start = s;
        digest = refl;
        begins = ap (λ (r : Result Image ImageKind). start_in_image r pages) begins.image_is ∙ begins.starts;
        agrees = run.agrees (whole_log program pages source records end) refl refl refl;
      };
      reads_inputs = run.reads;
      has_answers = refl;
      ends_within = run.ends;
    }

  module _ {tape : Tape} {told told_after : Option (List ℕ)} (whole : IsWhole s source steps end tape told told_after) where
    abbrev all : Log
    all = whole_log program pages source whole.records end

    pub captured : IsCaptured (setting_of program pages source.inputs.now source.piece steps) told told_after all
    captured = record { answers = clock_values whole.records; gained = whole.gained; recorded = whole_recorded whole.run }

    abbrev before : ℕ
    before = size_before (length source.inputs.now) whole.records

    text : before + length (end_text Two end) ≡ length (log_text Two all)
    text = sym (wide_length all (whole_form whole.run))

    counted : tape.size ≡ capped before
    counted = whole.holds.counted ∙ ap (λ (n : ℕ). capped (size_before n whole.records)) whole.inputs_are

    exact : tape.size ≤ 2 ^ 26 → tape.size ≡ before
    exact small = counted ∙ sym (capped_is before (omega (arith, counted, small)))

    -- the records that the tape keeps are all, where the log may be so long
    kept_all : {digest : List ℕ} → digest ≡ sha256 program → tape.size ≤ 2 ^ 26 → log_of tape pages digest end ≡ all
    kept_all {digest} e small =
        ap (λ (n : ℕ). log_with pages n digest tape.records.items end) whole.inputs_are
        ∙ ap (λ (d : List ℕ). log_with pages (length source.inputs.now) d tape.records.items end) e
        ∙ ap (λ (w : List CallRecord). log_with pages (length source.inputs.now) (sha256 program) w end) (whole.holds.kept small)

    pub complete : {digest : List ℕ} → digest ≡ sha256 program → tape.size ≤ 2 ^ 26 → IsComplete (log_of tape pages digest end) tape.size
    complete e small =
        subst (λ (log : Log). IsComplete log tape.size) (sym (kept_all e small))
        (record { form = whole_form whole.run; counted = ap (λ (n : ℕ). n + length (end_text Two end)) (exact small) ∙ text })

    -- ---- the answers

    -- what is true of the log of all records, whose text is short, is true of what is made
    pub ok_made : {digest : List ℕ} (P : Log → Type 0) (o : Result Log (Fault Unrecorded)) → digest ≡ sha256 program → IfOk o (IsMade tape pages digest end)
        → (length (log_text Two all) ≤ 2 ^ 26 → P all) → IfOk o P
    ok_made P (Ok log) e made f =
        let small = made.1 in
        let less : tape.size ≤ 2 ^ 26 = omega arith in
        subst P (sym (made.0 ∙ kept_all e less)) (f (omega (arith, text, exact less, small)))
    ok_made P (Err fault) e made f = made

    pub all_held : length (log_text Two all) ≤ 2 ^ 26 → CanHold Two all
    all_held short = fitting_is_held s all (whole_form whole.run) (whole.run.agrees all refl refl refl) (omega (arith, short))

    too_long : (f : Unrecorded) → IsTooLongWith (tape.size + length (end_text Two end)) f
        → IsCause (setting_of program pages source.inputs.now source.piece steps) im told told_after f
    too_long (Window window) long = absurd long
    too_long (LogTooLong size) long =
        let last = length (end_text Two end) in
        record {
          log = all;
          captured = captured;
          size_is = long.0 ∙ ap (λ (n : ℕ). capped (n + last)) counted ∙ capped_add before last ∙ ap capped text;
          over = omega (arith, long.0, long.1);
        }

    pub err_cause : (o : Result Log (Fault Unrecorded)) → IfErr o (IsCausedBy (IsTooLongWith (tape.size + length (end_text Two end))))
        → IfErr o (IsCausedBy (IsCause (setting_of program pages source.inputs.now source.piece steps) im told told_after))
    err_cause (Ok log) long = long
    err_cause (Err (At f)) long = too_long f long
    err_cause (Err (NoMemory no_memory)) long = tt

-- whatever is made of it, the clock gave these answers
pub err_gained : {source : Source} {s : State} {steps : ℕ} {end : RunEnd} {tape : Tape} {told told_after : Option (List ℕ)} (o : Result Log (Fault Unrecorded))
    → IsWhole s source steps end tape told told_after → OnErr o (Gained told told_after)
err_gained (Ok log) whole = tt
err_gained (Err f) whole = record { values = clock_values whole.records; gained = whole.gained }
