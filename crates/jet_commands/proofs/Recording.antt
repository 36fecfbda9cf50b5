-- From a program and inputs that were read, and the capture of a run, to what a recording comes to.
use Rattle.std.proofs.Common.{◌≡◌, ◌∙◌, ap, sym, refl, subst, arith, ℕ, ◌≤◌, ◌<◌, ◌^◌, inl, inr, List, [], ◌∷◌, Bool, true, length, Option, Some, None, Result, Ok, Err, if◌then◌else◌}
use Rattle.std.specs.Option.{ok_or}
use Rattle.std.proofs.lemmas.Bool.{lt-ltb, le-ltb}
use Rattle.isa.specs.Machine.{State}
use Rattle.elf_model.specs.declared.ImageKind.{ImageKind}
use Rattle.elf_model.specs.Image.{Image, image}
use Rattle.elf_model.specs.Window.{start_of}
use Rattle.log_model.specs.declared.Version.TheVariants.{Two}
use Rattle.log_model.specs.Logs.{Log, log_text}
use Rattle.record_model.specs.Counts.{capped}
use Rattle.replay_model.specs.Fits.{start_in_image}
use Rattle.record_model.specs.Recorded.{IsRecorded}
use Rattle.call_record.specs.Captures.{IsCaptured, IsTooLong, IsCause}
use Rattle.record_model.specs.declared.Unrecorded.{Unrecorded}
use Rattle.record_model.specs.declared.Unrecorded.TheVariants.{Window, LogTooLong}
use Rattle.no_memory.specs.declared.Fault.{Fault}
use Rattle.no_memory.specs.declared.Fault.TheVariants.{At, NoMemory}
use Rattle.no_memory.specs.Faults.{IsCausedBy}
use Rattle.jet_refusal.specs.Faults.{unrecorded_refusal, IsRefusalOf}
use Rattle.outer_io.specs.Shown.{StoreShown}
use Rattle.outer_io.specs.Reads.{Reads}
use Rattle.outer_io.specs.Tells.{Tells, Gains}
use Rattle.jet_refusal.specs.declared.refusal.Refusal.{Refusal}
use Rattle.jet_refusal.specs.declared.refusal.Refusal.TheVariants as refusal
use Rattle.jet_model.specs.Outcomes.{and_then, AndThen}
use Rattle.jet_model.specs.Contents.{Contents, Program, program_at, inputs_at}
use Rattle.jet_model.specs.Answer.{Limits, Source, source_at, setting_of, start_in, limited_text, IsCaptured as IsCapturedAs, IsCaptureAnswer}
use Rattle.jet_model.proofs.AndThen.{AndThen-ok}
use Rattle.command_parts.specs.Outcome.{IsOutcomeBy, IsOutcomeOf}
use Rattle.command_parts.proofs.Composing.{outcome_by-stops, outcome_of-stops, outcome_of-then, outcome_of-work}
use Rattle.jet_commands.specs.Answers.{IsCapture, IsRecording, IsWorkOf}
use Rattle.jet_commands.specs.Ending.{IsUnasked}
use Rattle.jet_commands.proofs.Working.{outcome_by-answer}

-- ---- a run that was captured

abbrev text_if : Bool → Log → Result (List ℕ) Refusal
text_if long log = if long then Err (refusal.LogTooLong (capped (length (log_text Two log)))) else Ok (log_text Two log)

-- a count that stands still beyond the limit is one beyond the limit
over_limit : (n size : ℕ) → size ≡ capped n → 2 ^ 26 < size → 2 ^ 26 < n
over_limit n size e over = omega (arith, e, over)

pub short_text : (log : Log) → length (log_text Two log) ≤ 2 ^ 26 → limited_text log ≡ Ok (log_text Two log)
short_text log short = ap (λ b. text_if b log) (le-ltb (2 ^ 26) (length (log_text Two log)) short)

pub long_text : (log : Log) → 2 ^ 26 < length (log_text Two log) → limited_text log ≡ Err (refusal.LogTooLong (capped (length (log_text Two log))))
long_text log long = ap (λ b. text_if b log) (lt-ltb (2 ^ 26) (length (log_text Two log)) long)

module _ (source : Source) (limits : Limits) (heard heard_after : Option (List ℕ)) (loads : image source.program.bytes ≡ Ok source.program.image) where
  abbrev Captures : Result (List ℕ) Refusal → Type 0
  Captures = IsCapture source limits heard heard_after

  -- the window of a run that was recorded can hold the image
  begins : (log : Log) (answers : List ℕ) (r : IsRecorded (setting_of source limits) answers log) → start_of source.program.image limits.pages ≡ Some r.fits.start
  begins log answers r =
      let e : start_in_image (image source.program.bytes) log.pages ≡ Some r.fits.start = r.fits.begins in
      ap (λ (n : ℕ). start_of source.program.image n) (sym r.has_pages) ∙ sym (ap (λ (i : Result Image ImageKind). start_in_image i log.pages) loads) ∙ e

  captured_as : (log : Log) → IsCaptured (setting_of source limits) heard heard_after log → (answer : Result (List ℕ) Refusal) → answer ≡ limited_text log → Captures answer
  captured_as log c answer e = record {
    answers = c.answers;
    gained = c.gained;
    holds = AndThen-ok (start_in source.program.image limits.pages) (λ start. IsCapturedAs (setting_of source limits) c.answers) c.recorded.fits.start answer
        (ap (λ o. ok_or o (refusal.Window limits.pages)) (begins log c.answers c.recorded)) (record { log = log; recorded = c.recorded; text = e });
  }

  pub captured-text : (log : Log) (text : List ℕ) → IsCaptured (setting_of source limits) heard heard_after log → length (log_text Two log) ≤ 2 ^ 26 → text ≡ log_text Two log → Captures (Ok text)
  captured-text log text c short e = captured_as log c (Ok text) (ap Ok e ∙ sym (short_text log short))

  captured-too_long : (size : ℕ) → IsTooLong (setting_of source limits) heard heard_after size → Captures (Err (refusal.LogTooLong size))
  captured-too_long size t =
      captured_as t.log t.captured (Err (refusal.LogTooLong size))
      (ap (λ (n : ℕ). Err (refusal.LogTooLong n)) t.size_is ∙ sym (long_text t.log (over_limit (length (log_text Two t.log)) size t.size_is t.over)))

  captured-window : start_of source.program.image limits.pages ≡ None → Tells heard heard_after (Gains []) → Captures (Err (refusal.Window limits.pages))
  captured-window none gained = record {
    answers = [];
    gained = gained;
    holds = subst (λ (o : Option State). AndThen (ok_or o (refusal.Window limits.pages)) (λ start. IsCapturedAs (setting_of source limits) []) (Err (refusal.Window limits.pages))) (sym none) refl;
  }

  -- it was not captured
  pub not_captured : (fault : Fault Unrecorded) (r : Refusal) → IsCausedBy (IsCause (setting_of source limits) source.program.image heard heard_after) fault
      → IsRefusalOf (λ cause given. given ≡ unrecorded_refusal cause) fault r → IsWorkOf (IsCapture source limits heard heard_after) (Err r)
  not_captured (At (Window window)) r c gives = rw (gives, c.0) (captured-window c.1 c.2)
  not_captured (At (LogTooLong size)) r c gives = rw gives (captured-too_long size c)
  not_captured (NoMemory no_memory) r c gives = rw gives tt

  -- only where the log was made, or memory is out, was the clock asked
  pub not_read : (fault : Fault Unrecorded) (r : Refusal) → IsCausedBy (IsCause (setting_of source limits) source.program.image heard heard_after) fault
      → IsRefusalOf (λ cause given. given ≡ unrecorded_refusal cause) fault r → IsUnasked heard heard_after r
  not_read (At (Window window)) r c gives = inr c.2
  not_read (At (LogTooLong size)) r c gives = inl (inl (size, gives))
  not_read (NoMemory no_memory) r c gives = inl (inr (inr (record { told = no_memory; is = gives })))

-- ---- a program and its inputs that were read

module _ (program : List ℕ) (inputs : List (List ℕ)) (limits : Limits) (heard heard_after : Option (List ℕ)) where
  abbrev Records : Contents → Result (List ℕ) Refusal → Type 0
  Records = IsRecording program inputs limits heard heard_after

  abbrev source_with : Program → Contents → Result Source Refusal
  source_with p file = and_then (inputs_at file inputs) (λ contents. Ok (record { program = p; inputs = contents }))

  -- the source is refused, before the clock was read
  refused-source : (f g : StoreShown) (r : Refusal) → Tells heard heard_after (Gains []) → IsOutcomeOf (λ file. source_at file program inputs) f g (Err r) → IsOutcomeBy Records f g (Err r)
  refused-source f g r none = outcome_by-stops (λ file answer. source_at file program inputs ≡ answer) Records f g r
      (λ file e. record { answers = []; gained = none; holds = subst (λ (s : Result Source Refusal). AndThen s (λ source. IsCaptureAnswer source limits []) (Err r)) (sym e) refl })

  pub refused-program : (f g : StoreShown) (r : Refusal) → Tells heard heard_after (Gains []) → IsOutcomeOf (λ file. program_at file program) f g (Err r) → IsOutcomeBy Records f g (Err r)
  refused-program f g r none first = refused-source f g r none (outcome_of-stops (λ file. program_at file program) source_with f g r first)

  module _ (p : Program) (f g h : StoreShown) (first : IsOutcomeOf (λ file. program_at file program) f g (Ok p)) (reads : Reads (program ∷ []) true f g) (all : Bool) (after : Reads inputs all g h) where
    pub refused-inputs : (r : Refusal) → Tells heard heard_after (Gains []) → IsOutcomeOf (λ file. inputs_at file inputs) g h (Err r) → IsOutcomeBy Records f h (Err r)
    refused-inputs r none second =
        refused-source f h r none (outcome_of-then (λ file. program_at file program) source_with p f g h first reads after (Err r)
        (outcome_of-stops (λ file. inputs_at file inputs) (λ contents file. Ok (record { program = p; inputs = contents })) g h r second))

    pub recorded : (contents : List (List ℕ)) → IsOutcomeOf (λ file. inputs_at file inputs) g h (Ok contents) → (outcome : Result (List ℕ) Refusal)
        → IsWorkOf (IsCapture (record { program = p; inputs = contents }) limits heard heard_after) outcome → IsOutcomeBy Records f h outcome
    recorded contents second =
        let source : Source = record { program = p; inputs = contents } in
        outcome_by-answer (λ file answer. source_at file program inputs ≡ answer) (IsCapture source limits heard heard_after) Records source f h
        (λ file outcome e w. record { answers = w.answers; gained = w.gained; holds = AndThen-ok (source_at file program inputs) (λ s. IsCaptureAnswer s limits w.answers) source outcome e w.holds })
        (outcome_of-then (λ file. program_at file program) source_with p f g h first reads after (Ok source)
        (outcome_of-work (λ file. inputs_at file inputs) (λ contents. Ok (record { program = p; inputs = contents })) contents g h second (Ok source) refl))
