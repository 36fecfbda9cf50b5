-- Each recording comes to an answer.
use Rattle.std.proofs.Common.{◌≡◌, ◌∙◌, ap, sym, refl, subst, arith, ℕ, zero, suc, ◌+◌, ◌≤◌, ◌<◌, ◌^◌, List, [], ◌∷◌, length, Result, Ok, Err}
use Rattle.std.specs.Prelude.{min, IsSome}
use Rattle.std.specs.List.{AllByRecursion}
use Rattle.std.specs.Option.{ok_or}
use Rattle.isa.specs.Machine.{State}
use Rattle.elf_model.specs.declared.ImageKind.{ImageKind}
use Rattle.elf_model.specs.Image.{Image}
use Rattle.elf_model.specs.Window.{start_of}
use Rattle.log_model.specs.Logs.{IsBytes}
use Rattle.replay_model.specs.Fits.{start_in_image}
use Rattle.record_model.specs.Recorded.{CanRecord, input_of}
use Rattle.record_model.proofs.RecordedRuns.{a_recording}
use Rattle.jet_refusal.specs.declared.refusal.Refusal.{Refusal}
use Rattle.jet_refusal.specs.declared.refusal.Refusal.TheVariants as refusal
use Rattle.jet_model.specs.Outcomes.{and_then, AndThen}
use Rattle.jet_model.specs.Contents.{Contents, within_limit, file_at, each_in_order}
use Rattle.jet_model.specs.Answer.{Limits, Source, HoldsBytes, AreInRange, RecordAnswer, IsCaptured, IsCaptureAnswer, setting_of, source_at, start_in, limited_text}
use Rattle.jet_model.proofs.Headline.{source_at-is_ok}
use Rattle.jet_model.proofs.AndThen.{and_then-is_ok, AndThen-ok, ok_or-is_ok, within-is_ok}
use Rattle.jet_model.proofs.Files.{IsProgramAt, file_at-is_ok, program_at-is_ok}

-- ---- the inputs

-- an input has bytes, at most 2 ^ 26
abbrev IsInput : List ℕ → Type 0
IsInput bytes = IsBytes bytes × (length bytes ≤ 2 ^ 26)

module _ (file : Contents) (are : HoldsBytes file) where
  is_input : (name bytes : List ℕ) → file_at file name ≡ Ok bytes → IsInput bytes
  is_input name bytes h =
      let t = and_then-is_ok (ok_or (file name) refusal.ReadFault) within_limit bytes h in
      let within = within-is_ok (2 ^ 26) (length t.0) refusal.TooLong t.0 bytes t.2 in
      (are name bytes (file_at-is_ok file name bytes h), subst (λ (x : List ℕ). length x ≤ 2 ^ 26) within.0 within.1)

  -- as many as there are names
  pub record AreInputs (names inputs : List (List ℕ)) : Type 0 where
    pub as_many : length inputs ≡ length names
    pub each : AllByRecursion IsInput inputs

  pub are_inputs : (number : ℕ) (names inputs : List (List ℕ)) → each_in_order (λ number name. file_at file name) number names ≡ Ok inputs → AreInputs names inputs
  are_inputs number [] inputs h = let same : [] ≡ inputs = cc in subst (AreInputs []) same (record { as_many = refl; each = tt })
  are_inputs number (name ∷ names) inputs h =
      let x = and_then-is_ok (file_at file name) (λ x. and_then (each_in_order (λ number name. file_at file name) (number + 1) names) (λ xs. Ok (x ∷ xs))) inputs h in
      let xs = and_then-is_ok (each_in_order (λ number name. file_at file name) (number + 1) names) (λ xs. Ok (x.0 ∷ xs)) inputs x.2 in
      let same : x.0 ∷ xs.0 ≡ inputs = let e : Ok (x.0 ∷ xs.0) ≡ Ok inputs = xs.2 in cc in
      let rest = are_inputs (number + 1) names xs.0 xs.1 in
      subst (AreInputs (name ∷ names)) same (record { as_many = ap suc rest.as_many; each = (is_input name x.0 x.1, rest.each) })

all_bytes : (inputs : List (List ℕ)) → AllByRecursion IsInput inputs → AllByRecursion IsBytes inputs
all_bytes [] h = tt
all_bytes (i ∷ is) h = (h.0.0, all_bytes is h.1)

pieces_small : (inputs : List (List ℕ)) (piece channel : ℕ) → AllByRecursion IsInput inputs → min piece (length (input_of inputs channel)) < 2 ^ 31
pieces_small [] piece channel h = omega arith
pieces_small (i ∷ is) piece zero h = let few = h.0.1 in omega arith
pieces_small (i ∷ is) piece (suc channel) h = pieces_small is piece channel h.1

-- ---- the recording

module _ (file : Contents) (program_name : List ℕ) (names : List (List ℕ)) (limits : Limits) (clock : ℕ → ℕ)
    (are : HoldsBytes file) (few : length names ≤ 16) (range : AreInRange limits) (small : (k : ℕ) → clock k < 2 ^ 64) where
  can_record : (source : Source) (start : State) → source_at file program_name names ≡ Ok source → start_in source.program.image limits.pages ≡ Ok start → CanRecord (setting_of source limits)
  can_record source start h e =
      let found = source_at-is_ok file program_name names source h in
      let program : IsProgramAt file program_name source.program = program_at-is_ok file program_name source.program found.0 in
      let inputs : AreInputs file are names source.inputs = are_inputs file are 1 names source.inputs found.1 in
      let many = inputs.as_many in
      record {
        program = are program_name source.program.bytes program.there;
        pages = range.pages;
        begins = subst IsSome (sym (ap (λ (r : Result Image ImageKind). start_in_image r limits.pages) program.is_image ∙ ok_or-is_ok (start_of source.program.image limits.pages) (refusal.Window limits.pages) start e)) refl;
        channels = omega arith;
        inputs = all_bytes source.inputs inputs.each;
        pieces = λ channel. pieces_small source.inputs limits.piece channel inputs.each;
        steps = range.steps;
      }

  from_start : (source : Source) → source_at file program_name names ≡ Ok source → (r : Result State Refusal) → start_in source.program.image limits.pages ≡ r → RecordAnswer file program_name names limits clock
  from_start source h (Ok start) e =
      let found = a_recording (setting_of source limits) clock (can_record source start h e) small in
      record {
        asked = found.asked;
        answer = limited_text found.log;
        is_answer = AndThen-ok (source_at file program_name names) _ source _ h (AndThen-ok (start_in source.program.image limits.pages) _ start _ e (record { log = found.log; recorded = found.is_recorded; text = refl }));
      }
  from_start source h (Err fault) e = record {
    asked = 0;
    answer = Err fault;
    is_answer = AndThen-ok (source_at file program_name names) _ source _ h (subst (λ (r : Result State Refusal). AndThen r (λ start. IsCaptured (setting_of source limits) []) (Err fault)) (sym e) refl);
  }

  pub a_record_answer : RecordAnswer file program_name names limits clock
  a_record_answer = by (source_at file program_name names) refl
    where
      by : (r : Result Source Refusal) → source_at file program_name names ≡ r → RecordAnswer file program_name names limits clock
      by (Ok source) h = from_start source h (start_in source.program.image limits.pages) refl
      by (Err fault) h = record { asked = 0; answer = Err fault; is_answer = subst (λ (r : Result Source Refusal). AndThen r (λ source. IsCaptureAnswer source limits []) (Err fault)) (sym h) refl }
