-- What the words of `jet-gdb` come to: a talk over the wire, or a refusal. `is_silent` says that nothing passed over the wire.
use Rattle.std.specs.Prelude.{◌≡◌, ◌≤◌, ◌<◌, ◌-◌, ◌^◌, ◌⊎◌, ℕ, List, [], ◌∷◌, map, Option, Some, None, IsSome, Result, Ok, Err, is_ok, String, string_bytes}
use Rattle.std.specs.declared.alloc.Global.{Global}
use Rattle.outer_io.specs.Faults.{Rose}
use Rattle.outer_io.specs.Files.{Files, Text}
use Rattle.outer_io.specs.Shown.{StoreShown}
use Rattle.outer_io.specs.Tells.{Tells}
use Rattle.outer_io.specs.Reads.{Reads}
use Rattle.outer_wire.specs.Wires.{Passed, WireShown}
use Rattle.outer_wire.specs.Talks.{Answers, Gained, IsTalk, IsTalkInPart, IsWholeTalk}
use Rattle.replayer.specs.Jobs.{Job}
use Rattle.jet_refusal.specs.declared.refusal.Refusal.{Refusal}
use Rattle.jet_refusal.specs.Refusals.{status_of, line_of}
use Rattle.jet_refusal.specs.Causes.{Causes, IsOwedTo}
use Rattle.jet_model.specs.Outcomes.{and_then}
use Rattle.jet_model.specs.Contents.{Contents, run_at}
use Rattle.jet_model.specs.Answer.{fitting_start}
use Rattle.gdb_words.specs.Requests.{RequestOf, request_of}
use Rattle.command_parts.specs.Outcome.{HeldBefore}
use Rattle.command_parts.specs.Saying.{status_after}
use Rattle.debug_talk.specs.Debugging.{answers_of}

-- what the store and the wire show before a call and after it
pub record Change : Type 0 where
  pub store : StoreShown
  pub store_after : StoreShown
  pub wire : WireShown
  pub wire_after : WireShown

-- the same, by the members of the two and by their values before and after
abbrev pub change : {S W : Type 0} → (S → StoreShown) → (W → WireShown) → S → W → S → W → Change
change store wire s w s' w' = record { store = store s; store_after = store s'; wire = wire w; wire_after = wire w' }

-- what the words stand for, if they stand for anything
abbrev pub request_in : List (String Global) → Option RequestOf
request_in words = request_of (map string_bytes words)

-- the run that the files of a request hold, whose log fits its program; or why there is none
abbrev pub job_at : RequestOf → Contents → Result Job Refusal
job_at request file =
    and_then (run_at file request.program request.log) (λ run.
    and_then (fitting_start run.program run.log) (λ start.
    Ok (record { start = start; log = run.log })))

-- where the wire tells what passed, that is so a talk about the run: what went is the dialogue of what came
abbrev pub TalksOf : (Answers → List Passed → Type 0) → ℕ → Change → Result Job Refusal → Type 0
TalksOf is time change (Ok job) = Tells change.wire.history change.wire_after.history (Gained (is (answers_of job time)))
TalksOf is time change (Err refusal) = ⊥

pub record TalksOfRun (is : Answers → List Passed → Type 0) (request : RequestOf) (change : Change) (old new : Files) : Type 0 where
  pub talks : TalksOf is request.time change (job_at request old.file)

-- where the store tells its files too, the run is that of the files
abbrev pub IsTalked : (Answers → List Passed → Type 0) → RequestOf → Change → Type 0
IsTalked is request change = Tells change.store.files change.store_after.files (TalksOfRun is request change)

-- nothing failed, and the talk is whole: each answer stands before what came next, and it is over
pub record IsServed (request : RequestOf) (change : Change) : Type 0 where
  pub store : change.store_after.faults ≡ change.store.faults
  pub wire : change.wire_after.faults ≡ change.wire.faults
  pub talked : IsTalked IsWholeTalk request change

-- the store failed before anything passed; or the wire failed in receiving, when all was said that was to be said by then
abbrev pub FailsToRead : RequestOf → Change → Type 0 → Type 0
FailsToRead request change is_silent =
    (Rose change.store.faults change.store_after.faults × is_silent) ⊎ (Rose change.wire.faults change.wire_after.faults × IsTalked IsTalk request change)

-- what a refusal is owed to: the words stand for nothing; or the files as they were come to it; or reading failed; or the wire
-- failed in sending, when the first of what was to be said had gone
abbrev pub causes_of : Option RequestOf → Change → Type 0 → Refusal → Causes
causes_of None change is_silent refusal = record { usage = is_silent; files = ⊥; read = ⊥; write = ⊥ }
causes_of (Some request) change is_silent refusal = record {
  usage = ⊥;
  files = Tells change.store.files change.store_after.files (HeldBefore (λ file. job_at request file ≡ Err refusal)) × is_silent;
  read = FailsToRead request change is_silent;
  write = Rose change.wire.faults change.wire_after.faults × IsTalked IsTalkInPart request change;
}

-- how a request ended: it was served, or it was refused
abbrev pub Ends : RequestOf → Change → Type 0 → Result (Unit {0}) Refusal → Type 0
Ends request change is_silent (Ok done) = IsServed request change
Ends request change is_silent (Err refusal) = IsOwedTo (causes_of (Some request) change is_silent refusal) refusal

-- the same, and what is opened and what passed in any case
pub record Serves (request : RequestOf) (change : Change) (is_silent : Type 0) (result : Result (Unit {0}) Refusal) : Type 0 where
  pub ends : Ends request change is_silent result
  pub so_far : is_silent ⊎ IsTalked IsTalkInPart request change
  pub reads : Reads (request.program ∷ request.log ∷ []) (is_ok result) change.store change.store_after

-- ---- the words

-- the same, where the words may stand for nothing
abbrev pub EndsIn : Option RequestOf → Change → Type 0 → Result (Unit {0}) Refusal → Type 0
EndsIn None change is_silent (Ok done) = ⊥
EndsIn None change is_silent (Err refusal) = IsOwedTo (causes_of None change is_silent refusal) refusal
EndsIn (Some request) change is_silent result = Ends request change is_silent result

-- whatever comes of it: nothing passed, or a talk about the run, as far as it went
abbrev pub IsSoFar : Option RequestOf → Change → Type 0 → Type 0
IsSoFar None change is_silent = is_silent
IsSoFar (Some request) change is_silent = is_silent ⊎ IsTalked IsTalkInPart request change

-- the files that are read, in their order
abbrev pub names_in : Option RequestOf → List Text
names_in None = []
names_in (Some request) = request.program ∷ request.log ∷ []

pub record Obeys (request : Option RequestOf) (change : Change) (is_silent : Type 0) (result : Result (Unit {0}) Refusal) : Type 0 where
  pub ends : EndsIn request change is_silent result
  pub so_far : IsSoFar request change is_silent
  pub reads : Reads (names_in request) (is_ok result) change.store change.store_after

-- ---- the statuses

-- the program ends with 0, or with one of 2 to 11
abbrev pub IsStatus : ℕ → Type 0
IsStatus status = (status ≡ 0) ⊎ ((2 ≤ status) × (status ≤ 11))

-- 0: the request was served
abbrev pub IsDone : Option RequestOf → Change → Type 0
IsDone None change = ⊥
IsDone (Some request) change = IsServed request change

-- 2 to 11: the status is that of a refusal, which has its cause; `says` holds of the line that is said, and it is the refusal's
pub record IsRefused (status : ℕ) (request : Option RequestOf) (says : List ℕ → Type 0) (change : Change) (is_silent : Type 0) : Type 0 where
  pub refusal : Refusal
  pub status_is : status ≡ status_of refusal
  pub line_is : says (line_of refusal)
  pub has_cause : IsOwedTo (causes_of request change is_silent refusal) refusal

-- ---- where the store and the wire don't fail, the files decide; or memory is out

-- the store tells its files to the end, and the counts of faults stood below their last value and didn't rise
pub record IsUndisturbed (change : Change) : Type 0 where
  pub told : Files
  pub tells : change.store.files ≡ Some told
  pub still_tells : IsSome change.store_after.files
  pub store_room : change.store.faults < 2 ^ 64 - 1
  pub store_faults : change.store_after.faults ≡ change.store.faults
  pub wire_room : change.wire.faults < 2 ^ 64 - 1
  pub wire_faults : change.wire_after.faults ≡ change.wire.faults

-- the status is that of what the files come to: 0 where they hold a run, and else that of the refusal
abbrev pub IsDecided : ℕ → Option RequestOf → Change → Type 0
IsDecided status None change = Unit {0}
IsDecided status (Some request) change =
    (u : IsUndisturbed change) → (status ≡ status_after (job_at request u.told.file)) ⊎ (status ≡ 10)
