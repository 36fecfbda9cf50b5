-- What a command gives of the files that it reads, and how it is obeyed. Of the store and the output, `old` and `new` are what they
-- show before and after; `is_unread` says that the clock is as it was, and `is_silent` the same of the output.
use Rattle.std.specs.Prelude.{◌≡◌, ◌≤◌, ℕ, List, Option, Result, is_ok, IfOk, IfErr, OnOk, OnErr}
use Rattle.outer_io.specs.Files.{Text}
use Rattle.outer_io.specs.Tells.{Tells}
use Rattle.outer_io.specs.Shown.{StoreShown, SinkShown}
use Rattle.outer_io.specs.Reads.{Reads}
use Rattle.outer_io.specs.Outside.{Change}
use Rattle.jet_words.specs.Commands.{CommandOf}
use Rattle.jet_refusal.specs.declared.refusal.Refusal.{Refusal}
use Rattle.jet_model.specs.Contents.{Contents}
use Rattle.command_parts.specs.Outcome.{IsOutcomeBy, seen_by}
use Rattle.jet_commands.specs.Texts.{text_of}
use Rattle.jet_commands.specs.Targets.{Target, ToOutput, ToFile, written_in, IfFile, OpensAll, OpensFirst, KeepsAll, KeepsBut}
use Rattle.jet_commands.specs.Plans.{IsAnswer, sources_of, target_of, target_in, files_of, IfUntimed, IfUntimedIn}
use Rattle.jet_commands.specs.Writing.{Delivers, DeliversPart, FailsToWrite}
use Rattle.command_parts.specs.Saying.{status_after}
use Rattle.jet_commands.specs.Ending.{Ends, IsUnasked, IsUnwritten}
use Rattle.jet_commands.specs.declared.delivery.Given.{Given}
use Rattle.jet_commands.specs.declared.delivery.Given.TheVariants.{Told, Made}

abbrev pub given_text : Given → List ℕ
given_text (Told answer) = text_of answer
given_text (Made name content) = content.items

abbrev pub given_target : Given → Target
given_target (Told answer) = ToOutput
given_target (Made name content) = ToFile name.now

-- these files are read, in their order, until one is refused; what is given is what they come to, and goes there
pub record Gives (comes_to : Contents → Result (List ℕ) Refusal → Type 0) (sources : List Text) (target : Target) (old new : StoreShown)
    (result : Result Given Refusal) : Type 0 where
  pub answer : IsOutcomeBy comes_to old new (seen_by given_text result)
  pub goes : IfOk result (λ given. given_target given ≡ target)
  pub reads : Reads sources (is_ok result) old new

-- what a command gives
pub record IsGiven (command : CommandOf) (old new : StoreShown) (heard heard_after : Option (List ℕ)) (is_unread : Type 0)
    (result : Result Given Refusal) : Type 0 where
  pub gives : Gives (IsAnswer command heard heard_after) (sources_of command) (target_of command) old new result
  pub clock : IfUntimed command is_unread
  pub unasked : IfErr result (IsUnasked heard heard_after)

-- a text went to its target: whole, and nothing failed; or else a part of it. Nothing else was written: `is_silent` says that the
-- output is as it was
pub record Delivery {T E : Type 0} (target : Target) (text : List ℕ) (old new : StoreShown) (out_old out_new : SinkShown) (is_silent : Type 0)
    (result : Result T E) : Type 0 where
  pub whole : OnOk result (Tells old.files new.files (Delivers target out_old out_new text))
  pub part : OnErr result (Tells old.files new.files (DeliversPart target out_old out_new text))
  pub failed : OnErr result (FailsToWrite target old new out_old out_new)
  pub keeps : KeepsBut target old new
  pub opened : OpensAll (written_in target) old new
  pub aside : IfFile target is_silent
  pub later : old.faults ≤ new.faults
  pub store : OnOk result (new.faults ≡ old.faults)
  pub output : OnOk result (out_new.faults ≡ out_old.faults)

-- the command of words, if they stand for one, is done or refused; and what of the outside is opened, and what stays
pub record Obeys (command : Option CommandOf) (change : Change) (is_silent is_unread : Type 0) (outcome : Result (Unit {0}) Refusal) : Type 0 where
  pub ends : Ends command change outcome
  pub all : OnOk outcome (OpensAll (files_of command) change.before.store change.after.store)
  pub opened : OpensFirst (files_of command) change.before.store change.after.store
  pub keeps : KeepsBut (target_in command) change.before.store change.after.store
  pub untouched : IsUnwritten (status_after outcome) → KeepsAll change.before.store change.after.store
  pub silent : IsUnwritten (status_after outcome) → is_silent
  pub aside : IfFile (target_in command) is_silent
  pub clock : IfUntimedIn command is_unread
  pub unasked : IfErr outcome (IsUnasked change.before.heard change.after.heard)
