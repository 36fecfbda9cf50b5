-- From what an arm of `answer` calls to what the command gives.
use Rattle.std.proofs.Common.{◌∙◌, ap, refl, ℕ, List, Option, Result, Ok, Err, IfErr, inr, ◌≡◌, sym, subst, Bool, true, false}
use Rattle.outer_io.specs.Tells.{Tells}
use Rattle.std.specs.Result.{IsErrAnd}
use Rattle.outer_io.specs.Files.{Files, Text, KeepsFiles}
use Rattle.outer_io.specs.Reads.{Reads}
use Rattle.outer_io.proofs.TellsLemmas.{tells-then, tells-same, tells-nothing}
use Rattle.outer_io.proofs.ReadsLemmas.{keeps-none, keeps-then as keep-then}
use Rattle.jet_refusal.specs.declared.refusal.Refusal.{Refusal}
use Rattle.jet_model.specs.Contents.{Contents}
use Rattle.jet_commands.specs.Targets.{Target, ToOutput, ToFile, IfFile, KeepsAllBut}
use Rattle.command_parts.specs.Outcome.{IsOutcomeBy}
use Rattle.jet_commands.specs.Ending.{IsUnasked}
use Rattle.outer_io.specs.Shown.{StoreShown}
use Rattle.jet_words.specs.declared.command.Command.{Command}
use Rattle.jet_words.specs.Commands.{plain_command}
use Rattle.jet_commands.specs.Plans.{IsAnswer, plan_of, sources_of, target_of, Unless}
use Rattle.jet_commands.specs.Obeying.{Gives, IsGiven}
use Rattle.jet_commands.specs.declared.delivery.Given.{Given}

-- all files are kept, and then all but the one that is written
pub keeps-then : (target : Target) (f g h : Option Files) → Tells f g KeepsFiles → Tells g h (KeepsAllBut target) → Tells f h (KeepsAllBut target)
keeps-then ToOutput f g h = keep-then f g h
keeps-then (ToFile name) f g h = tells-then f g h KeepsFiles (KeepsAllBut (ToFile name)) (KeepsAllBut (ToFile name))
    (λ x y z p q. λ other differs. q other differs ∙ ap (λ (file : Contents). file other) p.file)

-- where nothing happens, all are kept
pub keeps : (target : Target) (f : Option Files) → Tells f f (KeepsAllBut target)
keeps ToOutput f = keeps-none f
keeps (ToFile name) f = tells-same f (KeepsAllBut (ToFile name)) (λ x. λ other differs. refl)

-- where the clock is as it was, it was not asked
pub unasked : {A : Type 0} (heard : Option (List ℕ)) (r : Result A Refusal) → IfErr r (IsUnasked heard heard)
unasked heard (Ok x) = tt
unasked heard (Err r) = inr (tells-nothing heard)

-- a text that is there is so for each target
pub if_file : (target : Target) (P : Type 0) → P → IfFile target P
if_file ToOutput P p = tt
if_file (ToFile name) P p = p

-- the clock is as it was, whether it may be asked or not
pub untimed-always : (is_timed : Bool) (P : Type 0) → P → Unless is_timed P
untimed-always true P p = tt
untimed-always false P p = p

-- a refusal is passed on, and nothing is given
pub passes : {comes_to : Contents → Result (List ℕ) Refusal → Type 0} {sources : List Text} {target : Target} {f h : StoreShown} (result : Result Given Refusal) (r : Refusal) → IsErrAnd result (λ e. e ≡ r)
    → IsOutcomeBy comes_to f h (Err r) → Reads sources false f h → Gives comes_to sources target f h result
passes (Ok given) r is answer reads = absurd is
passes (Err e) r is answer reads = rw is (record { answer = answer; goes = tt; reads = reads })

-- what is given of the command that an arm tells is given of the command that was handed in
pub by_arm : (f h : StoreShown) (heard heard_after : Option (List ℕ)) (unread : Type 0) (result : Result Given Refusal) {handed arm : Command} → handed ≡ arm
    → IsGiven (plain_command arm) f h heard heard_after unread result → IsGiven (plain_command handed) f h heard heard_after unread result
by_arm f h heard heard_after unread result e p =
    subst (λ (command : Command). IsGiven (plain_command command) f h heard heard_after unread result) (sym e) p

-- and the clock is as it was
pub untimed : (f h : StoreShown) (heard : Option (List ℕ)) (unread : Type 0) (result : Result Given Refusal) {handed arm : Command} → handed ≡ arm → unread
    → Gives (IsAnswer (plain_command arm) heard heard) (sources_of (plain_command arm)) (target_of (plain_command arm)) f h result
    → IsGiven (plain_command handed) f h heard heard unread result
untimed f h heard unread result {handed} {arm} e is_unread gives = by_arm f h heard heard unread result e (record {
  gives = gives;
  clock = untimed-always (plan_of (plain_command arm)).is_timed unread is_unread;
  unasked = unasked heard result;
})
