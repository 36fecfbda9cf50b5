-- A log that fits its program, or why it doesn't.
use Rattle.std.proofs.Common.{◌≡◌, ◌≢◌, ◌∙◌, ap, sym, ℕ, List, Bool, Some, None, Result, Ok, Err, if◌then◌else◌}
use Rattle.std.specs.Option.{ok_or}
use Rattle.std.specs.Str.{bytes_eq}
use Rattle.std.proofs.lemmas.Bool.{false_from_ne_true}
use Rattle.std.proofs.lemmas.Slice.Eq.{bytes_eq-Decides}
use Rattle.sha2.specs.Sha256.{sha256}
use Rattle.isa.specs.Machine.{State}
use Rattle.elf_model.specs.Window.{start_of}
use Rattle.log_model.specs.Logs.{Log}
use Rattle.replay_model.specs.declared.Divergence.{Divergence}
use Rattle.replay_model.specs.Comparison.{divergence}
use Rattle.jet_refusal.specs.declared.refusal.Refusal.{Refusal}
use Rattle.jet_refusal.specs.declared.refusal.Refusal.TheVariants as refusal
use Rattle.jet_model.specs.Outcomes.{and_then}
use Rattle.jet_model.specs.Contents.{Program}
use Rattle.jet_model.specs.Answer.{digest_check, start_in, unless_diverged, fitting_start}
use Rattle.jet_model.proofs.AndThen.{and_then-ok, and_then-err}
use Rattle.no_memory.specs.declared.Fault.{Fault}
use Rattle.no_memory.specs.declared.Fault.TheVariants.{At, NoMemory}
use Rattle.no_memory.specs.Faults.{IsCausedBy}
use Rattle.replay_model.specs.declared.Misfit.{Misfit}
use Rattle.replay_model.specs.declared.Misfit.TheVariants.{WrongProgram, Window, Diverged}
use Rattle.replayer.specs.Checks.{IsMisfit}
use Rattle.jet_refusal.specs.Faults.{misfit_refusal, IsRefusalOf}
use Rattle.command_parts.specs.Outcome.{IsWork}

abbrev digest_if : Bool → List ℕ → List ℕ → Result (Unit {0}) Refusal
digest_if b kept seen = if b then Ok tt else Err (refusal.Program kept seen)

module _ (program : Program) (log : Log) where
  abbrev rest : Result State Refusal
  rest = and_then (start_in program.image log.pages) (λ start. unless_diverged start (divergence start log))

  digest-same : log.digest ≡ sha256 program.bytes → fitting_start program log ≡ rest
  digest-same e = and_then-ok (digest_check program.bytes log) (λ same. rest) tt
      (ap (λ b. digest_if b log.digest (sha256 program.bytes)) ((bytes_eq-Decides log.digest (sha256 program.bytes)).1 e))

  begun : (start : State) → start_of program.image log.pages ≡ Some start → rest ≡ unless_diverged start (divergence start log)
  begun start e = and_then-ok (start_in program.image log.pages) (λ s. unless_diverged s (divergence s log)) start (ap (λ o. ok_or o (refusal.Window log.pages)) e)

  pub fitting_start-ok : (start : State) → log.digest ≡ sha256 program.bytes → start_of program.image log.pages ≡ Some start → divergence start log ≡ None
      → fitting_start program log ≡ Ok start
  fitting_start-ok start same begins agrees = digest-same same ∙ begun start begins ∙ ap (unless_diverged start) agrees

  pub fitting_start-other : (kept seen : List ℕ) → kept ≡ log.digest → seen ≡ sha256 program.bytes → kept ≢ seen → fitting_start program log ≡ Err (refusal.Program kept seen)
  fitting_start-other kept seen kept_is seen_is differ =
      and_then-err (digest_check program.bytes log) (λ same. rest) (refusal.Program kept seen)
      (ap (λ b. digest_if b log.digest (sha256 program.bytes))
      (false_from_ne_true (bytes_eq log.digest (sha256 program.bytes)) (λ t. differ (kept_is ∙ (bytes_eq-Decides log.digest (sha256 program.bytes)).0 t ∙ sym seen_is)))
      ∙ ap (λ k. Err (refusal.Program k (sha256 program.bytes))) (sym kept_is) ∙ ap (λ s. Err (refusal.Program kept s)) (sym seen_is))

  pub fitting_start-window : (pages : ℕ) → log.digest ≡ sha256 program.bytes → start_of program.image log.pages ≡ None → pages ≡ log.pages
      → fitting_start program log ≡ Err (refusal.Window pages)
  fitting_start-window pages same none is =
      digest-same same ∙ and_then-err (start_in program.image log.pages) (λ start. unless_diverged start (divergence start log)) (refusal.Window pages)
      (ap (λ o. ok_or o (refusal.Window log.pages)) none ∙ ap (λ n. Err (refusal.Window n)) (sym is))

  pub fitting_start-diverged : (start : State) (d : Divergence) → log.digest ≡ sha256 program.bytes → start_of program.image log.pages ≡ Some start → divergence start log ≡ Some d
      → fitting_start program log ≡ Err (refusal.Diverged d)
  fitting_start-diverged start d same begins first = digest-same same ∙ begun start begins ∙ ap (unless_diverged start) first

pub misfit-stops : (program : Program) (log : Log) (fault : Fault Misfit) (r : Refusal) → IsCausedBy (IsMisfit program.bytes program.image log) fault
    → IsRefusalOf (λ misfit given. given ≡ misfit_refusal misfit) fault r → IsWork (fitting_start program log) (Err r)
misfit-stops program log (At (WrongProgram kept seen)) r is gives = rw gives (fitting_start-other program log kept seen is.kept_is is.seen_is is.differ)
misfit-stops program log (At (Window window)) r is gives = rw gives (fitting_start-window program log window.pages is.digest is.none is.pages_are)
misfit-stops program log (At (Diverged d)) r is gives = rw gives (fitting_start-diverged program log is.start d is.digest is.begins is.first)
misfit-stops program log (NoMemory no_memory) r is gives = rw gives tt
