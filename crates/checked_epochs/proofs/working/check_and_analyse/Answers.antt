use Rattle.std.proofs.Common.{ℕ, List, [], ◌∷◌, ◌++◌, sym, subst}
use Rattle.epoch_summary.specs.declared.summary.Summary.{Summary}
use Rattle.no_memory.specs.declared.Fault.{Fault}
use Rattle.no_memory.specs.Faults.{IsCausedBy}
use Rattle.replay_model.specs.declared.Divergence.{Divergence}
use Rattle.replayer.specs.Checks.{IsDiverged}
use Rattle.replayer.specs.Cursors.{Stands}
use Rattle.replayer.specs.InParts.{Differs}
use Rattle.summary_join.specs.First.{found_of}
use Rattle.checked_epochs.specs.Aheads.{left_of, stand_of}
use Rattle.checked_epochs.specs.Found.{AreAllAhead}
use Rattle.checked_epochs.proofs.Opening.{agrees_opened, diverged_of}
use Rattle.checked_epochs.proofs.FirstEpochs.{all_of_cuts}
use Rattle.checked_epochs.proofs.working.check_and_analyse.Goals as goal

pub returns-in-Ok-clause-found : goal.returns-in-Ok-clause-found
returns-in-Ok-clause-found g c =
    let q = c.args.query.now in
    let ahead = c.in_ok-ahead.ahead in
    let run = stand_of c.args.log ahead in
    let epochs = left_of ahead ++ ahead.last ∷ [] in
    let first = found_of c.in-Ok.first in
    let agrees = agrees_opened c.deref.result.now c.args.program.image c.args.log run c.in_ok-ahead.ensures.opened in
    all_of_cuts q c.whole.result run (subst (λ job. Stands job run) (sym c.whole.ensures) agrees.stands) epochs first c.reverse.new.self.items
    (subst (λ (later : List Summary). AreAllAhead q run epochs first later) (sym c.reverse.ensures.items) c.in-Ok.ensures.found) c.args.cuts c.in_ok-ahead.ensures.epochs

pub returns-in-Err-At-clause-fault : goal.returns-in-Err-At-clause-fault
returns-in-Err-At-clause-fault g c =
    let run = stand_of c.args.log c.in_ok-ahead.ahead in
    subst (λ (bytes : List ℕ). IsDiverged bytes c.args.program.image c.args.log c.in-Err-At.divergence) c.deref.ensures.value
    (diverged_of c.deref.result.now c.args.program.image c.args.log run c.in_ok-ahead.ensures.opened c.in-Err-At.divergence
    (subst (λ (fault : Fault Divergence). IsCausedBy (Differs run) fault) c.in-Err-At.field-0-is c.in-Err-At.ensures.fault))
