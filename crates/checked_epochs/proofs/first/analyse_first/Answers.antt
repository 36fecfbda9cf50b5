use Rattle.checked_epochs.proofs.FirstEpochs.{first_ahead}
use Rattle.checked_epochs.proofs.first.analyse_first.Goals as goal

pub returns-clause-found : goal.returns-clause-found
returns-clause-found g c =
    let t = c.in_ok-tracked.tracked in
    rw (c.new.ensures, ← c.in_ok-ticket.ensures.run, ← c.in_ok-ticket.ensures.ticket, ← c.past_last.ensures)
    (first_ahead c.args.query.now c.in_ok-ticket.checker c.past_last.result t c.in_ok-tracked.ensures.tracked)
