use Rattle.local_taint.proofs.Tracked.{summarized_of}
use Rattle.local_taint.proofs.ahead.summarized.Goals as goal

pub returns : goal.returns
returns c =
    rw (← c.watching.view_is)
    (summarized_of (record { first = c.watching.inside.first; tracking = c.watching.inside.watching }) c.in_ok-tracked.tracked c.args.number c.summarize.result c.summarize.ensures.number c.in_ok-tracked.ensures.found
    c.summarize.ensures.summary)
