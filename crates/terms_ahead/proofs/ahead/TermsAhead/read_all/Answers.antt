use Rattle.std.proofs.Common.{ap, map, ◌∙◌}
use Rattle.merge_log.specs.Log.{terms}
use Rattle.terms_ahead.proofs.Held.{held_read}
use Rattle.terms_ahead.proofs.ahead.TermsAhead.read_all.Goals as goal

pub returns-clause-read : goal.returns-clause-read
returns-clause-read c =
    let log = c.args.log.now in
    held_read log c.args.next.items _ 0 c.args.node _ (c.in_ok-read.ensures ∙ ap (map (terms log)) c.deref.ensures.value) c.requires.next.first c.in_ok-copy.ensures
