use Rattle.std.proofs.Common.{refl}
use Rattle.checked_epochs.proofs.Beginning.{next_within, begun_inner}
use Rattle.checked_epochs.proofs.ahead.begin_next.Goals as goal

pub come_to-requires-clause-within : goal.come_to-requires-clause-within
come_to-requires-clause-within c = next_within c.args.log.now c.args.ahead c.requires

pub returns-clause-next : goal.returns-clause-next
returns-clause-next c =
    begun_inner c.args.log.now c.args.ahead c.requires c.in_ok-checker.checker c.in_ok-checker.ensures.come c.pop.new.self.items _ _ c.in-Some.ensures.items
    c.in_ok-state.ensures.counted c.in_ok-state.ensures.again c.into_state.ensures.counted c.into_state.ensures.again c.past_last-next.ensures refl refl
