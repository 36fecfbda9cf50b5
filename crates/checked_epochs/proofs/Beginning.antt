-- The next epoch, begun where a check came to.
use Rattle.std.proofs.Common.{◌≡◌, ◌≤◌, List, [], ◌∷◌, ◌++◌, reverse, sym, ap, ◌∙◌, subst, arith}
use Rattle.log_model.specs.Logs.{Log, end_at}
use Rattle.epoch_cut.specs.Numbered.{NumberedEpoch}
use Rattle.replay_run.specs.Counters.{CountRecords}
use Rattle.replay_run.specs.Runs.{RunAt}
use Rattle.replayer.specs.InParts.{resumed}
use Rattle.replayer.specs.Saved.{SavedCursor}
use Rattle.checked_epochs.specs.declared.ahead.Beginning.{Beginning}
use Rattle.checked_epochs.specs.declared.ahead.Ahead.{Ahead}
use Rattle.checked_epochs.specs.Beginnings.{IsOfSome, HasComeTo, Leads}
use Rattle.checked_epochs.specs.Aheads.{Follow, IsAhead, HasBegunInner, HasBegunLast, left_of, stand_of}
use Rattle.checked_epochs.proofs.Following.{follow_late, follow_next, reverse_pop}
use Rattle.checked_epochs.proofs.Leading.{same_log, still_of_some}

module _ (log : Log) (old : Ahead) (a : IsAhead log old) where
  pub next_within : old.next ≤ end_at log.end
  next_within = omega (arith, follow_late old.next (left_of old) old.last.first a.follow, a.before_end)

  module _ (run : RunAt) (come : HasComeTo (stand_of log old) old.next run) where
    pub logs : run.log ≡ log
    logs = same_log (stand_of log old) run a.of_some come.leads

    counted : (saved : SavedCursor) → CountRecords run.log saved.counters → CountRecords log saved.counters
    counted saved h = subst (λ (l : Log). CountRecords l saved.counters) logs h

    here : (saved : SavedCursor) → resumed run.log saved ≡ run → resumed log saved ≡ run
    here saved h = subst (λ (l : Log). resumed l saved ≡ run) logs h

    time : (saved : SavedCursor) → resumed run.log saved ≡ run → saved.counters.time ≡ old.next
    time saved h = ap (λ (r : RunAt). r.moment.time) (here saved h) ∙ come.time

    led : (saved : SavedCursor) → resumed run.log saved ≡ run → Leads (stand_of log old) (resumed log saved)
    led saved h = subst (Leads (stand_of log old)) (sym (here saved h)) come.leads

    pub begun_inner : (rest : List NumberedEpoch) (b : Beginning) (new : Ahead) → old.left.items ≡ rest ++ b.ticket ∷ []
        → CountRecords run.log b.state.counters → resumed run.log b.state ≡ run → CountRecords run.log new.state.counters → resumed run.log new.state ≡ run
        → new.next ≡ b.ticket.past_last → new.left.items ≡ rest → new.last ≡ old.last → HasBegunInner log old b new
    begun_inner rest b new all b-counted b-again new-counted new-again next_is left_is last_is =
        let next = follow_next old.next old.left.items rest b.ticket old.last.first all a.follow in
        let last_first : new.last.first ≡ old.last.first = ap (λ (l : NumberedEpoch). l.first) last_is in
        record {
          begun = record {
            counted = counted b.state b-counted;
            begins = time b.state b-again ∙ sym next.begins;
            later = next.later;
            ends = omega (arith, next.within, a.before_end);
          };
          led = led b.state b-again;
          ahead = record {
            counted = counted new.state new-counted;
            of_some = subst IsOfSome (sym (here new.state new-again)) (still_of_some (stand_of log old) run a.of_some come.leads);
            before = omega (arith, time new.state new-again, next.begins, next.later, next_is);
            follow = rw (next_is, left_is, last_first) next.follow;
            before_end = omega (arith, last_first, a.before_end);
            ends = ap (λ (l : NumberedEpoch). l.past_last) last_is ∙ a.ends;
          };
          leads = led new.state new-again;
          epochs = ap (λ es. b.ticket ∷ reverse es) left_is ∙ sym (reverse_pop old.left.items rest b.ticket all);
          last = last_is;
        }

    pub begun_last : (b : Beginning) → old.left.items ≡ [] → CountRecords run.log b.state.counters → resumed run.log b.state ≡ run → b.ticket ≡ old.last
        → HasBegunLast log old b
    begun_last b none b-counted b-again is_last =
        let no_left : left_of old ≡ [] = ap reverse none in
        let begins : old.next ≡ old.last.first = subst (λ (es : List NumberedEpoch). Follow old.next es old.last.first) no_left a.follow in
        let first : b.ticket.first ≡ old.last.first = ap (λ (l : NumberedEpoch). l.first) is_last in
        record {
          begun = record {
            counted = counted b.state b-counted;
            begins = time b.state b-again ∙ begins ∙ sym first;
            before_end = omega (arith, first, a.before_end);
            ends = ap (λ (l : NumberedEpoch). l.past_last) is_last ∙ a.ends;
          };
          led = led b.state b-again;
          none = no_left;
          is_last = is_last;
        }
