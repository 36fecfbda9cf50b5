-- What is found of the epochs that are left.
use Rattle.std.proofs.Common.{◌≡◌, ◌+◌, List, [], ◌∷◌, ◌++◌, length, reverse, sym, ap, ◌∙◌, subst, arith}
use Rattle.std.specs.List.{AllZip}
use Rattle.std.proofs.lemmas.List.{length-reverse}
use Rattle.log_model.specs.Logs.{Log}
use Rattle.report_model.specs.Query.{Query}
use Rattle.replay_run.specs.Runs.{RunAt}
use Rattle.epoch_cut.specs.Numbered.{NumberedEpoch}
use Rattle.epoch_summary.specs.declared.summary.Summary.{Summary}
use Rattle.local_taint.specs.Ahead.{IsFoundAhead}
use Rattle.checked_epochs.specs.declared.ahead.Beginning.{Beginning}
use Rattle.checked_epochs.specs.declared.ahead.Ahead.{Ahead}
use Rattle.checked_epochs.specs.Beginnings.{IsFoundOf, Leads, run_of}
use Rattle.checked_epochs.specs.Aheads.{HasBegunInner, HasBegunLast, left_of, stand_of}
use Rattle.checked_epochs.proofs.Following.{reverse_pop}
use Rattle.checked_epochs.proofs.Leading.{found_before}

-- so fewer epochs are left
pub fewer_left : (log : Log) (old : Ahead) (b : Beginning) (new : Ahead) → HasBegunInner log old b new → length new.left.items + 1 ≡ length old.left.items
fewer_left log old b new h =
    omega (arith, ap (λ (es : List NumberedEpoch). length es) h.epochs, length-reverse new.left.items, length-reverse old.left.items)

-- the epoch that is begun is the first of those that were left
pub inner_epochs : (log : Log) (old : Ahead) (b : Beginning) (new : Ahead) → HasBegunInner log old b new → b.ticket ∷ left_of new ++ new.last ∷ [] ≡ left_of old ++ old.last ∷ []
inner_epochs log old b new h = ap (λ es. es ++ new.last ∷ []) h.epochs ∙ ap (λ l. left_of old ++ l ∷ []) h.last

pub last_epochs : (log : Log) (old : Ahead) (b : Beginning) → HasBegunLast log old b → b.ticket ∷ [] ≡ left_of old ++ old.last ∷ []
last_epochs log old b h = ap (λ l. l ∷ []) h.is_last ∙ ap (λ es. es ++ old.last ∷ []) (sym h.none)

module _ (q : Query) (log : Log) where
  pub all_before : (before after : RunAt) (ts : List NumberedEpoch) (es : List Summary) → Leads before after → AllZip (IsFoundAhead q after) ts es
      → AllZip (IsFoundAhead q before) ts es
  all_before before after [] [] leads z = tt
  all_before before after (t ∷ ts) (e ∷ es) leads z = (found_before q before after t e leads z.0, all_before before after ts es leads z.1)
  all_before before after [] (e ∷ es) leads z = absurd z
  all_before before after (t ∷ ts) [] leads z = absurd z

  pub inner_found : (old : Ahead) (b : Beginning) (new : Ahead) (e : Summary) (rest all : List Summary) → HasBegunInner log old b new → IsFoundOf q log b e
      → AllZip (IsFoundAhead q (stand_of log new)) (left_of new ++ new.last ∷ []) (reverse rest) → all ≡ rest ++ e ∷ []
      → AllZip (IsFoundAhead q (stand_of log old)) (left_of old ++ old.last ∷ []) (reverse all)
  inner_found old b new e rest all h one z is_all =
      let first = found_before q (stand_of log old) (run_of log b) b.ticket e h.led one in
      let others = all_before (stand_of log old) (stand_of log new) (left_of new ++ new.last ∷ []) (reverse rest) h.leads z in
      let found : AllZip (IsFoundAhead q (stand_of log old)) (left_of old ++ old.last ∷ []) (e ∷ reverse rest) =
      subst (λ (ts : List NumberedEpoch). AllZip (IsFoundAhead q (stand_of log old)) ts (e ∷ reverse rest)) (inner_epochs log old b new h) (first, others) in
      subst (AllZip (IsFoundAhead q (stand_of log old)) (left_of old ++ old.last ∷ [])) (sym (reverse_pop all rest e is_all)) found

  pub last_found : (old : Ahead) (b : Beginning) (e : Summary) (all : List Summary) → HasBegunLast log old b → IsFoundOf q log b e → all ≡ e ∷ []
      → AllZip (IsFoundAhead q (stand_of log old)) (left_of old ++ old.last ∷ []) (reverse all)
  last_found old b e all h one is_all =
      let first = found_before q (stand_of log old) (run_of log b) b.ticket e h.led one in
      let found : AllZip (IsFoundAhead q (stand_of log old)) (left_of old ++ old.last ∷ []) (e ∷ []) =
      subst (λ (ts : List NumberedEpoch). AllZip (IsFoundAhead q (stand_of log old)) ts (e ∷ [])) (last_epochs log old b h) (first, tt) in
      subst (AllZip (IsFoundAhead q (stand_of log old)) (left_of old ++ old.last ∷ [])) (ap reverse (sym is_all)) found
