use Rattle.std.proofs.Common.{[], ◌∷◌, ◌++◌, reverse, IfOk, IfErr, ap, subst}
use Rattle.std.specs.List.{AllZip}
use Rattle.std.proofs.lemmas.Result.{err_from_is_err_and}
use Rattle.no_memory.specs.Faults.{IsCausedBy}
use Rattle.replayer.specs.InParts.{Differs}
use Rattle.local_taint.specs.Ahead.{IsFoundAhead}
use Rattle.summary_join.specs.First.{found_of}
use Rattle.checked_epochs.specs.declared.ahead.Next.{Next}
use Rattle.checked_epochs.specs.Aheads.{HasBegunInner, HasBegunLast, IsNext, left_of, stand_of}
use Rattle.checked_epochs.specs.Found.{IsFirstOf}
use Rattle.checked_epochs.proofs.Leading.{caused_before}
use Rattle.checked_epochs.proofs.FirstEpochs.{inner_ahead, only_ahead}
use Rattle.checked_epochs.proofs.working.analyse_epochs.Goals as goal

pub returns-in_err-later-in-Inner-clause-fault : goal.returns-in_err-later-in-Inner-clause-fault
returns-in_err-later-in-Inner-clause-fault g c =
    let log = c.args.log.now in
    let p = err_from_is_err_and c.from_residual-in_err-later-in-Inner.result c.from_residual-in_err-later-in-Inner.ensures.1 in
    let h : HasBegunInner log c.args.ahead c.in-Inner.beginning c.in-Inner.ahead = subst (λ (next : Next). IsNext log c.args.ahead next) c.in-Inner.is c.in_ok-beginning.ensures.next in
    let fault = subst (λ r. IfErr r (IsCausedBy (Differs (stand_of log c.in-Inner.ahead)))) c.in_err-later-in-Inner.was c.join-first.ensures.second.1.1 in
    rw (p.1, p.2) (caused_before (stand_of log c.args.ahead) (stand_of log c.in-Inner.ahead) c.in_err-later-in-Inner.field-0.0 h.leads fault)

pub returns-in_ok-first-in-Last-clause-found : goal.returns-in_ok-first-in-Last-clause-found
returns-in_ok-first-in-Last-clause-found g c =
    let log = c.args.log.now in
    let h : HasBegunLast log c.args.ahead c.in-Last.beginning = subst (λ (next : Next). IsNext log c.args.ahead next) c.in-Last.is c.in_ok-beginning.ensures.next in
    only_ahead c.args.query.now log c.args.ahead c.in-Last.beginning (found_of c.in_ok-first-in-Last.first) c.in_ok-first-in-Last.ensures.found (reverse c.new.result.items) h (ap reverse c.new.ensures.items)

pub returns-in_ok-first-in-Inner-clause-found : goal.returns-in_ok-first-in-Inner-clause-found
returns-in_ok-first-in-Inner-clause-found g c =
    let log = c.args.log.now in
    let h : HasBegunInner log c.args.ahead c.in-Inner.beginning c.in-Inner.ahead = subst (λ (next : Next). IsNext log c.args.ahead next) c.in-Inner.is c.in_ok-beginning.ensures.next in
    inner_ahead c.args.query.now log c.args.ahead c.in-Inner.beginning (found_of c.in_ok-first-in-Inner.field-0)
    (subst (λ r. IfOk r (IsFirstOf c.args.query.now log c.in-Inner.beginning)) c.in_ok-first-in-Inner.was c.join-first.ensures.first.0)
    c.in-Inner.ahead (reverse c.in_ok-later-in-Inner.later.items) h
    (subst (λ r. IfOk r (λ all. AllZip (IsFoundAhead c.args.query.now (stand_of log c.in-Inner.ahead)) (left_of c.in-Inner.ahead ++ c.in-Inner.ahead.last ∷ []) (reverse all.items))) c.in_ok-later-in-Inner.was c.join-first.ensures.second.0)
