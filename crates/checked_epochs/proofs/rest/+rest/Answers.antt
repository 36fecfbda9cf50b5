use Rattle.std.proofs.Common.{◌++◌, ◌∷◌, [], reverse, IfOk, IfErr, subst, ◌∙◌, ap}
use Rattle.std.specs.List.{AllZip}
use Rattle.std.proofs.lemmas.Result.{err_from_is_err_and}
use Rattle.no_memory.specs.Faults.{IsCausedBy}
use Rattle.replayer.specs.InParts.{Differs}
use Rattle.local_taint.specs.Ahead.{IsFoundAhead}
use Rattle.checked_epochs.specs.declared.ahead.Next.{Next}
use Rattle.checked_epochs.specs.Beginnings.{IsFoundOf, run_of}
use Rattle.checked_epochs.specs.Aheads.{HasBegunInner, HasBegunLast, IsNext, left_of, stand_of}
use Rattle.checked_epochs.proofs.Leading.{caused_before}
use Rattle.checked_epochs.proofs.Resting.{inner_found, last_found}
use Rattle.checked_epochs.proofs.rest.+rest.Goals as goal

pub returns-in_err-analyse_last-in-Last-clause-fault : goal.returns-in_err-analyse_last-in-Last-clause-fault
returns-in_err-analyse_last-in-Last-clause-fault g n c =
    let log = c.args.log.now in
    let p = err_from_is_err_and c.from_residual-in_err-analyse_last-in-Last.result c.from_residual-in_err-analyse_last-in-Last.ensures.1 in
    let h : HasBegunLast log c.args.ahead c.in-Last.beginning = subst (λ (next : Next). IsNext log c.args.ahead next) c.in-Last.is c.in_ok-beginning.ensures.next in
    rw (p.1, p.2) (caused_before (stand_of log c.args.ahead) (run_of log c.in-Last.beginning) c.in_err-analyse_last-in-Last.field-0.0 h.led c.in_err-analyse_last-in-Last.ensures.fault)

pub returns-in_err-all-in-Inner-clause-fault : goal.returns-in_err-all-in-Inner-clause-fault
returns-in_err-all-in-Inner-clause-fault g n c =
    let log = c.args.log.now in
    let p = err_from_is_err_and c.from_residual-in_err-all-in-Inner.result c.from_residual-in_err-all-in-Inner.ensures.1 in
    let h : HasBegunInner log c.args.ahead c.in-Inner.beginning c.in-Inner.ahead = subst (λ (next : Next). IsNext log c.args.ahead next) c.in-Inner.is c.in_ok-beginning.ensures.next in
    let fault = subst (λ r. IfErr r (IsCausedBy (Differs (stand_of log c.in-Inner.ahead)))) c.in_err-all-in-Inner.was c.join-found.ensures.second.1.1 in
    rw (p.1, p.2) (caused_before (stand_of log c.args.ahead) (stand_of log c.in-Inner.ahead) c.in_err-all-in-Inner.field-0.0 h.leads fault)

pub returns-in_err-found-in-Inner-clause-fault : goal.returns-in_err-found-in-Inner-clause-fault
returns-in_err-found-in-Inner-clause-fault g n c =
    let log = c.args.log.now in
    let p = err_from_is_err_and c.from_residual-in_err-found-in-Inner.result c.from_residual-in_err-found-in-Inner.ensures.1 in
    let h : HasBegunInner log c.args.ahead c.in-Inner.beginning c.in-Inner.ahead = subst (λ (next : Next). IsNext log c.args.ahead next) c.in-Inner.is c.in_ok-beginning.ensures.next in
    let fault = subst (λ r. IfErr r (IsCausedBy (Differs (run_of log c.in-Inner.beginning)))) c.in_err-found-in-Inner.was c.join-found.ensures.first.1 in
    rw (p.1, p.2) (caused_before (stand_of log c.args.ahead) (run_of log c.in-Inner.beginning) c.in_err-found-in-Inner.field-0.0 h.led fault)

pub returns-in_ok-push-in-Last-clause-found : goal.returns-in_ok-push-in-Last-clause-found
returns-in_ok-push-in-Last-clause-found g n c =
    let log = c.args.log.now in
    let h : HasBegunLast log c.args.ahead c.in-Last.beginning = subst (λ (next : Next). IsNext log c.args.ahead next) c.in-Last.is c.in_ok-beginning.ensures.next in
    last_found c.args.query.now log c.args.ahead c.in-Last.beginning c.in_ok-analyse_last-in-Last.field-0 c.push.new.self.items h c.in_ok-analyse_last-in-Last.ensures.found
    (c.in_ok-push-in-Last.ensures.items ∙ ap (λ es. es ++ c.in_ok-analyse_last-in-Last.field-0 ∷ []) c.new-all.ensures.items)

pub returns-in_ok-push-in-Inner-clause-found : goal.returns-in_ok-push-in-Inner-clause-found
returns-in_ok-push-in-Inner-clause-found g n c =
    let log = c.args.log.now in
    let h : HasBegunInner log c.args.ahead c.in-Inner.beginning c.in-Inner.ahead = subst (λ (next : Next). IsNext log c.args.ahead next) c.in-Inner.is c.in_ok-beginning.ensures.next in
    inner_found c.args.query.now log c.args.ahead c.in-Inner.beginning c.in-Inner.ahead c.in_ok-found-in-Inner.field-0 c.in_ok-all-in-Inner.all.items c.push-in-Inner.new.self.items h
    (subst (λ r. IfOk r (IsFoundOf c.args.query.now log c.in-Inner.beginning)) c.in_ok-found-in-Inner.was c.join-found.ensures.first.0)
    (subst (λ r. IfOk r (λ all. AllZip (IsFoundAhead c.args.query.now (stand_of log c.in-Inner.ahead)) (left_of c.in-Inner.ahead ++ c.in-Inner.ahead.last ∷ []) (reverse all.items))) c.in_ok-all-in-Inner.was c.join-found.ensures.second.0)
    c.in_ok-push-in-Inner.ensures.items
