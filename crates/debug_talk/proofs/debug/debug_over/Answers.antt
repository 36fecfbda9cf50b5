use Rattle.std.proofs.Common.{◌∙◌, subst}
use Rattle.std.proofs.lemmas.Result.{err_from_is_err_and}
use Rattle.outer_wire.specs.Talks.{Answers, Talks}
use Rattle.debug_talk.specs.Debugging.{answers_of}
use Rattle.debug_talk.proofs.Hearing.{at_beginning, not_begun}
use Rattle.debug_talk.proofs.debug.debug_over.Goals as goal

pub returns-in_err-travel : goal.returns-in_err-travel
returns-in_err-travel g c =
    let p = err_from_is_err_and c.from_residual.result c.from_residual.ensures.1 in
    rw (p.1, p.2) (not_begun (answers_of c.args.job.now c.args.time) (g.W.Wire.shown c.args.wire.now) _)

pub returns-in_err-session : goal.returns-in_err-session
returns-in_err-session g c =
    let p = err_from_is_err_and c.from_residual-in_err-session.result c.from_residual-in_err-session.ensures.1 in
    rw (p.1, p.2) (not_begun (answers_of c.args.job.now c.args.time) (g.W.Wire.shown c.args.wire.now) _)

pub returns : goal.returns
returns g c =
    subst (λ (a : Answers). Talks a (g.W.Wire.shown c.args.wire.now) (g.W.Wire.shown c.talk.new.wire) c.talk.result)
    (at_beginning c.new-listener.result.framer c.new-listener.result.session c.args.job.now c.args.time c.new-listener.ensures.framer (c.new-listener.ensures.session ∙ c.in_ok-session.ensures))
    c.talk.ensures
