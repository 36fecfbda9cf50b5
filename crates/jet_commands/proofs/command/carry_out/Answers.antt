use Rattle.std.proofs.Common.{refl, Some}
use Rattle.std.proofs.lemmas.Result.{err_from_is_err_and}
use Rattle.outer_io.proofs.ReadsLemmas.{reads-stops}
use Rattle.jet_words.specs.Commands.{plain_command}
use Rattle.jet_commands.specs.Targets.{written_in}
use Rattle.jet_commands.specs.Plans.{target_of}
use Rattle.jet_commands.proofs.Obeying.{not_answered, not_begun, stopped, written, not_written}
use Rattle.jet_commands.proofs.command.carry_out.Goals as goal

pub returns-in_err-buffer : goal.returns-in_err-buffer
returns-in_err-buffer g c =
    let p = err_from_is_err_and c.from_residual.result c.from_residual.ensures.1 in
    rw (p.1, p.2.is)
    (not_begun (Some (plain_command c.args.command.now)) (g.S.Store.shown c.args.store.now) (g.O.Sink.shown c.args.out.now) (g.K.Clock.answers c.args.clock.now) _ _ _ refl refl tt)

pub returns-in_err-given : goal.returns-in_err-given
returns-in_err-given g c =
    let command = plain_command c.args.command.now in
    let f = g.S.Store.shown c.args.store.now in
    let h = g.S.Store.shown c.answer.new.store in
    let o = g.O.Sink.shown c.args.out.now in
    let heard = g.K.Clock.answers c.args.clock.now in
    let heard_after = g.K.Clock.answers c.answer.new.clock in
    let r = c.in_err-given.field-0.0 in
    let is = c.in_err-given.ensures in
    let p = err_from_is_err_and c.from_residual-in_err-given.result c.from_residual-in_err-given.ensures.1 in
    rw (p.1, p.2)
    (stopped (Some command) f h o heard heard_after _ _ refl r (not_answered command f f h o o heard heard_after r is.gives.answer) is.gives.reads.keeps
    ((reads-stops (written_in (target_of command)) is.gives.reads).opened) is.clock is.unasked)

pub returns-in-Ok : goal.returns-in-Ok
returns-in-Ok g c =
    written (plain_command c.args.command.now) (g.S.Store.shown c.args.store.now) (g.S.Store.shown c.answer.new.store) (g.S.Store.shown c.deliver.new.store) (g.O.Sink.shown c.args.out.now) (g.O.Sink.shown c.deliver.new.out)
    (g.K.Clock.answers c.args.clock.now) (g.K.Clock.answers c.answer.new.clock) _ _ c.in_ok-given.given c.in_ok-given.ensures tt c.in-Ok.ensures

pub returns : goal.returns
returns g c =
    not_written (plain_command c.args.command.now) (g.S.Store.shown c.args.store.now) (g.S.Store.shown c.answer.new.store) (g.S.Store.shown c.deliver.new.store) (g.O.Sink.shown c.args.out.now) (g.O.Sink.shown c.deliver.new.out)
    (g.K.Clock.answers c.args.clock.now) (g.K.Clock.answers c.answer.new.clock) _ _ c.in_ok-given.given c.in_ok-given.ensures _ c.in-Err.ensures
