use Rattle.std.proofs.Common.{refl}
use Rattle.jet_commands.specs.Plans.{command_in}
use Rattle.jet_commands.proofs.Obeying.{no_command, not_begun}
use Rattle.jet_commands.proofs.command.obey.Goals as goal

pub returns-in-Err-At-clause-obeys : goal.returns-in-Err-At-clause-obeys
returns-in-Err-At-clause-obeys g c =
    not_begun (command_in c.args.words.now) (g.S.Store.shown c.args.store.now) (g.O.Sink.shown c.args.out.now) (g.K.Clock.answers c.args.clock.now) _ _ _ refl refl
    (no_command (command_in c.args.words.now) _ (rw c.in-Err-At.field-0-is at c.in-Err-At.ensures.nothing))

pub returns-in-Err-NoMemory-clause-obeys : goal.returns-in-Err-NoMemory-clause-obeys
returns-in-Err-NoMemory-clause-obeys g c =
    not_begun (command_in c.args.words.now) (g.S.Store.shown c.args.store.now) (g.O.Sink.shown c.args.out.now) (g.K.Clock.answers c.args.clock.now) _ _ _ refl refl tt
