use Rattle.std.proofs.Common.{◌∙◌, sym, subst}
use Rattle.jet_commands.specs.Plans.{command_in}
use Rattle.outer_io.specs.Outside.{change}
use Rattle.command_parts.specs.Saying.{Says}
use Rattle.jet_commands.specs.Ending.{IsUnwritten}
use Rattle.jet_cli.specs.Statuses.{IsStatus}
use Rattle.jet_cli.proofs.Ending as ending
use Rattle.command_parts.proofs.Statuses.{status_after-is_status, usage}
use Rattle.jet_cli.proofs.run.jet.Goals as goal

pub returns-clause-status : goal.returns-clause-status
returns-clause-status g c = subst IsStatus (sym c.conclude.ensures.status) (status_after-is_status c.obey-outcome.result)

pub returns-clause-usage : goal.returns-clause-usage
returns-clause-usage g c = λ e. c.obey-outcome.ensures.usage (usage c.obey-outcome.result (sym c.conclude.ensures.status ∙ e))

pub returns-clause-done : goal.returns-clause-done
returns-clause-done g c = λ e. ending.done (command_in c.args.words.now)
    (change g.S.Store.shown g.O.Sink.shown g.K.Clock.answers c.args.store.now c.args.out.now c.args.clock.now c.obey-outcome.new.store c.obey-outcome.new.out c.obey-outcome.new.clock)
    c.obey-outcome.result c.obey-outcome.ensures.obeys.ends (sym c.conclude.ensures.status ∙ e)

pub returns-clause-all : goal.returns-clause-all
returns-clause-all g c = λ e. ending.where_done _ c.obey-outcome.result c.obey-outcome.ensures.obeys.all (sym c.conclude.ensures.status ∙ e)

pub returns-clause-refused : goal.returns-clause-refused
returns-clause-refused g c = ending.refused _ _ (Says (g.E.Sink.shown c.args.err.now) (g.E.Sink.shown c.conclude.new.err)) c.obey-outcome.result _ c.conclude.ensures.status c.obey-outcome.ensures.obeys.ends c.conclude.ensures.says c.obey-outcome.ensures.obeys.unasked

pub returns-clause-part : goal.returns-clause-part
returns-clause-part g c = λ e. ending.part (command_in c.args.words.now)
    (change g.S.Store.shown g.O.Sink.shown g.K.Clock.answers c.args.store.now c.args.out.now c.args.clock.now c.obey-outcome.new.store c.obey-outcome.new.out c.obey-outcome.new.clock)
    c.obey-outcome.result c.obey-outcome.ensures.obeys.ends (sym c.conclude.ensures.status ∙ e)

pub returns-clause-decided : goal.returns-clause-decided
returns-clause-decided g c = ending.decided (command_in c.args.words.now)
    (change g.S.Store.shown g.O.Sink.shown g.K.Clock.answers c.args.store.now c.args.out.now c.args.clock.now c.obey-outcome.new.store c.obey-outcome.new.out c.obey-outcome.new.clock)
    c.obey-outcome.result _ c.conclude.ensures.status c.obey-outcome.ensures.obeys.ends

pub returns-clause-complete : goal.returns-clause-complete
returns-clause-complete g c = ending.complete (command_in c.args.words.now)
    (change g.S.Store.shown g.O.Sink.shown g.K.Clock.answers c.args.store.now c.args.out.now c.args.clock.now c.obey-outcome.new.store c.obey-outcome.new.out c.obey-outcome.new.clock)
    c.obey-outcome.result _ c.conclude.ensures.status c.obey-outcome.ensures.obeys.ends

pub returns-clause-opened : goal.returns-clause-opened
returns-clause-opened g c = c.obey-outcome.ensures.obeys.opened

pub returns-clause-keeps : goal.returns-clause-keeps
returns-clause-keeps g c = c.obey-outcome.ensures.obeys.keeps

pub returns-clause-untouched : goal.returns-clause-untouched
returns-clause-untouched g c = λ unwritten. c.obey-outcome.ensures.obeys.untouched (subst IsUnwritten c.conclude.ensures.status unwritten)

pub returns-clause-silent : goal.returns-clause-silent
returns-clause-silent g c = λ unwritten. c.obey-outcome.ensures.obeys.silent (subst IsUnwritten c.conclude.ensures.status unwritten)

pub returns-clause-aside : goal.returns-clause-aside
returns-clause-aside g c = c.obey-outcome.ensures.obeys.aside

pub returns-clause-clock : goal.returns-clause-clock
returns-clause-clock g c = c.obey-outcome.ensures.obeys.clock
