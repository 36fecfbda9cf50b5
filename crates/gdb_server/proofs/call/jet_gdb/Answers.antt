use Rattle.std.proofs.Common.{◌≡◌, ◌∙◌, sym, subst}
use Rattle.command_parts.specs.Saying.{Says}
use Rattle.command_parts.proofs.Statuses.{status_after-is_status, usage}
use Rattle.gdb_server.specs.Serving.{change, request_in, names_in, IsStatus}
use Rattle.gdb_server.proofs.Calling.{done, refused, decided, reads_by}
use Rattle.gdb_server.proofs.call.jet_gdb.Goals as goal

pub returns-clause-status : goal.returns-clause-status
returns-clause-status g c = subst IsStatus (sym c.conclude.ensures.status) (status_after-is_status c.obey-outcome.result)

pub returns-clause-usage : goal.returns-clause-usage
returns-clause-usage g c = λ e. c.obey-outcome.ensures.usage (usage c.obey-outcome.result (sym c.conclude.ensures.status ∙ e))

pub returns-clause-done : goal.returns-clause-done
returns-clause-done g c = λ e. done (request_in c.args.words.now)
    (change g.S.Store.shown g.W.Wire.shown c.args.store.now c.args.wire.now c.obey-outcome.new.store c.obey-outcome.new.wire)
    (c.obey-outcome.new.wire ≡ c.args.wire.now) c.obey-outcome.result c.obey-outcome.ensures.obeys.ends (sym c.conclude.ensures.status ∙ e)

pub returns-clause-refused : goal.returns-clause-refused
returns-clause-refused g c = refused (request_in c.args.words.now)
    (change g.S.Store.shown g.W.Wire.shown c.args.store.now c.args.wire.now c.obey-outcome.new.store c.obey-outcome.new.wire)
    (c.obey-outcome.new.wire ≡ c.args.wire.now) (Says (g.E.Sink.shown c.args.err.now) (g.E.Sink.shown c.conclude.new.err)) c.obey-outcome.result _
    c.conclude.ensures.status c.obey-outcome.ensures.obeys.ends c.conclude.ensures.says

pub returns-clause-decided : goal.returns-clause-decided
returns-clause-decided g c = decided (request_in c.args.words.now)
    (change g.S.Store.shown g.W.Wire.shown c.args.store.now c.args.wire.now c.obey-outcome.new.store c.obey-outcome.new.wire)
    (c.obey-outcome.new.wire ≡ c.args.wire.now) c.obey-outcome.result _ c.conclude.ensures.status c.obey-outcome.ensures.obeys.ends

pub returns-clause-so_far : goal.returns-clause-so_far
returns-clause-so_far g c = c.obey-outcome.ensures.obeys.so_far

pub returns-clause-reads : goal.returns-clause-reads
returns-clause-reads g c =
    reads_by (names_in (request_in c.args.words.now)) _ _ c.obey-outcome.result _ c.conclude.ensures.status c.obey-outcome.ensures.obeys.reads
