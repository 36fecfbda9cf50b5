use Rattle.std.proofs.Common.{refl}
use Rattle.gdb_words.specs.Requests.{plain_request}
use Rattle.gdb_server.specs.Serving.{change, request_in}
use Rattle.gdb_server.proofs.Calling.{obeyed, no_request, not_begun}
use Rattle.gdb_server.proofs.call.obey.Goals as goal

pub returns-in-Ok-clause-obeys : goal.returns-in-Ok-clause-obeys
returns-in-Ok-clause-obeys g c = obeyed (request_in c.args.words.now) _ _ (plain_request c.in-Ok.request) c.serve.result c.in-Ok.ensures.request c.serve.ensures

pub returns-in-Err-At-clause-obeys : goal.returns-in-Err-At-clause-obeys
returns-in-Err-At-clause-obeys g c =
    no_request (request_in c.args.words.now) (change g.S.Store.shown g.W.Wire.shown c.args.store.now c.args.wire.now c.args.store.now c.args.wire.now) _ (rw c.in-Err-At.field-0-is at c.in-Err-At.ensures.nothing) refl refl

pub returns-in-Err-NoMemory-clause-obeys : goal.returns-in-Err-NoMemory-clause-obeys
returns-in-Err-NoMemory-clause-obeys g c =
    not_begun (request_in c.args.words.now) (change g.S.Store.shown g.W.Wire.shown c.args.store.now c.args.wire.now c.args.store.now c.args.wire.now) _ _ refl refl
