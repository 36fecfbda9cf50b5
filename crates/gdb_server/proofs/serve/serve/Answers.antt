use Rattle.std.proofs.Common.{refl, false}
use Rattle.std.proofs.lemmas.Result.{err_from_is_err_and}
use Rattle.outer_io.proofs.ReadsLemmas.{reads-less}
use Rattle.gdb_words.specs.Requests.{plain_request}
use Rattle.command_parts.specs.Views.{run_of}
use Rattle.gdb_server.specs.Serving.{change}
use Rattle.gdb_server.proofs.Serving.{no_job, a_job, refused, out_of_memory, served, not_received, not_sent, no_memory_left}
use Rattle.gdb_server.proofs.serve.serve.Goals as goal

pub returns-in_err-job : goal.returns-in_err-job
returns-in_err-job g c =
    let request = plain_request c.args.request in
    let f = g.S.Store.shown c.args.store.now in
    let h = g.S.Store.shown c.open_run.new.store in
    let p = err_from_is_err_and c.from_residual-in_err-job.result c.from_residual-in_err-job.ensures.1 in
    rw (p.1, p.2)
    (refused request (change g.S.Store.shown g.W.Wire.shown c.args.store.now c.args.wire.now c.open_run.new.store c.args.wire.now) _ refl c.in_err-job.field-0.0
    (no_job request (run_of c.in_ok-run.run') f h c.in_err-job.field-0.0 c.in_ok-run.ensures.outcome c.in_err-job.ensures.err) (reads-less false c.in_ok-run.ensures.reads))

pub returns-in_err-checkpoints : goal.returns-in_err-checkpoints
returns-in_err-checkpoints g c =
    let p = err_from_is_err_and c.from_residual-in_err-checkpoints.result c.from_residual-in_err-checkpoints.ensures.1 in
    rw (p.1, p.2)
    (out_of_memory (plain_request c.args.request) (change g.S.Store.shown g.W.Wire.shown c.args.store.now c.args.wire.now c.open_run.new.store c.args.wire.now) _ refl _
    (reads-less false c.in_ok-run.ensures.reads))

pub returns-in-Ok : goal.returns-in-Ok
returns-in-Ok g c =
    let request = plain_request c.args.request in
    let f = g.S.Store.shown c.args.store.now in
    let h = g.S.Store.shown c.open_run.new.store in
    served request (change g.S.Store.shown g.W.Wire.shown c.args.store.now c.args.wire.now c.open_run.new.store c.debug_over.new.wire) c.in_ok-job.job
    (a_job request (run_of c.in_ok-run.run') c.in_ok-job.job f h c.in_ok-run.ensures.outcome c.in_ok-job.ensures.checked) _ c.in_ok-run.ensures.reads c.in-Ok.ensures

pub returns-in-Err-At-Receiving : goal.returns-in-Err-At-Receiving
returns-in-Err-At-Receiving g c =
    let request = plain_request c.args.request in
    let f = g.S.Store.shown c.args.store.now in
    let h = g.S.Store.shown c.open_run.new.store in
    not_received request (change g.S.Store.shown g.W.Wire.shown c.args.store.now c.args.wire.now c.open_run.new.store c.debug_over.new.wire) c.in_ok-job.job
    (a_job request (run_of c.in_ok-run.run') c.in_ok-job.job f h c.in_ok-run.ensures.outcome c.in_ok-job.ensures.checked) _ (reads-less false c.in_ok-run.ensures.reads)
    (rw (c.in-Err-At-Receiving.field-0-is, c.in-Err-At-Receiving.field-0-0-is) at c.in-Err-At-Receiving.ensures)

pub returns-in-Err-At-Sending : goal.returns-in-Err-At-Sending
returns-in-Err-At-Sending g c =
    let request = plain_request c.args.request in
    let f = g.S.Store.shown c.args.store.now in
    let h = g.S.Store.shown c.open_run.new.store in
    not_sent request (change g.S.Store.shown g.W.Wire.shown c.args.store.now c.args.wire.now c.open_run.new.store c.debug_over.new.wire) c.in_ok-job.job
    (a_job request (run_of c.in_ok-run.run') c.in_ok-job.job f h c.in_ok-run.ensures.outcome c.in_ok-job.ensures.checked) _ (reads-less false c.in_ok-run.ensures.reads)
    (rw (c.in-Err-At-Sending.field-0-is, c.in-Err-At-Sending.field-0-0-is) at c.in-Err-At-Sending.ensures)

pub returns : goal.returns
returns g c =
    let request = plain_request c.args.request in
    let f = g.S.Store.shown c.args.store.now in
    let h = g.S.Store.shown c.open_run.new.store in
    no_memory_left request (change g.S.Store.shown g.W.Wire.shown c.args.store.now c.args.wire.now c.open_run.new.store c.debug_over.new.wire) c.in_ok-job.job
    (a_job request (run_of c.in_ok-run.run') c.in_ok-job.job f h c.in_ok-run.ensures.outcome c.in_ok-job.ensures.checked) _ c.in-Err-NoMemory.no_memory
    (reads-less false c.in_ok-run.ensures.reads) (rw c.in-Err-NoMemory.field-0-is at c.in-Err-NoMemory.ensures)
