use Rattle.std.proofs.Common.{arith}
use Rattle.std.proofs.lemmas.Result.{err_from_is_err_and}
use Rattle.log_model.specs.Logs.{IsBytes}
use Rattle.log_model.proofs.Words.{IsBytes-each}
use Rattle.jet_model.proofs.Files.{log_in-log}
use Rattle.command_parts.proofs.Read.{no_log}
use Rattle.command_parts.proofs.opening.log_of.Goals as goal

pub returns-in_err-read_log : goal.returns-in_err-read_log
returns-in_err-read_log c =
    let fits : IsBytes c.args.bytes.now = IsBytes-each _ (λ i. omega (arith, c.type_inv.bytes i)) in
    let p = err_from_is_err_and c.from_residual.result c.from_residual.ensures.1 in
    rw p.1 (no_log c.args.bytes.now _ _ fits c.in_err-read_log.ensures.fault p.2)

pub returns : goal.returns
returns c =
    let fits : IsBytes c.args.bytes.now = IsBytes-each _ (λ i. omega (arith, c.type_inv.bytes i)) in
    log_in-log c.args.bytes.now _ fits c.in_ok-read_log.ensures.ok
