use Rattle.std.proofs.Common.{ap, sym, ◌∙◌}
use Rattle.std.proofs.lemmas.Result.{err_from_is_err_and}
use Rattle.lists.specs.FirstTrue.{first_true}
use Rattle.elf_image.specs.Faults.{table_faults}
use Rattle.elf_image.proofs.FaultLemmas.{header_fault, table_fault}
use Rattle.elf_image.proofs.loader.faultless.Goals as goal

pub returns-in_err-file-clause-fault : goal.returns-in_err-file-clause-fault
returns-in_err-file-clause-fault c =
    let p = err_from_is_err_and c.from_residual.result c.from_residual.ensures.1 in
    rw (p.1, p.2) (header_fault c.args.bytes.now _ c.in_err-file.ensures.err)

pub returns-in_err-check_table-clause-fault : goal.returns-in_err-check_table-clause-fault
returns-in_err-check_table-clause-fault c =
    let p = err_from_is_err_and c.from_residual-in_err-check_table.result c.from_residual-in_err-check_table.ensures.1 in
    let same = ap (λ file. first_true (table_faults file)) (sym c.in_ok-file.ensures.ok.0) in
    rw (p.1, p.2) (table_fault c.args.bytes.now _ c.in_ok-file.ensures.ok.1 (same ∙ c.in_err-check_table.ensures.err))
