use Rattle.std.proofs.Common.{◌∙◌, ap}
use Rattle.std.proofs.lemmas.Result.{err_from_is_err_and}
use Rattle.elf_model.specs.Image.{image}
use Rattle.run_query.proofs.checked.check_and_query.Goals as goal

pub check-requires : goal.check-requires
check-requires g c = ap image c.deref.ensures.value ∙ c.args.program.loads

pub returns-in_err-rows-in-Whole-clause-fault : goal.returns-in_err-rows-in-Whole-clause-fault
returns-in_err-rows-in-Whole-clause-fault g c =
    let p = err_from_is_err_and c.from_residual-in_err-rows-in-Whole.result c.from_residual-in_err-rows-in-Whole.ensures.1 in
    rw (p.1, p.2) tt

pub returns-in_err-report-in-Whole-clause-fault : goal.returns-in_err-report-in-Whole-clause-fault
returns-in_err-report-in-Whole-clause-fault g c =
    let p = err_from_is_err_and c.from_residual-in_err-report-in-Whole.result c.from_residual-in_err-report-in-Whole.ensures.1 in
    rw (p.1, p.2) tt
