use Rattle.std.proofs.Common.{◌∙◌, ap}
use Rattle.elf_model.specs.Image.{image}
use Rattle.seq_taint.proofs.checking.check_whole.Goals as goal

pub check_watched-requires : goal.check_watched-requires
check_watched-requires c = ap image c.deref.ensures.value ∙ c.args.program.loads

pub returns-clause-sinks : goal.returns-clause-sinks
returns-clause-sinks c =
    let query = c.args.query.now in
    c.in_ok-sinks.ensures query c.in_ok-job.job (c.in_ok-job.ensures.seen query c.in_ok-watching.ensures)
