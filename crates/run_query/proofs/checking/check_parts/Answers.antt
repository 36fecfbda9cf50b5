use Rattle.std.proofs.Common.{◌∙◌, ap}
use Rattle.elf_model.specs.Image.{image}
use Rattle.run_query.proofs.checking.check_parts.Goals as goal

pub check_watched-requires : goal.check_watched-requires
check_watched-requires c = ap image c.deref.ensures.value ∙ c.args.program.loads
