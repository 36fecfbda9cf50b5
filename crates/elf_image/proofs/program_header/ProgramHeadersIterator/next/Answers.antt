-- What is left begins with the entry that was read.
use Rattle.std.proofs.Common.{rules, ◌<◌, sym, ◌∙◌, arith}
use Rattle.elf_model.specs.Image.{program_header}
use Rattle.elf_image.proofs.Tables.{map_range_next}
use Rattle.elf_image.proofs.program_header.ProgramHeadersIterator.next.Goals as goal

pub returns-clause-steps : goal.returns-clause-steps
returns-clause-steps c =
    let below : c.self.inside.next < c.self.inside.count = omega arith in
    sym c.self.view_is ∙ map_range_next (program_header c.self.inside.file.now) c.self.inside.next c.self.inside.count c.read-header.result below c.read-header.ensures

pub returns-clause-goes : goal.returns-clause-goes
returns-clause-goes c = rw (returns-clause-steps c) (search rules)
