use Rattle.std.proofs.Common.{rules, arith, refl, true, false, sym, ◌∙◌}
use Rattle.std.proofs.lemmas.Bool.Decides.{nat_tests}
use Rattle.elf_image.proofs.FaultLemmas.{last_of_header}
use Rattle.elf_image.proofs.file.ElfFile.open.Goals as goal

pub returns-then-is_header_wrong-clause-err : goal.returns-then-is_header_wrong-clause-err
returns-then-is_header_wrong-clause-err c =
    last_of_header c.args.bytes.now true (grind (arith, nat_tests)) (search rules) (search rules) (search rules) (search rules) (sym c.is_header_wrong.ensures ∙ c.if-is_header_wrong.true)

pub returns-clause-ok : goal.returns-clause-ok
returns-clause-ok c =
    (refl, last_of_header c.args.bytes.now false (grind (arith, nat_tests)) (search rules) (search rules) (search rules) (search rules) (sym c.is_header_wrong.ensures ∙ c.if-is_header_wrong.false))
