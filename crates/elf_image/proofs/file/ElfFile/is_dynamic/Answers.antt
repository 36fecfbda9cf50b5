use Rattle.std.proofs.Common.{rules, tests}
use Rattle.std.proofs.lemmas.Iterator.Consumers.{YieldsList-from_first}
use Rattle.std.proofs.lemmas.Iterator.Search.{any_from_yields_List}
use Rattle.elf_model.specs.Image.{is_dynamic}
use Rattle.elf_image.proofs.file.ElfFile.is_dynamic.Goals as goal

pub returns : goal.returns
returns c = any_from_yields_List is_dynamic _ _ _ c.any.ensures.ran (YieldsList-from_first (λ x. x) (λ rest. rest) _ c.program_headers.ensures) (λ x b q k. search (rules, tests))
