use Rattle.std.proofs.Common.{rules, tests}
use Rattle.std.proofs.lemmas.Iterator.Consumers.{YieldsList-at, YieldsList-from_first, YieldsList-from_filter}
use Rattle.std.proofs.lemmas.Iterator.Search.{any_from_yields_List}
use Rattle.elf_model.specs.Image.{is_loaded, holds_address, e_entry}
use Rattle.elf_image.proofs.file.ElfFile.holds_entry.Goals as goal

pub returns : goal.returns
returns c = any_from_yields_List (holds_address (e_entry c.args.self.now)) _ _ _ c.any.ensures.ran (YieldsList-from_filter _ is_loaded (YieldsList-at c.filter.ensures.source (YieldsList-from_first (λ x. x) (λ rest. rest) _ c.program_headers.ensures)) c.filter.ensures.closure (λ x b q k. search (rules, tests))) (λ x b q k. search (rules, tests))
