use Rattle.std.proofs.Common.{rules, tests, ◌≡◌, ◌∙◌, ap, not}
use Rattle.std.proofs.lemmas.Iterator.Consumers.{YieldsList-from_first}
use Rattle.std.proofs.lemmas.Iterator.Search.{any_from_yields_List}
use Rattle.std.specs.List.{list_any}
use Rattle.elf_model.specs.Image.{is_loaded, program_headers}
use Rattle.elf_image.proofs.Tables.{length-filter-is_zero}
use Rattle.elf_image.proofs.file.ElfFile.has_no_segment.Goals as goal

pub returns : goal.returns
returns c =
    let any : c.any.result ≡ list_any is_loaded (program_headers c.args.self.now) = any_from_yields_List is_loaded _ _ _ c.any.ensures.ran (YieldsList-from_first (λ x. x) (λ rest. rest) _ c.program_headers.ensures) (λ x b q k. search (rules, tests)) in
    ap not any ∙ length-filter-is_zero is_loaded (program_headers c.args.self.now)
