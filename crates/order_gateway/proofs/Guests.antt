-- The guest's instructions and its file, and the workload's query. Crates above cite these lemmas.
use Rattle.std.proofs.Common.{◌≡◌, refl, Ok, arith}
use Rattle.std.specs.Prelude.{IsSome}
use Rattle.std.specs.List.{AllByRecursion}
use Rattle.std.proofs.lemmas.List.Elements.{All-from_recursion}
use Rattle.isa.specs.Encodings.{Fits}
use Rattle.elf_model.specs.Image.{image}
use Rattle.elf_model.specs.Window.{start_of}
use Rattle.report_model.specs.Grammar.{query}
use Rattle.guest_assembler.specs.ProgramFile.{HaveWords}
use Rattle.order_gateway.specs.Guest.{guest, guest_file, guest_image}
use Rattle.order_gateway.specs.Workload.{query_text, workload_query}

-- ---- the guest

each_fits : AllByRecursion Fits guest
each_fits = omega arith

pub guest-has_words : HaveWords guest
guest-has_words = All-from_recursion Fits guest each_fits

pub guest-image : image guest_file ≡ Ok guest_image
unfolding guest_file guest_image
guest-image = refl

pub window-holds_guest : IsSome (start_of guest_image 4)
unfolding guest_image
window-holds_guest = refl

-- ---- its query

pub text-query : query query_text ≡ Ok workload_query
text-query = refl
