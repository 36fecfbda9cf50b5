use Rattle.std.proofs.Common.{◌≡◌, ◌∙◌, ap, subst, Ok, Err}
use Rattle.elf_model.specs.Image.{image}
use Rattle.no_memory.specs.Faults.{IsCausedBy}
use Rattle.order_gateway.specs.Guest.{guest_file, guest_image}
use Rattle.order_gateway.proofs.Guests.{guest-image}
use Rattle.order_gateway.proofs.guest.guest_program.Goals as goal

pub unreachable-requires : goal.unreachable-requires
unreachable-requires c =
    let file = c.in_ok-file.file.items in
    let found : image file ≡ Ok guest_image = ap image c.in_ok-file.ensures ∙ guest-image in
    let fault : image file ≡ Err c.in-Err-At.field-0-0 = subst (IsCausedBy (λ kind. image file ≡ Err kind)) c.in-Err-At.field-0-is c.in-Err-At.ensures.fault in
    cc

pub returns-in-Ok-clause-image : goal.returns-in-Ok-clause-image
returns-in-Ok-clause-image c =
    let program = c.in-Ok.program in
    let file : program.bytes.items ≡ guest_file = ap (λ v. v.items) c.in-Ok.ensures.file ∙ c.in_ok-file.ensures in
    let found : image program.bytes.items ≡ Ok guest_image = ap image file ∙ guest-image in
    let loaded : image program.bytes.items ≡ Ok program.image = program.loads in
    cc
