use Rattle.std.proofs.Common.{rules, ◌≡◌}
use Rattle.elf_model.specs.Image.{program_headers}
use Rattle.elf_image.proofs.Segments.{are_in_file}
use Rattle.elf_image.proofs.file.ElfFile.segments.Goals as goal

pub loop-header-init : goal.loop-header-init
loop-header-init c =
    let whole : c.into_iter-header-iterator.result ≡ program_headers c.args.self.now = cc in
    rw (whole, c.new-segments.ensures.items) (search rules, are_in_file _ _ _ c.requires)
