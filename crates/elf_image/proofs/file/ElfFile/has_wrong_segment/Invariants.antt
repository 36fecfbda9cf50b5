use Rattle.std.proofs.Common.{◌≡◌, length}
use Rattle.std.specs.List.{filter}
use Rattle.elf_model.specs.Image.{is_loaded, is_any_segment_wrong, loaded_headers}
use Rattle.elf_image.proofs.file.ElfFile.has_wrong_segment.Given as goal

abbrev pub invariant-loop-header : goal.invariant-loop-header
invariant-loop-header l =
    is_any_segment_wrong (length l.self) l.end_before (filter is_loaded l.header-iterator) ≡ is_any_segment_wrong (length l.self) 0 (loaded_headers l.self)
