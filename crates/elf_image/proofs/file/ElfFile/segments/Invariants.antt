use Rattle.std.proofs.Common.{◌≡◌, length, map, ◌++◌}
use Rattle.std.specs.List.{filter}
use Rattle.elf_model.specs.Image.{is_loaded, loaded_headers, segment}
use Rattle.elf_image.proofs.Segments.{AreInFile}
use Rattle.elf_image.proofs.file.ElfFile.segments.Given as goal

abbrev pub invariant-loop-header : goal.invariant-loop-header
invariant-loop-header l =
    (l.segments.items ++ map (segment l.self) (filter is_loaded l.header-iterator) ≡ map (segment l.self) (loaded_headers l.self))
    × AreInFile (length l.self) (filter is_loaded l.header-iterator)
