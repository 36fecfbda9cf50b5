use Rattle.std.proofs.Common.{length}
use Rattle.elf_image.proofs.FaultLemmas.{no_segment_wrong}
use Rattle.elf_image.proofs.Segments.{laid_out}
use Rattle.elf_image.proofs.loader.load.Goals as goal

pub segments-requires : goal.segments-requires
segments-requires c = no_segment_wrong c.in-Ok.file c.in-Ok.ensures.table

pub new-requires : goal.new-requires
new-requires c = rw c.in_ok-segments.ensures (laid_out c.in-Ok.file (length c.in-Ok.file) _ _ (no_segment_wrong c.in-Ok.file c.in-Ok.ensures.table))
