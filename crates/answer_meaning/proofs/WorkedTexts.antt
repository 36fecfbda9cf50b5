-- Examples: texts of which one is the beginning of another, and a text that is read no further than its last line.
use Rattle.std.proofs.Common.{◌≡◌, replicate, refl, arith}
use Rattle.std.specs.Prelude.{codes}
use Rattle.answer_meaning.specs.PrefixFree.{ArePrefixFree}
use Rattle.answer_meaning.proofs.TextReading.{AtStart, read, stop}
use Rattle.answer_meaning.proofs.TextParts.{read_parts}

-- one dot is a beginning of two
dots_are_not : ArePrefixFree (λ n. replicate n 0x2e) → ⊥
dots_are_not free = free 2 1 1 (omega arith) refl

no_further : read stop AtStart (codes "1:0 0:0\nend 1\n1:1\n") ≡ codes "1:0 0:0\nend 1\n"
no_further = refl

no_further_than_parts : read_parts 3 (codes "stack 7\nend 0\nstack 0\n0x00010000\nend 1\nend 5\nstack 2\n") ≡ codes "stack 7\nend 0\nstack 0\n0x00010000\nend 1\nend 5\n"
no_further_than_parts = refl
