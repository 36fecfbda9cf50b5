-- The first fault of a file, from those of its header and of its table.
use Rattle.std.proofs.Common.{◌≡◌, ℕ, Bool, false, not, nat_eq, nat_lt, if◌then◌else◌, List, [], ◌∷◌, length, take, drop, Some, None, Err, refl, ap, ◌∙◌}
use Rattle.std.specs.Str.{bytes_eq}
use Rattle.elf_model.specs.declared.ImageKind.{ImageKind}
use Rattle.elf_model.specs.declared.ImageKind.TheVariants.{Header}
use Rattle.elf_model.specs.Image.{e_type, e_machine, faults, image, unless_faulty, is_any_segment_wrong, loaded_headers}
use Rattle.lists.specs.FirstTrue.{first_true}
use Rattle.lists.proofs.FirstTrue.{first_true-none, first_true-some, second_false}
use Rattle.elf_image.specs.Faults.{header_faults, is_header_wrong, table_faults}

-- where the tests before it are false, the last test of the header decides
pub last_of_header : (file : List ℕ) (b : Bool) → nat_lt (length file) 52 ≡ false → not (bytes_eq (take 4 file) (0x7f ∷ 0x45 ∷ 0x4c ∷ 0x46 ∷ [])) ≡ false → not (bytes_eq (take 3 (drop 4 file)) (1 ∷ 1 ∷ 1 ∷ [])) ≡ false → not (nat_eq (e_type file) 2) ≡ false → not (nat_eq (e_machine file) 243) ≡ false → is_header_wrong file ≡ b → first_true (header_faults file) ≡ (if b then Some Header else None)
last_of_header file b long magic class kind machine header = rw (long, magic, class, kind, machine, header) refl

-- a fault of the header is the file's
pub header_fault : (file : List ℕ) (e : ImageKind) → first_true (header_faults file) ≡ Some e → image file ≡ Err e
header_fault file e h = ap (unless_faulty file) (first_true-some 6 (faults file) e h)

-- a fault of the table is the file's, where the header has none
pub table_fault : (file : List ℕ) (e : ImageKind) → first_true (header_faults file) ≡ None → first_true (table_faults file) ≡ Some e → image file ≡ Err e
table_fault file e h t = ap (unless_faulty file) (first_true-none 6 (faults file) h ∙ t)

-- a table without a fault has no wrong segment
pub no_segment_wrong : (file : List ℕ) → first_true (table_faults file) ≡ None → is_any_segment_wrong (length file) 0 (loaded_headers file) ≡ false
no_segment_wrong file e = second_false _ _ _ _ _ e
