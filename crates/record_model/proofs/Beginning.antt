-- The state that a program begins in is sound. Crates above cite these lemmas.
use Rattle.std.proofs.Common.{◌≡◌, ℕ, zero, suc, ◌+◌, ◌-◌, ◌*◌, ◌/◌, ◌^◌, ◌<◌, ◌≤◌, Bool, true, false, List, [], ◌∷◌, map, length, get_or, drop, replicate, Option, Some, None, Result, Ok, Err, refl, arith, ap, sym, ◌∙◌, subst, leb-true, ltb-false, length-take}
use Rattle.std.specs.Prelude.{nat_le, nat_lt, if◌then◌else◌}
use Rattle.std.specs.List.{AllByRecursion, list_all}
use Rattle.std.proofs.lemmas.Bool.{and_parts, or_parts}
use Rattle.std.proofs.lemmas.List.{length-replicate}
use Rattle.isa.specs.Machine.{State, overwritten}
use Rattle.isa.proofs.Window.{length-overwritten}
use Rattle.elf_model.specs.declared.ImageKind.{ImageKind}
use Rattle.lists.specs.FirstTrue.{first_true}
use Rattle.lists.proofs.FirstTrue.{none-if}
use Rattle.elf_model.specs.Image.{Image, LoadedSegment, ProgramHeader, e_entry, image, image_of, unless_faulty, faults, segment, lowest, loaded_headers, is_segment_wrong, is_any_segment_wrong}
use Rattle.elf_model.specs.Window.{start_of, start_with, start_in, can_hold, laid_out}
use Rattle.replay_model.specs.Fits.{start_in_image}
use Rattle.record_model.specs.States.{IsSound}
use Rattle.record_model.proofs.Sound.{AreBytes, part_bytes, put_bytes, are_bytes}

-- ---- segments

pub record IsGood (base : ℕ) (s : LoadedSegment) : Type 0 where
  pub above : base ≤ s.place
  pub short : length s.bytes ≤ s.size
  pub bytes : AreBytes s.bytes

good_segment : (file : List ℕ) (base : ℕ) (h : ProgramHeader) → AreBytes file → base ≤ h.p_vaddr → h.p_filesz ≤ h.p_memsz → IsGood base (segment file h)
good_segment file base h b x y = record { above = x; short = omega (arith, length-take h.p_filesz (drop h.p_offset file)); bytes = part_bytes file h.p_filesz h.p_offset b }

pub record IsRight (n before : ℕ) (h : ProgramHeader) : Type 0 where
  pub short : h.p_filesz ≤ h.p_memsz
  pub after : before ≤ h.p_vaddr

right_by : (n before : ℕ) (h : ProgramHeader) → is_segment_wrong n before h ≡ false → IsRight n before h
right_by n before h e =
    let last = or_parts _ (nat_lt h.p_vaddr before) e in
    let third = or_parts _ (nat_lt (2 ^ 32) (h.p_vaddr + h.p_memsz)) last.0 in
    let first = or_parts (nat_lt h.p_memsz h.p_filesz) _ third.0 in
    record { short = ltb-false h.p_memsz h.p_filesz first.0; after = ltb-false h.p_vaddr before last.1 }

good_from : (file : List ℕ) (base n before : ℕ) (hs : List ProgramHeader) → AreBytes file → base ≤ before → is_any_segment_wrong n before hs ≡ false → AllByRecursion (IsGood base) (map (segment file) hs)
good_from file base n before [] b x e = tt
good_from file base n before (h ∷ hs) b x e =
    let both = or_parts (is_segment_wrong n before h) (is_any_segment_wrong n (h.p_vaddr + h.p_memsz) hs) e in
    let right = right_by n before h both.0 in
    let after = right.after in
    (good_segment file base h b (omega arith) right.short, good_from file base n (h.p_vaddr + h.p_memsz) hs b (omega arith) both.1)

good_all : (file : List ℕ) (n : ℕ) (hs : List ProgramHeader) → AreBytes file → is_any_segment_wrong n 0 hs ≡ false → AllByRecursion (IsGood (lowest (map (segment file) hs) / 4096 * 4096)) (map (segment file) hs)
good_all file n [] b e = tt
good_all file n (h ∷ hs) b e =
    let both = or_parts (is_segment_wrong n 0 h) (is_any_segment_wrong n (h.p_vaddr + h.p_memsz) hs) e in
    let right = right_by n 0 h both.0 in
    let low = rounded h.p_vaddr in
    (good_segment file (h.p_vaddr / 4096 * 4096) h b low right.short, good_from file (h.p_vaddr / 4096 * 4096) n (h.p_vaddr + h.p_memsz) hs b (omega arith) both.1)
  where
    rounded : (n : ℕ) → n / 4096 * 4096 ≤ n
    rounded n = omega arith

-- ---- a file without faults

all_false : {X : Type 0} (rows : List (Bool × X)) → first_true rows ≡ None → AllByRecursion (λ row. row.0 ≡ false) rows
all_false [] e = tt
all_false (row ∷ rows) e = let both = none-if row.0 row.1 (first_true rows) e in (both.0, all_false rows both.1)

segments_right : (file : List ℕ) → first_true (faults file) ≡ None → is_any_segment_wrong (length file) 0 (loaded_headers file) ≡ false
segments_right file e = (all_false (faults file) e).1.1.1.1.1.1.1.0

abbrev IsGoodImage : Image → Type 0
IsGoodImage im = AllByRecursion (IsGood im.base) im.segments

-- a file with an image has no fault
no_fault : (file : List ℕ) (im : Image) → image file ≡ Ok im → (first_true (faults file) ≡ None) × (image_of file ≡ im)
no_fault file im e = by (first_true (faults file)) refl e
  where
    by : (o : Option ImageKind) → first_true (faults file) ≡ o → unless_faulty file o ≡ Ok im → (first_true (faults file) ≡ None) × (image_of file ≡ im)
    by None f e = (f, cc)
    by (Some fault) f e = cc

good_image : (file : List ℕ) (im : Image) → AreBytes file → image file ≡ Ok im → IsGoodImage im
good_image file im b e = let none = no_fault file im e in subst IsGoodImage none.1 (good_all file (length file) (loaded_headers file) b (segments_right file none.0))

-- ---- the window

pub record IsWindow (size : ℕ) (mem : List ℕ) : Type 0 where
  pub long : length mem ≡ size
  pub bytes : AreBytes mem

laid_window : (base size : ℕ) (mem : List ℕ) (ss : List LoadedSegment) → IsWindow size mem → AllByRecursion (IsGood base) ss → list_all (λ s. nat_le (s.place + s.size) (base + size)) ss ≡ true → IsWindow size (laid_out base mem ss)
laid_window base size mem [] w g e = w
laid_window base size mem (s ∷ ss) w g e =
    let both = and_parts (nat_le (s.place + s.size) (base + size)) (list_all (λ s. nat_le (s.place + s.size) (base + size)) ss) e in
    let fits = leb-true (s.place + s.size) (base + size) both.0 in
    let above = g.0.above in
    let short = g.0.short in
    let long = w.long in
    let room : (s.place - base) + length s.bytes ≤ length mem = omega arith in
    laid_window base size (overwritten mem (s.place - base) s.bytes) ss
    (record { long = length-overwritten mem (s.place - base) s.bytes room ∙ w.long; bytes = put_bytes mem (s.place - base) s.bytes room w.bytes g.0.bytes }) g.1 both.1

zero_bytes : (n k : ℕ) → get_or (replicate {A = ℕ} n 0) k 0 < 2 ^ 8
zero_bytes zero k = omega arith
zero_bytes (suc n) zero = omega arith
zero_bytes (suc n) (suc k) = zero_bytes n k

start_words : (top r : ℕ) → top < 2 ^ 32 → get_or (0 ∷ 0 ∷ top ∷ replicate 29 0) r 0 < 2 ^ 32
start_words top zero h = omega arith
start_words top (suc zero) h = omega arith
start_words top (suc (suc zero)) h = h
start_words top (suc (suc (suc r))) h = let x = zero_bytes 29 r in omega arith

-- a state that a run begins in: it is sound, and its window has so many pages
pub record IsBegun (entry pages : ℕ) (s : State) : Type 0 where
  pub sound : IsSound s
  pub pc : s.pc ≡ entry
  pub size : length s.memory ≡ pages * 4096

good_start : (im : Image) (pages : ℕ) (s : State) → IsGoodImage im → start_of im pages ≡ Some s → IsBegun im.entry pages s
good_start im pages s g e = by (can_hold im pages) refl e
  where
    by : (b : Bool) → can_hold im pages ≡ b → start_with im pages (if b then Some (laid_out im.base (replicate (pages * 4096) 0) im.segments) else None) ≡ Some s → IsBegun im.entry pages s
    by true f e =
        let both = and_parts (nat_le (im.base + pages * 4096) (2 ^ 32)) (list_all (λ s. nat_le (s.place + s.size) (im.base + pages * 4096)) im.segments) f in
        let ends = leb-true (im.base + pages * 4096) (2 ^ 32) both.0 in
        let w = laid_window im.base (pages * 4096) (replicate (pages * 4096) 0) im.segments (record { long = length-replicate (pages * 4096) 0; bytes = zero_bytes (pages * 4096) }) g both.1 in
        let long = w.long in
        let same : start_in im pages (laid_out im.base (replicate (pages * 4096) 0) im.segments) ≡ s = cc in
        let sound : IsSound (start_in im pages (laid_out im.base (replicate (pages * 4096) 0) im.segments)) = record {
          count = refl;
          first = refl;
          words = λ r. start_words (im.base + pages * 4096 - 16) r (omega arith);
          bytes = w.bytes;
          ends = omega arith;
        } in
        subst (IsBegun im.entry pages) same (record { sound = sound; pc = refl; size = w.long })
    by false f e = cc

pub begins : (program : List ℕ) (pages : ℕ) (s : State) → AllByRecursion (λ b. b < 256) program → start_in_image (image program) pages ≡ Some s → IsBegun (e_entry program) pages s
begins program pages s b e = by (image program) refl e
  where
    by : (r : Result Image ImageKind) → image program ≡ r → start_in_image r pages ≡ Some s → IsBegun (e_entry program) pages s
    by (Ok im) f e = subst (λ (n : ℕ). IsBegun n pages s) (sym (ap (λ (x : Image). x.entry) (no_fault program im f).1)) (good_start im pages s (good_image program im (are_bytes program b) f) e)
    by (Err fault) f e = cc
