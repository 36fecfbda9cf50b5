-- Segments in a window: those that an image places, and that end in the window, have room in it; a loop over them
-- lays them out one by one. Crates above cite this lemma.
use Rattle.std.proofs.Common.{◌≡◌, ℕ, ◌+◌, ◌≤◌, nat_le, true, List, get_or, arith}
use Rattle.std.specs.List.{All, list_all}
use Rattle.std.proofs.lemmas.Bool.{leb-true}
use Rattle.std.proofs.lemmas.List.Sums.{AllPass-from_list_all}
use Rattle.elf_model.specs.Image.{LoadedSegment}
use Rattle.elf_image.specs.Layout.{IsPlaced}
use Rattle.rv_machine.specs.Start.{HaveRoom}

pub have_room : (base past : ℕ) (segments : List LoadedSegment) → All (IsPlaced base) segments → list_all (λ s. nat_le (s.place + s.size) past) segments ≡ true → HaveRoom base past segments
have_room base past segments placed below k d in_range =
    let here = placed k d in_range in
    let ends : (get_or segments k d).place + (get_or segments k d).size ≤ past = leb-true _ _ (AllPass-from_list_all (λ s. nat_le (s.place + s.size) past) segments below k d in_range) in
    record { above_base = here.above_base; below_end = omega (arith, here.has_room) }
