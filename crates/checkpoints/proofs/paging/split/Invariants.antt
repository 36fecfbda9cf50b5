use Rattle.std.proofs.Common.{◌≡◌, ◌+◌, ◌<◌, ℕ, List, length, get_or}
use Rattle.std.specs.List.{All}
use Rattle.checkpoints.specs.Pages.{page, changed_among, IsHeld, ArePagesOf, IsExtended}
use Rattle.checkpoints.specs.Touched.{AreOthersHeld}
use Rattle.checkpoints.proofs.paging.split.Given as goal

-- the pages so far are held, and those of them that changed are new
abbrev pub invariant-loop-place : goal.invariant-loop-place
invariant-loop-place l = record {
  long : length l.numbers.items ≡ l.place;
  below : All (λ number. number < length l.pages) l.numbers.items;
  extended : IsExtended l.fn.pages l.pages;
  each : AreOthersHeld l.touched.flags l.fn.pages l.before l.bytes → (k : ℕ) → k < l.place → IsHeld l.pages (get_or l.numbers.items k 0) (page l.bytes k);
  count : (window : List ℕ) → AreOthersHeld l.touched.flags l.fn.pages l.before l.bytes → ArePagesOf l.fn.pages l.before window → length l.pages ≡ length l.fn.pages + changed_among l.place window l.bytes;
}
