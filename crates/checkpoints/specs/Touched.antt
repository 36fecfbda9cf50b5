-- Which pages of a window may have been written since the last checkpoint.
use Rattle.std.specs.Prelude.{◌≡◌, ℕ, ◌+◌, ◌*◌, ◌<◌, nat_lt, Bool, true, false, ◌&&◌, ◌||◌, List, length, get_or, Option, Some, None}
use Rattle.isa.specs.declared.Instr.{Instr}
use Rattle.isa.specs.declared.CallKind.{CallKind}
use Rattle.isa.specs.declared.CallKind.TheVariants.{Read}
use Rattle.rv_decode.specs.Accesses.{Access, Loads, Stores, Neither, access_of}
use Rattle.flow_model.specs.declared.StepSeen.{StepSeen}
use Rattle.flow_model.specs.declared.CallSeen.{CallSeen}
use Rattle.checkpoints.specs.declared.touched.Span.{Span}
use Rattle.checkpoints.specs.Pages.{page, changed, differs, page_before, IsHeld, ArePagesOf}

-- ---- the bytes of memory that a step writes

abbrev pub span : ℕ → ℕ → Span
span place size = record { place = place; size = size }

abbrev pub size_stored : Access → ℕ
size_stored (Loads l) = 0
size_stored (Stores s) = s.size
size_stored Neither = 0

abbrev pub stored_size : Instr → ℕ
stored_size i = size_stored (access_of i)

abbrev pub received_size : CallKind → ℕ → ℕ
received_size Read n = n
received_size _ n = 0

abbrev pub written_by : StepSeen → Option CallSeen → Span
written_by step None = span step.place (stored_size step.instr)
written_by step (Some call) = span call.place (received_size call.kind call.length)

-- what a store puts at its effective address, and a read into its buffer. Nothing else writes memory
abbrev pub written : StepSeen → Span
written step = written_by step step.call

-- ---- the pages' flags

-- the window's lowest address, and for each page of it whether it may have been written
pub record TouchedAt : Type 0 where
  pub base : ℕ
  pub flags : List Bool

-- the page at a place may have been written. So may one past the last
abbrev pub is_touched : List Bool → ℕ → Bool
is_touched flags place = get_or flags place true

-- each page may have been written
abbrev pub AreAllTouched : List Bool → Type 0
AreAllTouched flags = (place : ℕ) → is_touched flags place ≡ true

-- the page at a place has one of so many bytes of its window, from the first on
abbrev pub has_byte : ℕ → ℕ → ℕ → Bool
has_byte first size place = nat_lt 0 size && nat_lt (place * 4096) (first + size) && nat_lt first (place * 4096 + 4096)

-- the flags of the pages that have one of these bytes are set, and all others are as before
pub record AreMarked (before : List Bool) (first size : ℕ) (after : List Bool) : Type 0 where
  pub count : length after ≡ length before
  pub each : (place : ℕ) → is_touched after place ≡ (is_touched before place || has_byte first size place)

-- ---- the pages that were not written

-- each is the same in both windows
abbrev pub AreOthersSame : List Bool → List ℕ → List ℕ → Type 0
AreOthersSame flags before after = (place : ℕ) → is_touched flags place ≡ false → page after place ≡ page before place

-- a page that can't have been written has the bytes of the page whose number stands at its place
abbrev pub IsHeldUntouched : Bool → List (List ℕ) → List ℕ → ℕ → List ℕ → Type 0
IsHeldUntouched is_touched pages numbers place bytes = is_touched ≡ false → place < length numbers → IsHeld pages (get_or numbers place 0) bytes

-- so it is with each page of a window
abbrev pub AreOthersHeld : List Bool → List (List ℕ) → List ℕ → List ℕ → Type 0
AreOthersHeld flags pages numbers window = (place : ℕ) → IsHeldUntouched (is_touched flags place) pages numbers place (page window place)

-- ---- the pages that are kept

-- one page is kept more, where the page at its place before, whose number was there, differs
abbrev pub IsOneKept : Bool → List (List ℕ) → List ℕ → ℕ → List (List ℕ) → List ℕ → Type 0
IsOneKept is_touched before numbers place after bytes =
    IsHeldUntouched is_touched before numbers place bytes → length after ≡ length before + differs (page_before before numbers place) bytes

-- as many pages are kept more as the window has that differ from those of the window before, whose numbers these were
abbrev pub AreChangedKept : List Bool → List (List ℕ) → List ℕ → List (List ℕ) → List ℕ → Type 0
AreChangedKept flags before numbers after bytes =
    (window : List ℕ) → AreOthersHeld flags before numbers bytes → ArePagesOf before numbers window → length after ≡ length before + changed window bytes
