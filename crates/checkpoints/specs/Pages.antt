-- A window of memory in pages, and the pages that are held, by number.
use Rattle.std.specs.Prelude.{◌≡◌, ℕ, zero, suc, ◌+◌, ◌*◌, ◌<◌, ◌==◌, if◌then◌else◌, List, [], ◌++◌, length, take, drop, get_or, slice_get, Option, Some, None}
use Rattle.std.specs.Int.{div_ceil}
use Rattle.std.specs.Cmp.Lexicographic.{pointwise}

-- the page at a place of a window: 4096 bytes, or all that are left
abbrev pub page : List ℕ → ℕ → List ℕ
page window place = take 4096 (drop (place * 4096) window)

-- how many pages a window has
abbrev pub page_count : List ℕ → ℕ
page_count window = div_ceil (length window) 4096

-- 1 where two pages differ, and 0 where they have the same bytes
abbrev pub differs : List ℕ → List ℕ → ℕ
differs before after = if pointwise ◌==◌ before after then 0 else 1

-- at how many of the first n places two windows have pages that differ
abbrev pub changed_among : ℕ → List ℕ → List ℕ → ℕ
changed_among zero before after = 0
changed_among (suc n) before after = changed_among n before after + differs (page before n) (page after n)

-- at how many places of a window its page isn't that of the window before
abbrev pub changed : List ℕ → List ℕ → ℕ
changed before after = changed_among (page_count after) before after

-- ---- pages by number

-- the page of a number, and no bytes where there is no number
abbrev pub page_of : List (List ℕ) → Option ℕ → List ℕ
page_of pages None = []
page_of pages (Some number) = get_or pages number []

-- the page is held by this number
pub record IsHeld (pages : List (List ℕ)) (number : ℕ) (bytes : List ℕ) : Type 0 where
  pub below : number < length pages
  pub is : get_or pages number [] ≡ bytes

-- these are the numbers of the window's pages, place by place
pub record ArePagesOf (pages : List (List ℕ)) (numbers window : List ℕ) : Type 0 where
  pub count : length numbers ≡ page_count window
  pub each : (k : ℕ) → k < length numbers → IsHeld pages (get_or numbers k 0) (page window k)

-- the page at a place among pages of these numbers, and no bytes past the last
abbrev pub page_before : List (List ℕ) → List ℕ → ℕ → List ℕ
page_before pages numbers place = page_of pages (slice_get numbers place)

-- the pages are those that there were, and then more
pub record IsExtended (before after : List (List ℕ)) : Type 0 where
  pub more : List (List ℕ)
  pub is : after ≡ before ++ more
