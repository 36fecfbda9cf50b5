-- Calls numbered from 0, of which those of chosen numbers fail.
use Rattle.std.specs.Prelude.{ℕ, ◌==◌, ◌&&◌, not, Bool, List, if◌then◌else◌}
use Rattle.std.specs.List.{list_any}
use Rattle.outer_io.specs.Faults.{count_on}

pub record Calling : Type 0 where
  -- the numbers of the calls that fail
  pub failing : List ℕ
  -- the number of the next call
  pub next : ℕ
  -- how many calls failed so far
  pub faults : ℕ

-- whether the next call goes through, where it can
abbrev pub goes_through : Bool → Calling → Bool
goes_through can calls = can && not (list_any (λ n. n == calls.next) calls.failing)

-- after one more call, which went through or not
abbrev pub after_call : Bool → Calling → Calling
after_call went calls = record calls { next = count_on calls.next; faults = if went then calls.faults else count_on calls.faults }
