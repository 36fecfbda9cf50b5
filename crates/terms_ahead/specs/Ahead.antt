-- Terms that are read ahead of their use.
use Rattle.std.specs.Prelude.{◌≡◌, ℕ, ◌≤◌, List, length, slice_get, Some, map, All}
use Rattle.merge_log.specs.declared.nodes.Entry.{Entry}
use Rattle.merge_log.specs.Log.{IsNode, terms}
use Rattle.terms_ahead.specs.declared.ahead.TermsAhead.{TermsAhead}

-- what was read ahead is of the log: it is good for no other
abbrev pub IsOfLog : List Entry → TermsAhead → Type 0
IsOfLog log ahead = ahead.held ≡ map (terms log) ahead.nodes.items

-- nodes of the log that are to be read at once: at most 64, with this one as the first
pub record AreNext (log : List Entry) (node : ℕ) (next : List ℕ) : Type 0 where
  pub first : slice_get next 0 ≡ Some node
  pub stand : All (IsNode log) next
  pub few : length next ≤ 64
