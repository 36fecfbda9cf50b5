-- What epochs ask of each other is what is needed, and joined by lists they give the rows. Steps are in range, and
-- points at locations, so that what is asked are locations.
use Rattle.std.specs.Prelude.{◌≡◌, ℕ, ◌+◌, ◌<◌, List, [], length, All}
use Rattle.std.specs.List.{IsDistinct}
use Rattle.std.specs.Ordering.{eq_by_cmp}
use Rattle.flow_model.specs.declared.Loc.{Loc}
use Rattle.flow_model.specs.declared.StepSeen.{StepSeen}
use Rattle.lists.specs.Sets.{has}
use Rattle.flow_model.specs.Orders.{loc_cmp}
use Rattle.flow_model.specs.Ranges.{IsLocation, IsInRange}
use Rattle.report_model.specs.Query.{Query, AreLocated}
use Rattle.report_model.specs.Rows.{rows_as_written}
use Rattle.epoch_model.specs.Cutting.{RisesTo, IsCutting}
use Rattle.epoch_model.specs.Summary.{Summary, AreSummaries}
use Rattle.epoch_model.specs.Crossing.{crossing, summaries_of, crossing_at, needed}
use Rattle.epoch_model.specs.Join.{joined}

-- what the epochs from a cut s on ask there are exactly the locations that are needed there
abbrev pub AsksWhatIsNeeded : Type 0
AsksWhatIsNeeded = (q : Query) (trace : List StepSeen) (s n : ℕ) (cuts : List ℕ) (es : List Summary)
    → All IsInRange trace → AreLocated q.points
    → 0 < s → RisesTo s cuts (s + n) → AreSummaries q trace s cuts es
    → (l : Loc) → has loc_cmp l (crossing es) ≡ has loc_cmp l (needed q trace s n)

-- they are lanes of registers, and addresses
abbrev pub AsksLocations : Type 0
AsksLocations = (q : Query) (trace : List StepSeen) (s : ℕ) (cuts : List ℕ) (es : List Summary)
    → All IsInRange trace → AreLocated q.points
    → AreSummaries q trace s cuts es → All IsLocation (crossing es)

-- they depend on the cuts alone, and not on how the summaries are kept
abbrev pub AsksByCuts : Type 0
AsksByCuts = (q : Query) (trace : List StepSeen) (s : ℕ) (cuts : List ℕ) (es : List Summary)
    → All IsInRange trace → AreLocated q.points
    → AreSummaries q trace s cuts es → crossing es ≡ crossing_at q trace s cuts

-- each is asked once
abbrev pub AsksOnce : Type 0
AsksOnce = (es : List Summary) → IsDistinct (eq_by_cmp loc_cmp) (crossing es)

-- those of the definitions are summaries
abbrev pub DefinedAreSummaries : Type 0
DefinedAreSummaries = (q : Query) (trace : List StepSeen) (s : ℕ) (cuts : List ℕ)
    → AreSummaries q trace s cuts (summaries_of q trace s cuts)

-- the summaries of the epochs of a trace, joined by lists, give its rows
abbrev pub JoinGivesRows : Type 0
JoinGivesRows = (q : Query) (trace : List StepSeen) (cuts : List ℕ) (es : List Summary)
    → All IsInRange trace → AreLocated q.points
    → IsCutting (length trace) cuts → AreSummaries q trace 0 cuts es
    → joined [] [] es ≡ rows_as_written q trace
