-- What epochs ask of each other by their pieces.
use Rattle.std.specs.Prelude.{◌≡◌, ℕ, ◌+◌, ◌<◌, List, All}
use Rattle.lists.specs.Sets.{has}
use Rattle.flow_model.specs.declared.Loc.{Loc}
use Rattle.flow_model.specs.declared.StepSeen.{StepSeen}
use Rattle.flow_model.specs.Orders.{loc_cmp}
use Rattle.flow_model.specs.Ranges.{IsInRange}
use Rattle.report_model.specs.Query.{Query, AreLocated}
use Rattle.epoch_model.specs.Cutting.{RisesTo}
use Rattle.epoch_model.specs.Summary.{Summary, AreSummaries}
use Rattle.epoch_model.specs.Crossing.{crossing, needed}
use Rattle.summary_join.specs.declared.piece.Piece.{Piece}
use Rattle.summary_join.specs.Pieces.{ArePieces}

-- what is asked of the epoch before them is what crosses there
abbrev pub PiecesAskWhatCrosses : Type 0
PiecesAskWhatCrosses = (es : List Summary) (asked : List Loc) (ps : List Piece) → ArePieces es asked ps
    → (l : Loc) → has loc_cmp l asked ≡ has loc_cmp l (crossing es)

-- and exactly what is needed there
abbrev pub PiecesAskWhatIsNeeded : Type 0
PiecesAskWhatIsNeeded = (q : Query) (trace : List StepSeen) (s n : ℕ) (cuts : List ℕ) (es : List Summary)
    → All IsInRange trace → AreLocated q.points
    → 0 < s → RisesTo s cuts (s + n) → AreSummaries q trace s cuts es
    → (asked : List Loc) (ps : List Piece) → ArePieces es asked ps
    → (l : Loc) → has loc_cmp l asked ≡ has loc_cmp l (needed q trace s n)
