-- The pieces of the epochs of a run.
use Rattle.std.specs.Prelude.{◌≡◌, List, [], ◌∷◌, ◌++◌}
use Rattle.lists.specs.Sets.{has}
use Rattle.flow_model.specs.declared.Loc.{Loc}
use Rattle.flow_model.specs.Orders.{loc_cmp}
use Rattle.epoch_model.specs.Summary.{Summary}
use Rattle.epoch_model.specs.Crossing.{wanted}
use Rattle.epoch_summary.specs.Summaries.{summary_of}
use Rattle.summary_join.specs.declared.piece.Piece.{Piece}

-- the piece of an epoch with this summary, which asks for these locations: they are those that it wants where it has
-- its requests
pub record IsPiece (e : Summary) (asked : List Loc) (p : Piece) : Type 0 where
  pub summary : summary_of p.summary ≡ e
  pub wants : (l : Loc) → has loc_cmp l asked ≡ has loc_cmp l (wanted e p.requests)

-- the pieces of the epochs with these summaries, that of the last epoch first. The first epoch asks for these
-- locations; each has as requests what the next one asks for, and the last one none
abbrev pub ArePieces : List Summary → List Loc → List Piece → Type 0
ArePieces [] asked ps = (asked ≡ []) × (ps ≡ [])
ArePieces (e ∷ es) asked ps =
    (later : List Piece) × (p : Piece) × (ps ≡ later ++ p ∷ [])
    × IsPiece e asked p × ArePieces es p.requests later
