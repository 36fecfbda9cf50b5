-- The decisions of each place: of each pc and location.
use Rattle.std.specs.Prelude.{ℕ, Bool, List, [], ◌∷◌, map}
use Rattle.std.specs.List.{filter}
use Rattle.std.specs.Ordering.{nat_cmp, eq_by_cmp}
use Rattle.std.specs.Cmp.Lexicographic.{slice_cmp}
use Rattle.std.specs.declared.cmp.Ordering.{Ordering}
use Rattle.lists.specs.Sets.{union, set_of}
use Rattle.flow_model.specs.declared.SourceByte.{SourceByte}
use Rattle.flow_model.specs.Orders.{loc_key, source_cmp}
use Rattle.decision_find.specs.declared.Place.{Place}
use Rattle.decision_find.specs.Decisions.{Decision}

-- by pc and then location
abbrev pub place_key : Place → List ℕ
place_key p = p.pc ∷ loc_key p.loc

abbrev pub place_cmp : Place → Place → Ordering
place_cmp a b = slice_cmp nat_cmp (place_key a) (place_key b)

abbrev pub place_of : Decision → Place
place_of d = record { pc = d.pc; loc = d.loc }

-- the places of decisions, ascending
abbrev pub places : List Decision → List Place
places ds = set_of place_cmp (map place_of ds)

abbrev pub is_at : Place → Decision → Bool
is_at p d = eq_by_cmp place_cmp p (place_of d)

-- the decisions of a place, in their order
abbrev pub decided_there : Place → List Decision → List Decision
decided_there p ds = filter (is_at p) ds

-- the source bytes of any of them
abbrev pub sources_of : List Decision → List SourceByte
sources_of [] = []
sources_of (d ∷ ds) = union source_cmp d.sources (sources_of ds)
