-- Where the source byte is.
use Rattle.std.specs.Prelude.{◌≡◌, ◌+◌, ◌*◌, List, [], ◌∷◌, Option, Some, None, slice_index_or, if◌then◌else◌, nat_eq}
use Rattle.std.specs.HashMap.{get}
use Rattle.flow_model.specs.declared.Loc.{Loc}
use Rattle.flow_model.specs.declared.Loc.TheVariants.{Reg, Mem}
use Rattle.flow_model.specs.Flow.{loc_eq}
use Rattle.flow_model.specs.Ranges.{IsLocation}
use Rattle.path_find.specs.declared.nodes.Label.{Label}
use Rattle.path_find.specs.declared.nodes.Label.TheVariants.{Nothing, Read, At}
use Rattle.path_find.specs.declared.carriers.Carriers.{Carriers}

-- the label that is kept for a byte: nothing where none is
abbrev pub label_or_nothing : Option Label → Label
label_or_nothing None = Nothing
label_or_nothing (Some l) = l

-- the label of a location
abbrev pub kept : Carriers → Loc → Label
kept c (Reg r i) = slice_index_or c.registers.items (4 * r + i) Nothing
kept c (Mem p) = label_or_nothing (get nat_eq c.memory p)

-- of two labels the first that isn't nothing
abbrev pub label_or : Label → Label → Label
label_or Nothing k = k
label_or Read k = Read
label_or (At i) k = At i

abbrev pub first_label : (Loc → Label) → List Loc → Label
first_label f [] = Nothing
first_label f (l ∷ ls) = label_or (f l) (first_label f ls)

-- a location has this label now, and the others have what they had
pub record IsSet (old : Carriers) (loc : Loc) (label : Label) (new : Carriers) : Type 0 where
  pub at : (l : Loc) → IsLocation l → kept new l ≡ (if loc_eq loc l then label else kept old l)

-- nothing is at a location
abbrev pub HasNothing : Carriers → Loc → Type 0
HasNothing c l = IsLocation l → kept c l ≡ Nothing
