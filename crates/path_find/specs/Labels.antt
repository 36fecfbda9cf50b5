-- What labels stand for: the paths of nodes.
use Rattle.std.specs.Prelude.{◌≡◌, ◌<◌, Bool, true, false, List, [], Option, Some, None, length, slice_index_or}
use Rattle.path_find.specs.declared.Arrival.{Arrival}
use Rattle.path_find.specs.declared.nodes.Node.{Node}
use Rattle.path_find.specs.declared.nodes.Label.{Label}
use Rattle.path_find.specs.declared.nodes.Label.TheVariants.{Nothing, Read, At}
use Rattle.path_find.specs.Nodes.{paths_of}

abbrev pub is_nothing : Label → Bool
is_nothing Nothing = true
is_nothing Read = false
is_nothing (At i) = false

-- the node of the label is there
abbrev pub StandsIn : List Node → Label → Type 0
StandsIn nodes Nothing = Unit {0}
StandsIn nodes Read = Unit {0}
StandsIn nodes (At i) = i < length nodes

-- the path that a label stands for. What the step at hand reads has no arrival yet
abbrev pub path_at : List Node → Label → Option (List Arrival)
path_at nodes Nothing = None
path_at nodes Read = Some []
path_at nodes (At i) = Some (slice_index_or (paths_of nodes) i [])

-- a label stands, for this path
pub record MakesLabel (nodes : List Node) (path : Option (List Arrival)) (label : Label) : Type 0 where
  pub stands : StandsIn nodes label
  pub means : path_at nodes label ≡ path

-- what stood stands, for the same path
abbrev pub KeepsLabels : List Node → List Node → Type 0
KeepsLabels old new = (label : Label) → StandsIn old label → MakesLabel new (path_at old label) label
