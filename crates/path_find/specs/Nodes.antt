-- The paths that nodes stand for.
use Rattle.std.specs.Prelude.{ℕ, suc, ◌<◌, List, [], ◌∷◌, ◌++◌, Option, Some, None, slice_index_or}
use Rattle.path_find.specs.declared.Arrival.{Arrival}
use Rattle.path_find.specs.declared.nodes.Node.{Node}

-- the path of the previous node, if there is one
abbrev pub previous_path : List (List Arrival) → Option ℕ → List Arrival
previous_path paths None = []
previous_path paths (Some i) = slice_index_or paths i []

abbrev pub path_of_node : List (List Arrival) → Node → List Arrival
path_of_node paths n = n.arrival ∷ previous_path paths n.previous

-- the paths of nodes that are made after those of these paths
abbrev pub paths_from : List (List Arrival) → List Node → List (List Arrival)
paths_from paths [] = paths
paths_from paths (n ∷ ns) = paths_from (paths ++ path_of_node paths n ∷ []) ns

-- the path of each node
abbrev pub paths_of : List Node → List (List Arrival)
paths_of nodes = paths_from [] nodes

-- the previous node has a lower number
abbrev pub IsEarlier : ℕ → Option ℕ → Type 0
IsEarlier n None = Unit {0}
IsEarlier n (Some i) = i < n

-- so it is with each node, where the first of them has the number n
abbrev pub AreEarlier : ℕ → List Node → Type 0
AreEarlier n [] = Unit {0}
AreEarlier n (x ∷ xs) = IsEarlier n x.previous × AreEarlier (suc n) xs
