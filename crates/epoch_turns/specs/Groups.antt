-- What contracts see of a group of nodes, and what its turns do.
use Rattle.std.specs.Prelude.{◌≡◌, ◌⊎◌, ℕ, List, [], ◌∷◌, ◌++◌, Any, zip, refl}
use mathlib.Core.Path.{◌∙◌}
use Rattle.std.specs.List.{All, AllZip}
use Rattle.replayer.specs.Jobs.{Job}
use Rattle.epoch_node.specs.Nodes.{NodeView, HasMoved, IsDone, IsStill, IsBroken, IsLedFrom, led_refl, led_trans}

-- the number of a group on the board, and its nodes from the first to the last
pub record GroupView : Type 0 where
  pub number : ℕ
  pub nodes : List NodeView

abbrev pub number_of : NodeView → ℕ
number_of n = n.core.setup.epoch.number

-- all nodes are done
abbrev pub IsGroupEnded : GroupView → Type 0
IsGroupEnded g = All IsDone g.nodes

-- the checkpoints that the nodes were given are all of one job
abbrev pub AreOfJob : Job → List NodeView → Type 0
AreOfJob job nodes = All (λ n. n.core.setup.points.job ≡ job) nodes

abbrev pub AreOfOneJob : List NodeView → Type 0
AreOfOneJob nodes = (job : Job) × AreOfJob job nodes

-- the nodes of these groups, which come from the last to the first
abbrev pub nodes_of : List GroupView → List NodeView
nodes_of [] = []
nodes_of (g ∷ gs) = nodes_of gs ++ g.nodes

-- ---- what happened in a turn

-- it is done, or nothing happened to it
abbrev pub HasRested : NodeView → NodeView → Type 0
HasRested new old = IsDone new ⊎ IsStill new old

-- some node moved
abbrev pub SomeMoved : List NodeView → List NodeView → Type 0
SomeMoved new old = Any (λ pair. HasMoved pair.0 pair.1) (zip new old)

-- ---- the same group, later

-- turns lead from the nodes of the old group, one by one, to those of the new
pub record IsGroupLedFrom (new old : GroupView) : Type 0 where
  pub number : new.number ≡ old.number
  pub nodes : AllZip IsLedFrom new.nodes old.nodes

all_led_refl : (ns : List NodeView) → AllZip IsLedFrom ns ns
all_led_refl [] = tt
all_led_refl (n ∷ ns) = (led_refl n, all_led_refl ns)

pub all_led_trans : (xs ys zs : List NodeView) → AllZip IsLedFrom ys xs → AllZip IsLedFrom zs ys → AllZip IsLedFrom zs xs
all_led_trans [] [] [] f g = tt
all_led_trans [] [] (z ∷ zs) f g = g
all_led_trans [] (y ∷ ys) zs f g = absurd f
all_led_trans (x ∷ xs) [] zs f g = absurd f
all_led_trans (x ∷ xs) (y ∷ ys) [] f g = g
all_led_trans (x ∷ xs) (y ∷ ys) (z ∷ zs) f g = (led_trans x y z f.0 g.0, all_led_trans xs ys zs f.1 g.1)

pub group_led_refl : (g : GroupView) → IsGroupLedFrom g g
group_led_refl g = record { number = refl; nodes = all_led_refl g.nodes }

pub group_led_trans : (a b c : GroupView) → IsGroupLedFrom b a → IsGroupLedFrom c b → IsGroupLedFrom c a
group_led_trans a b c f g = record { number = g.number ∙ f.number; nodes = all_led_trans a.nodes b.nodes c.nodes f.nodes g.nodes }

-- what is led from a broken node is broken
abbrev pub StaysBroken : NodeView → NodeView → Type 0
StaysBroken new old = IsBroken old → IsBroken new

abbrev pub BrokenNodesStay : Type 0
BrokenNodesStay = (new old : GroupView) → IsGroupLedFrom new old → AllZip StaysBroken new.nodes old.nodes
