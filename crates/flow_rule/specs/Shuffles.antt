-- Shuffles: for each lane of a register the lane from which it comes.
use Rattle.std.specs.Prelude.{ℕ, zero, suc, ◌≡◌, ◌<◌, List, [], Option, IfSome}
use Rattle.std.specs.Option.{option_map_or}
use Rattle.flow_model.specs.declared.Loc.{Loc}
use Rattle.flow_model.specs.Flow.{lane}
use Rattle.flow_rule.specs.declared.shuffle.Shuffle.{Shuffle}
use Rattle.flow_rule.specs.Flows.{by_lane}

-- the lane that is chosen for lane i
abbrev pub chosen_at : Shuffle → ℕ → Option ℕ
chosen_at shuffle zero = shuffle.first
chosen_at shuffle (suc zero) = shuffle.second
chosen_at shuffle (suc (suc zero)) = shuffle.third
chosen_at shuffle (suc (suc (suc i))) = shuffle.fourth

-- of register r
abbrev pub shuffled_lanes : Shuffle → ℕ → ℕ → List Loc
shuffled_lanes shuffle r i = option_map_or (lane r) (chosen_at shuffle i) []

-- the lanes that are chosen are some of four
abbrev pub AreLanes : Shuffle → Type 0
AreLanes shuffle = (i : ℕ) → IfSome (chosen_at shuffle i) (λ j. j < 4)

-- these lanes of each register are chosen, lane by lane
abbrev pub Chooses : Shuffle → (ℕ → ℕ → List Loc) → Type 0
Chooses shuffle lanes = (r : ℕ) → by_lane (shuffled_lanes shuffle r) ≡ by_lane (lanes r)
