-- Four labels at once.
use Rattle.std.specs.Prelude.{ℕ, zero, suc, ◌-◌, ◌<◌, nat_lt, Bool, if◌then◌else◌, Option}
use Rattle.std.specs.Option.{option_map_or}
use Rattle.flow_rule.specs.declared.shape.Mixing.{Mixing}
use Rattle.flow_rule.specs.declared.shape.Mixing.TheVariants.{EachLane, AllLanes, ShiftedLanes, FirstLane}
use Rattle.flow_rule.specs.declared.shuffle.Shuffle.{Shuffle}
use Rattle.taint_shadow.specs.declared.labels.Label.{Label}
use Rattle.taint_shadow.specs.declared.lanes.Lanes.{Lanes}
use Rattle.taint_shadow.specs.Labels.{LabelWords, MakesLabel, KeepsLabels, mean_together, nothing_label}

-- the label of a lane
abbrev pub lane_at : Lanes → ℕ → Label
lane_at x zero = x.first
lane_at x (suc zero) = x.second
lane_at x (suc (suc zero)) = x.third
lane_at x (suc (suc (suc i))) = x.fourth

-- one label in each lane
abbrev pub alike : Label → Lanes
alike l = record { first = l; second = l; third = l; fourth = l }

abbrev pub clean : Lanes
clean = alike nothing_label

-- the label of a lane, if one is chosen; of none that of what came from nowhere
abbrev pub chosen_label : Lanes → Option ℕ → Label
chosen_label x lane = option_map_or (lane_at x) lane nothing_label

abbrev pub shuffled : Lanes → Shuffle → Lanes
shuffled x shuffle = record {
  first = chosen_label x shuffle.first;
  second = chosen_label x shuffle.second;
  third = chosen_label x shuffle.third;
  fourth = chosen_label x shuffle.fourth;
}

-- lane i of a load of n bytes: the lanes above are like the highest byte's, or came from nowhere
abbrev pub extended_lane : Lanes → ℕ → Bool → ℕ → Label
extended_lane x n fills i = if nat_lt i n then lane_at x i else if fills then lane_at x (n - 1) else nothing_label

-- what flows together, where it has one label: the first lane alone gets it, or all do
abbrev pub mixed_label : Mixing → Label → Lanes
mixed_label FirstLane l = record { first = l; second = nothing_label; third = nothing_label; fourth = nothing_label }
mixed_label EachLane l = alike l
mixed_label AllLanes l = alike l
mixed_label ShiftedLanes l = alike l

module _ {A M : Type 0} (words : LabelWords A M) where
  -- the label of each lane stands
  pub record LanesStand (labels : A) (x : Lanes) : Type 0 where
    pub at : (i : ℕ) → i < 4 → words.stands labels (lane_at x i)

  -- what four lanes mean together
  abbrev pub all_mean : A → Lanes → M
  all_mean labels x = words.united (words.means labels x.first) (words.united (words.means labels x.second)
      (words.united (words.means labels x.third) (words.means labels x.fourth)))

  -- lane i below n means what f gives for it now, and the other labels are kept
  pub record MakesLanes (old : A) (n : ℕ) (f : ℕ → M) (new : A) (x : Lanes) : Type 0 where
    pub made : (i : ℕ) → i < n → MakesLabel words new (f i) (lane_at x i)
    pub keeps : KeepsLabels words old new

  -- what lane i of both means together
  abbrev pub both_mean : A → Lanes → Lanes → ℕ → M
  both_mean labels x y i = mean_together words labels (lane_at x i) (lane_at y i)
