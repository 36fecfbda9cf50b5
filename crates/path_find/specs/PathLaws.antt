-- What is always true of paths.
use Rattle.std.specs.Prelude.{◌≡◌, ℕ, ◌≤◌, ◌↔◌, true, List, ◌∷◌, length, Some, All, Contains}
use Rattle.std.specs.List.{find}
use Rattle.isa.specs.Encodings.{Fits}
use Rattle.flow_model.specs.declared.Loc.{Loc}
use Rattle.flow_model.specs.declared.Rule.{Rule}
use Rattle.flow_model.specs.declared.SourceByte.{SourceByte}
use Rattle.flow_model.specs.declared.StepSeen.{StepSeen}
use Rattle.lists.specs.Sets.{has}
use Rattle.flow_model.specs.Orders.{source_cmp}
use Rattle.flow_model.specs.Flow.{from}
use Rattle.flow_model.specs.Origins.{Policy, origins, step_at}
use Rattle.flow_model.specs.Ranges.{IsLocation}
use Rattle.path_find.specs.declared.Arrival.{Arrival}
use Rattle.path_find.specs.Paths.{IsPath, path}

-- a path exists exactly where s is among the origins, whatever else the policy introduces
abbrev pub PathsAreOrigins : Type 0
PathsAreOrigins = (policy : Policy) (s : SourceByte) (trace : List StepSeen) (t : ℕ) (l : Loc) → policy.introduces s ≡ true
    → Contains (origins policy trace t l) s ↔ ((p : List Arrival) × IsPath policy.rule s trace t l p)

-- and exactly there the one path exists
abbrev pub OnePathIsOrigin : Type 0
OnePathIsOrigin = (policy : Policy) (s : SourceByte) (trace : List StepSeen) (t : ℕ) (l : Loc) → policy.introduces s ≡ true
    → Contains (origins policy trace t l) s ↔ ((p : List Arrival) × (path policy.rule s trace t l ≡ Some p))

-- the one path is a path
abbrev pub OnePathIsPath : Type 0
OnePathIsPath = (rule : Rule) (s : SourceByte) (trace : List StepSeen) (t : ℕ) (l : Loc) (p : List Arrival)
    → path rule s trace t l ≡ Some p → IsPath rule s trace t l p

-- what is before the latest arrival of the one path is the one path to where its hop came from, at the hop's time: so each
-- beginning of the run's path is the path of an earlier time
abbrev pub BeginningIsPath : Type 0
BeginningIsPath = (rule : Rule) (s : SourceByte) (trace : List StepSeen) (t : ℕ) (l : Loc) (a b : Arrival) (bs : List Arrival)
    → path rule s trace t l ≡ Some (a ∷ b ∷ bs) → path rule s trace a.number b.loc ≡ Some (b ∷ bs)

-- in a hop of the one path the content comes from the first location of the flow table that has s among its origins
abbrev pub HopIsFromFirst : Type 0
HopIsFromFirst = (policy : Policy) (s : SourceByte) (trace : List StepSeen) (t : ℕ) (l : Loc) (a b : Arrival) (bs : List Arrival) (step : StepSeen)
    → policy.introduces s ≡ true → path policy.rule s trace t l ≡ Some (a ∷ b ∷ bs) → step_at trace a.number ≡ Some step
    → find (λ m. has source_cmp s (origins policy trace a.number m)) (from policy.rule step a.loc) ≡ Some b.loc

-- arrivals are at most as many as steps
abbrev pub PathIsShort : Type 0
PathIsShort = (rule : Rule) (s : SourceByte) (trace : List StepSeen) (t : ℕ) (l : Loc) (p : List Arrival) → IsPath rule s trace t l p → length p ≤ t

-- each arrival of a path to a location is at a location, where the instruction of each step has a word
abbrev pub PathIsLocated : Type 0
PathIsLocated = (rule : Rule) (s : SourceByte) (trace : List StepSeen) (t : ℕ) (l : Loc) (p : List Arrival) → All (λ x. Fits x.instr) trace
    → IsLocation l → IsPath rule s trace t l p → All (λ a. IsLocation a.loc) p
