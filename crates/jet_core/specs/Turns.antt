-- What an event of a core does to the core and to the links beside it.
use Rattle.std.specs.Prelude.{◌≡◌, ℕ, zero, suc, ◌+◌, List, [], ◌∷◌, set}
use Rattle.run_board.specs.declared.task.Turn.{Turn}
use Rattle.epoch_link.specs.ListLink.{inlet_end, outlet_end}
use Rattle.pass_parts.specs.Ends.{IsEndFrom, IsRefused}
use Rattle.epoch_node.specs.Cores.{StageView, Fresh, Asking, Answering, Done, Between, CoreView}
use Rattle.epoch_node.specs.Keeping.{KeepsCore}
use Rattle.epoch_node.specs.Events.{PhaseTraffic, IsEvent, WaitsAt, WhenNotYet}
use Rattle.jet_core.specs.declared.joints.Joint.{Joint}
use Rattle.jet_core.specs.Joints.{Link, got_on, sent_on, IsSound, joint_at, traffic_between}

-- the link is the same, and what the core at its other end sees of it
abbrev pub IsInletFrom : Link → Link → Type 0
IsInletFrom new old = IsEndFrom inlet_end new old

abbrev pub IsOutletFrom : Link → Link → Type 0
IsOutletFrom new old = IsEndFrom outlet_end new old

-- a pop was refused, since the link held nothing; a push, since it was full
abbrev pub IsPopRefused : Link → Link → Type 0
IsPopRefused old new = IsRefused inlet_end old new

abbrev pub IsPushRefused : Link → Link → Type 0
IsPushRefused old new = IsRefused outlet_end old new

-- what went through the two links of a phase
abbrev pub traffic_on : Link → Link → PhaseTraffic
traffic_on inlet outlet = record { got = got_on inlet; sent = sent_on outlet }

-- the core had its event on the two links of its phase
pub record TurnsOn (old new : CoreView) (inlet outlet inlet' outlet' : Link) (answer : Turn) : Type 0 where
  pub event : IsEvent old (traffic_on inlet outlet) new (traffic_on inlet' outlet') answer
  pub same_inlet : IsInletFrom inlet' inlet
  pub same_outlet : IsOutletFrom outlet' outlet
  pub waits : WhenNotYet answer (WaitsAt old.stage (traffic_on inlet outlet) (IsPopRefused inlet inlet') (IsPushRefused outlet outlet'))

-- which links these are, and that the others stay
pub record TurnsAsking (old new : CoreView) (previous next previous' next' : Joint) (answer : Turn) : Type 0 where
  pub on : TurnsOn old new next.ask previous.ask next'.ask previous'.ask answer
  pub previous_answer : previous'.answer ≡ previous.answer
  pub next_answer : next'.answer ≡ next.answer

pub record TurnsAnswering (old new : CoreView) (previous next previous' next' : Joint) (answer : Turn) : Type 0 where
  pub on : TurnsOn old new previous.answer next.answer previous'.answer next'.answer answer
  pub previous_ask : previous'.ask ≡ previous.ask
  pub next_ask : next'.ask ≡ next.ask

pub record Stays (old new : CoreView) (previous next previous' next' : Joint) : Type 0 where
  pub core : new ≡ old
  pub previous_same : previous' ≡ previous
  pub next_same : next' ≡ next

abbrev pub TurnsIn : StageView → CoreView → CoreView → Joint → Joint → Joint → Joint → Turn → Type 0
TurnsIn (Fresh t) old new previous next previous' next' answer = TurnsAsking old new previous next previous' next' answer
TurnsIn (Asking v) old new previous next previous' next' answer = TurnsAsking old new previous next previous' next' answer
TurnsIn (Answering f) old new previous next previous' next' answer = TurnsAnswering old new previous next previous' next' answer
TurnsIn (Done f) old new previous next previous' next' answer = Stays old new previous next previous' next'
TurnsIn Between old new previous next previous' next' answer = ⊥

-- a core had its event between these links
pub record TurnsBetween (old : CoreView) (previous next : Joint) (new : CoreView) (previous' next' : Joint) (answer : Turn) : Type 0 where
  pub event : TurnsIn old.stage old new previous next previous' next' answer
  pub previous_ask : IsSound previous'.ask
  pub previous_answer : IsSound previous'.answer
  pub next_ask : IsSound next'.ask
  pub next_answer : IsSound next'.answer

-- a core had its event on the links at this place of a line and at the next
pub record TurnsOne (old : CoreView) (js : List Joint) (place : ℕ) (new : CoreView) (js' : List Joint) : Type 0 where
  pub previous : Joint
  pub next : Joint
  pub answer : Turn
  pub joints_are : js' ≡ set (set js place previous) (place + 1) next
  pub turns : TurnsBetween old (joint_at js place) (joint_at js (place + 1)) new previous next answer

-- ---- in a line, where the links before the first core come first

-- the core at this place keeps what it is to keep of the links beside it
abbrev pub KeepsAt : ℕ → List CoreView → List Joint → Type 0
KeepsAt place [] js = ⊥
KeepsAt place (c ∷ cs) [] = ⊥
KeepsAt place (c ∷ cs) (j ∷ []) = ⊥
KeepsAt zero (c ∷ cs) (j ∷ i ∷ js) = KeepsCore c (traffic_between j i)
KeepsAt (suc place) (c ∷ cs) (j ∷ i ∷ js) = KeepsAt place cs (i ∷ js)

pub record TurnsHere (c : CoreView) (cs : List CoreView) (j i : Joint) (js : List Joint) (cs' : List CoreView) (js' : List Joint) : Type 0 where
  pub core : CoreView
  pub previous : Joint
  pub next : Joint
  pub answer : Turn
  pub cores_are : cs' ≡ core ∷ cs
  pub joints_are : js' ≡ previous ∷ next ∷ js
  pub turns : TurnsBetween c j i core previous next answer

pub record TurnsLater (Later : List CoreView → List Joint → Type 0) (c : CoreView) (j : Joint) (cs' : List CoreView) (js' : List Joint) : Type 0 where
  pub cores : List CoreView
  pub joints : List Joint
  pub cores_are : cs' ≡ c ∷ cores
  pub joints_are : js' ≡ j ∷ joints
  pub later : Later cores joints

-- the core at this place had its event, and no other core and no link further off changed
abbrev pub TurnsAt : ℕ → List CoreView → List Joint → List CoreView → List Joint → Type 0
TurnsAt place [] js cs' js' = ⊥
TurnsAt place (c ∷ cs) [] cs' js' = ⊥
TurnsAt place (c ∷ cs) (j ∷ []) cs' js' = ⊥
TurnsAt zero (c ∷ cs) (j ∷ i ∷ js) cs' js' = TurnsHere c cs j i js cs' js'
TurnsAt (suc place) (c ∷ cs) (j ∷ i ∷ js) cs' js' = TurnsLater (TurnsAt place cs (i ∷ js)) c j cs' js'
