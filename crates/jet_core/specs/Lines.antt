-- A line of cores, each between its links.
use Rattle.std.specs.Prelude.{◌≡◌, ℕ, ◌+◌, ◌<◌, Bool, true, false, Some, None, List, [], ◌∷◌, ◌++◌, length}
use Rattle.std.specs.List.{AllByRecursion}
use Rattle.log_model.specs.Logs.{steps}
use Rattle.report_model.specs.Query.{AreLocated}
use Rattle.epoch_model.specs.Cutting.{IsCutting}
use Rattle.epoch_cut.specs.Numbered.{NumberedEpoch}
use Rattle.epoch_link.specs.Link.{Delivered}
use Rattle.stream_model.specs.Streams.{is_ended}
use Rattle.pass_parts.specs.Ends.{got_by, sent_by}
use Rattle.epoch_node.specs.declared.stage.Phase.TheVariants as phase
use Rattle.epoch_node.specs.Cores.{CoreSetup, StageView, Fresh, Asking, Answering, Done, Between, CoreView, phase_of, new_core}
use Rattle.epoch_node.specs.Keeping.{Traffic, KeepsCore}
use Rattle.epoch_layout.specs.Layouts.{CutRun, epochs_of, setup_at}
use Rattle.jet_core.specs.declared.joints.Joint.{Joint}
use Rattle.jet_core.specs.Joints.{Link, no_joint, IsNewJoint, traffic_between}

-- what a line works on, and how many messages each of its links holds
pub record Plan : Type 0 where
  pub run : CutRun
  pub capacity : ℕ

abbrev pub IsCoreDone : CoreView → Type 0
IsCoreDone c = phase_of c.stage ≡ phase.Done

abbrev pub AreDone : List CoreView → Type 0
AreDone cs = AllByRecursion IsCoreDone cs

-- no epoch follows
abbrev pub is_last : List NumberedEpoch → Bool
is_last [] = true
is_last (e ∷ es) = false

-- ---- a new line

module _ (run : CutRun) where
  -- new cores of these epochs, the last of which is the last of the run or not
  abbrev pub new_cores : Bool → List NumberedEpoch → List CoreView
  new_cores first [] = []
  new_cores first (e ∷ es) = new_core (setup_at run e first (is_last es)) ∷ new_cores false es

-- these are new cores of the run's epochs, in order, and new links between neighbours
pub record IsLaidOut (p : Plan) (cs : List CoreView) (js : List Joint) : Type 0 where
  pub cutting : IsCutting (steps p.run.job.log) p.run.cuts
  pub located : AreLocated p.run.query.points
  pub holds_some : 0 < p.capacity
  pub cores_are : cs ≡ new_cores p.run true (epochs_of p.run)
  pub inner : List Joint
  pub new : AllByRecursion (IsNewJoint p.capacity) inner
  pub count : length inner + 1 ≡ length cs
  pub joints_are : js ≡ no_joint ∷ (inner ++ no_joint ∷ [])

-- ---- a line, as far as it has come

-- a link of this capacity
abbrev pub IsLinkOf : ℕ → Link → Type 0
IsLinkOf capacity None = Unit {0}
IsLinkOf capacity (Some l) = (l.capacity ≡ capacity) × Delivered l.sent l.got l.capacity

-- who answers got an End of the asks, and sent one
abbrev pub HasSettled : StageView → Traffic → Type 0
HasSettled (Fresh t) w = Unit {0}
HasSettled (Asking v) w = Unit {0}
HasSettled (Answering f) w = (is_ended (got_by w.asks_got) ≡ true) × (is_ended (sent_by true true w.asks_sent) ≡ true)
HasSettled (Done f) w = (is_ended (got_by w.asks_got) ≡ true) × (is_ended (sent_by true true w.asks_sent) ≡ true)
HasSettled Between w = ⊥

-- a core stands between its links
pub record StandsBetween (capacity : ℕ) (i : CoreSetup) (c : CoreView) (previous next : Joint) : Type 0 where
  pub setup : c.setup ≡ i
  pub keeps : KeepsCore c (traffic_between previous next)
  pub settled : HasSettled c.stage (traffic_between previous next)
  pub ask : IsLinkOf capacity next.ask
  pub answer : IsLinkOf capacity next.answer

module _ (p : Plan) where
  -- the cores of these epochs, each between its links
  abbrev pub AllStand : Bool → List NumberedEpoch → List CoreView → List Joint → Type 0
  AllStand first [] [] (j ∷ []) = Unit {0}
  AllStand first [] [] [] = ⊥
  AllStand first [] [] (j ∷ i ∷ js) = ⊥
  AllStand first [] (c ∷ cs) js = ⊥
  AllStand first (e ∷ es) [] js = ⊥
  AllStand first (e ∷ es) (c ∷ cs) [] = ⊥
  AllStand first (e ∷ es) (c ∷ cs) (j ∷ []) = ⊥
  AllStand first (e ∷ es) (c ∷ cs) (j ∷ i ∷ js) = StandsBetween p.capacity (setup_at p.run e first (is_last es)) c j i × AllStand false es cs (i ∷ js)

-- these are the cores of the run, in order, each between its links
pub record IsLineOf (p : Plan) (cs : List CoreView) (js : List Joint) : Type 0 where
  pub cutting : IsCutting (steps p.run.job.log) p.run.cuts
  pub located : AreLocated p.run.query.points
  pub holds_some : 0 < p.capacity
  pub stand : AllStand p true (epochs_of p.run) cs js
