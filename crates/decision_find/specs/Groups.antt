-- The decisions of each place, counted.
use Rattle.std.specs.Prelude.{◌≡◌, ◌+◌, List, [], ◌∷◌, length, map, Option, Some, None}
use Rattle.std.specs.BTreeMap.{get}
use Rattle.taint_shadow.specs.declared.labels.Label.{Label}
use Rattle.taint_shadow.specs.Labels.{KeepsLabels, MakesLabel, mean_together}
use Rattle.decision_find.specs.declared.Place.{Place}
use Rattle.decision_find.specs.Decisions.{Decision}
use Rattle.decision_find.specs.Places.{place_cmp, places, decided_there, sources_of}
use Rattle.source_labels.specs.declared.labels.SourceLabels.{SourceLabels}
use Rattle.decision_find.specs.declared.looks.Look.{Look}
use Rattle.decision_find.specs.declared.groups.Group.{Group}
use Rattle.decision_find.specs.declared.groups.Groups.{Groups}
use Rattle.source_labels.specs.Words.{label_words}

-- the group of the decision d and of those after it: the instruction and the time of the first, how many they are, and a
-- label of their source bytes
pub record IsGroupOf (labels : SourceLabels) (d : Decision) (ds : List Decision) (g : Group) : Type 0 where
  pub instr : g.instr ≡ d.instr
  pub first : g.first ≡ d.time
  pub count : g.count ≡ length (d ∷ ds)
  pub sources : MakesLabel label_words labels (sources_of (d ∷ ds)) g.label

-- no decision has no group
abbrev pub IsGroup : SourceLabels → List Decision → Option Group → Type 0
IsGroup labels [] None = Unit {0}
IsGroup labels [] (Some g) = ⊥
IsGroup labels (d ∷ ds) None = ⊥
IsGroup labels (d ∷ ds) (Some g) = IsGroupOf labels d ds g

-- the groups of decisions: each of their places has its own, and no other place has one
pub record AreGroups (labels : SourceLabels) (ds : List Decision) (groups : Groups) : Type 0 where
  pub keys : map (λ e. e.0) groups.by_place.entries ≡ places ds
  pub each : (p : Place) → IsGroup labels (decided_there p ds) (get place_cmp groups.by_place p)

-- a group with one decision more, which has this label
pub record Joins (old : SourceLabels) (g : Group) (label : Label) (new : SourceLabels) (joined : Group) : Type 0 where
  pub keeps : KeepsLabels label_words old new
  pub sources : MakesLabel label_words new (mean_together label_words old g.label label) joined.label
  pub count : joined.count ≡ g.count + 1
  pub rest : joined ≡ record g { count = joined.count; label = joined.label }

-- what the group of a place is with one decision more, of a look, which has this label: that decision's own, where the
-- place had none
abbrev pub Grows : SourceLabels → Option Group → Look → Label → SourceLabels → Group → Type 0
Grows old None look label new g = g ≡ record { instr = look.instr; count = 1; first = look.time; label = label }
Grows old (Some h) look label new g = Joins old h label new g

-- the label of each group stands
abbrev pub HaveLabels : SourceLabels → Groups → Type 0
HaveLabels labels groups =
    (p : Place) (g : Group) → get place_cmp groups.by_place p ≡ Some g → label_words.stands labels g.label
