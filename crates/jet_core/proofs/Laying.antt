-- A new line that grows by one core at its end.
use Rattle.std.proofs.Common.{◌≡◌, ℕ, suc, List, [], ◌∷◌, ◌++◌, length, refl, ap, ap₂, sym, ◌∙◌, Bool, true, false, arith}
use Rattle.std.specs.Prelude.{nat_eq}
use Rattle.std.specs.List.{AllByRecursion}
use Rattle.std.proofs.lemmas.Grind.{common_steps}
use Rattle.checkpoints.specs.Points.{CheckpointsAt, beginnings}
use Rattle.epoch_cut.specs.Numbered.{NumberedEpoch}
use Rattle.epoch_node.specs.Cores.{CoreView, new_core}
use Rattle.epoch_layout.specs.Layouts.{CutRun, setup_at}
use Rattle.jet_core.specs.declared.joints.Joint.{Joint}
use Rattle.jet_core.specs.Joints.{no_joint, IsNewJoint}
use Rattle.jet_core.specs.Lines.{is_last, new_cores}

-- whether a core after these is the first
abbrev pub is_first_after : Bool → List NumberedEpoch → Bool
is_first_after first [] = first
is_first_after first (e ∷ es) = is_first_after false es

more_last : (es : List NumberedEpoch) (e : NumberedEpoch) → is_last (es ++ e ∷ []) ≡ false
more_last [] e = refl
more_last (d ∷ es) e = refl

module _ (run : CutRun) where
  -- the new cores of these epochs, none of which is the last
  abbrev pub front_cores : Bool → List NumberedEpoch → List CoreView
  front_cores first [] = []
  front_cores first (e ∷ es) = new_core (setup_at run e first false) ∷ front_cores false es

  pub front_push : (first : Bool) (es : List NumberedEpoch) (e : NumberedEpoch) → front_cores first (es ++ e ∷ []) ≡ front_cores first es ++ new_core (setup_at run e (is_first_after first es) false) ∷ []
  front_push first [] e = refl
  front_push first (d ∷ es) e = ap (λ cs. new_core (setup_at run d first false) ∷ cs) (front_push false es e)

  pub last_push : (first : Bool) (es : List NumberedEpoch) (e : NumberedEpoch) → new_cores run first (es ++ e ∷ []) ≡ front_cores first es ++ new_core (setup_at run e (is_first_after first es) true) ∷ []
  last_push first [] e = refl
  last_push first (d ∷ es) e =
      ap₂ (λ (last : Bool) (cs : List CoreView). new_core (setup_at run d first last) ∷ cs) (more_last es e) (last_push false es e)

  pub front_count : (first : Bool) (es : List NumberedEpoch) → length (front_cores first es) ≡ length es
  front_count first [] = refl
  front_count first (e ∷ es) = ap suc (front_count false es)

-- a line before its last core is made
pub record IsGrowing (capacity : ℕ) (run : CutRun) (all rest : List NumberedEpoch) (last : NumberedEpoch) (cs : List CoreView) (js : List Joint) : Type 0 where
  pub done : List NumberedEpoch
  pub inner : List Joint
  pub split : done ++ (rest ++ last ∷ []) ≡ all
  pub count : length inner ≡ length done
  pub cores_are : cs ≡ front_cores run true done
  pub joints_are : js ≡ no_joint ∷ inner
  pub new : AllByRecursion (IsNewJoint capacity) inner

pub new_push : (capacity : ℕ) (inner : List Joint) (i : Joint) → AllByRecursion (IsNewJoint capacity) inner → IsNewJoint capacity i → AllByRecursion (IsNewJoint capacity) (inner ++ i ∷ [])
new_push capacity [] i a n = (n, tt)
new_push capacity (j ∷ inner) i a n = (a.0, new_push capacity inner i a.1 n)

-- the core that is made is that of the epoch
pub made_at : (run : CutRun) (p : CheckpointsAt) (e : NumberedEpoch) (first last made : Bool) → p.job ≡ run.job → p.times ≡ beginnings run.cuts → made ≡ first
    → new_core (record { points = p; query = run.query; epoch = e; first = made; last = last }) ≡ new_core (setup_at run e first last)
made_at run p e first last made job times f =
    ap₂ (λ (points : CheckpointsAt) (first : Bool). new_core (record { points = points; query = run.query; epoch = e; first = first; last = last })) (λ i. record { job = job i; times = times i }) f

-- the first core is made where there is none yet
pub first_made : (es : List NumberedEpoch) (n : ℕ) → n ≡ length es → nat_eq n 0 ≡ is_first_after true es
first_made [] n e = grind (arith, common_steps, e)
first_made (d ∷ es) n e = let some : nat_eq n 0 ≡ false = grind (arith, common_steps, e) in some ∙ sym (later es) where
  later : (es : List NumberedEpoch) → is_first_after false es ≡ false
  later [] = refl
  later (d ∷ es) = later es
