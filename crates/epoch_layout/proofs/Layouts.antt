-- A layout that grows by one node at its end.
use Rattle.std.proofs.Common.{◌≡◌, ℕ, Some, None, List, [], ◌∷◌, ◌++◌, length, refl, sym, ap, ap₂, subst, ◌∙◌, arith}
use Rattle.std.specs.Prelude.{Option, option_map, is_none, slice_get}
use Rattle.std.specs.List.{AllByRecursion}
use Rattle.epoch_cut.specs.Numbered.{NumberedEpoch}
use Rattle.checkpoints.specs.Points.{CheckpointsAt, beginnings}
use Rattle.epoch_node.specs.Cores.{CanStart}
use Rattle.epoch_node.specs.Nodes.{NodeView, new_node}
use Rattle.epoch_layout.specs.declared.ends.Before.{Before}
use Rattle.epoch_layout.specs.declared.ends.After.{After}
use Rattle.epoch_layout.specs.Layouts.{CutRun, points_of, Links, ends_of, before_end, after_end, node_between, laid_out}

-- ---- a new node

pub can_start : (p : CheckpointsAt) (times : List ℕ) (e : NumberedEpoch) → p.times ≡ times → CanStart (record { job = p.job; times = times }) e → CanStart p e
can_start p times e h s = record { begins = subst (λ (ts : List ℕ). slice_get ts e.number ≡ Some e.first) (sym h) s.begins; ends = s.ends }

pub at_place : {X : Type 0} (P : X → Type 0) (front : List X) (x : X) (back : List X) → AllByRecursion P (front ++ x ∷ back) → P x
at_place P [] x back h = h.0
at_place P (f ∷ front) x back h = at_place P front x back h.1

module _ (capacity : ℕ) (run : CutRun) where
  node_by : CheckpointsAt → NumberedEpoch → Option Before → Option After → NodeView
  node_by points e before after = new_node (record { points = points; query = run.query; epoch = e; first = is_none before; last = is_none after }) (ends_of before after)

  -- a new node with the ends of these links
  pub new_between : (p : CheckpointsAt) (e : NumberedEpoch) (before : Option Before) (after : Option After) (b a : Option Links)
      → p.job ≡ run.job → p.times ≡ beginnings run.cuts → before ≡ option_map (before_end capacity) b → after ≡ option_map (after_end capacity) a
      → new_node (record { points = p; query = run.query; epoch = e; first = is_none before; last = is_none after }) (ends_of before after) ≡ node_between capacity run e b a
  unfolding node_by
  new_between p e before after b a job times bs as_ =
      ap (λ points. node_by points e before after) (λ i. record { job = job i; times = times i })
      ∙ ap₂ (node_by (points_of run) e) bs as_
      ∙ by b a where
        by : (b a : Option Links) → node_by (points_of run) e (option_map (before_end capacity) b) (option_map (after_end capacity) a) ≡ node_between capacity run e b a
        by None None = refl
        by None (Some l) = refl
        by (Some k) None = refl
        by (Some k) (Some l) = refl

-- ---- one node more

-- the links after the last of some nodes, each of which has links after it
abbrev pub last_of : Option Links → List Links → Option Links
last_of b [] = b
last_of b (l ∷ ls) = last_of (Some l) ls

pub last_push : (b : Option Links) (ls : List Links) (l : Links) → last_of b (ls ++ l ∷ []) ≡ Some l
last_push b [] l = refl
last_push b (k ∷ ls) l = last_push (Some k) ls l

module _ (capacity : ℕ) (run : CutRun) where
  -- the new nodes of these epochs, each with the next of the links after it
  abbrev pub opened : Option Links → List NumberedEpoch → List Links → List NodeView
  opened before [] ls = []
  opened before (e ∷ es) [] = []
  opened before (e ∷ es) (l ∷ ls) = node_between capacity run e before (Some l) ∷ opened (Some l) es ls

  pub push_open : (b : Option Links) (es : List NumberedEpoch) (ls : List Links) (e : NumberedEpoch) (l : Links) → length ls ≡ length es
      → opened b (es ++ e ∷ []) (ls ++ l ∷ []) ≡ opened b es ls ++ node_between capacity run e (last_of b ls) (Some l) ∷ []
  push_open b [] [] e l n = refl
  push_open b (d ∷ es) (k ∷ ls) e l n = ap (λ ns. node_between capacity run d b (Some k) ∷ ns) (push_open (Some k) es ls e l (omega (arith, n)))
  push_open b es ls e l n = absurd (omega (arith, n))

  pub push_last : (b : Option Links) (es : List NumberedEpoch) (ls : List Links) (e : NumberedEpoch) → length ls ≡ length es
      → laid_out capacity run b (es ++ e ∷ []) ls ≡ opened b es ls ++ node_between capacity run e (last_of b ls) None ∷ []
  push_last b [] [] e n = refl
  push_last b (d ∷ es) (k ∷ ls) e n = ap (λ ns. node_between capacity run d b (Some k) ∷ ns) (push_last (Some k) es ls e (omega (arith, n)))
  push_last b es ls e n = absurd (omega (arith, n))

  -- the nodes before the last one, as far as they are made
  pub record IsOpen (all rest : List NumberedEpoch) (last : NumberedEpoch) (nodes : List NodeView) (before : Option Before) : Type 0 where
    pub done : List NumberedEpoch
    pub links : List Links
    pub split : done ++ (rest ++ last ∷ []) ≡ all
    pub count : length links ≡ length done
    pub are : nodes ≡ opened None done links
    pub before_is : before ≡ option_map (before_end capacity) (last_of None links)
