-- Nodes of one job, and the cursor that is handed on among them.
use Rattle.std.proofs.Common.{◌≡◌, List, [], ◌∷◌, ◌++◌, reverse, sym, ap, subst, ◌∙◌}
use Rattle.std.specs.Prelude.{Option, Some, None, IfSome}
use Rattle.std.specs.List.{AllZip}
use Rattle.std.proofs.lemmas.List.Elements.{All-cons, All-head, All-tail}
use Rattle.replayer.specs.Jobs.{Job}
use Rattle.replayer.specs.Positions.{CursorAt}
use Rattle.epoch_node.specs.Nodes.{NodeView, IsLedFrom}
use Rattle.epoch_turns.specs.Groups.{AreOfJob, AreOfOneJob}
use Rattle.epoch_turns.proofs.Lists.{all_front, all_rest, all_last, all_reverse, all_back}

abbrev IsOf : Job → NodeView → Type 0
IsOf job n = n.core.setup.points.job ≡ job

-- ---- nodes of one job

led_of_job : (job : Job) (new old : List NodeView) → AllZip IsLedFrom new old → AreOfJob job old → AreOfJob job new
led_of_job job [] [] h a = a
led_of_job job (n ∷ new) (o ∷ old) h a =
    All-cons (IsOf job) n new (ap (λ i. i.points.job) h.0.setup ∙ All-head (IsOf job) o old a) (led_of_job job new old h.1 (All-tail (IsOf job) o old a))
led_of_job job new old h a = absurd h

pub stays_one_job : (new old : List NodeView) → AllZip IsLedFrom new old → AreOfOneJob old → AreOfOneJob new
stays_one_job new old led a = (a.0, led_of_job a.0 new old led a.1)

-- the nodes of a group after its turn, from the last to the first
pub led_of_one_job : (left new nodes : List NodeView) → AreOfOneJob left → reverse left ≡ nodes → AllZip IsLedFrom (reverse new) nodes → AreOfOneJob new
led_of_one_job left new nodes a same led =
    (a.0, all_back (IsOf a.0) new (led_of_job a.0 (reverse new) nodes led (subst (AreOfJob a.0) same (all_reverse (IsOf a.0) left a.1))))

-- those that are left, and those that are taken from the last to the first
pub left_of_one_job : (nodes left taken : List NodeView) → AreOfOneJob nodes → left ++ taken ≡ nodes → AreOfOneJob left
left_of_one_job nodes left taken a e = (a.0, all_front (IsOf a.0) left taken (subst (AreOfJob a.0) (sym e) a.1))

pub taken_of_one_job : (nodes left taken : List NodeView) → AreOfOneJob nodes → left ++ reverse taken ≡ nodes → AreOfOneJob taken
taken_of_one_job nodes left taken a e = (a.0, all_back (IsOf a.0) taken (all_rest (IsOf a.0) left (reverse taken) (subst (AreOfJob a.0) (sym e) a.1)))

-- ---- a cursor on its way

-- the nodes that it is still to pass are of its job
pub record IsOnItsWay (from : List NodeView) (cursor : Option CursorAt) : Type 0 where
  pub job : Job
  pub nodes : AreOfJob job from
  pub of_job : IfSome cursor (λ c. c.job ≡ job)

pub sets_out : (from : List NodeView) → AreOfOneJob from → IsOnItsWay from None
sets_out from a = record { job = a.0; nodes = a.1; of_job = tt }

same_job : (job other : Job) (cursor : Option CursorAt) → job ≡ other → IfSome cursor (λ c. c.job ≡ job) → IfSome cursor (λ c. c.job ≡ other)
same_job job other None e h = tt
same_job job other (Some c) e h = h ∙ e

-- the node on top is of its job
pub may_take : (from rest : List NodeView) (cursor : Option CursorAt) (n : NodeView) → IsOnItsWay from cursor → from ≡ rest ++ n ∷ [] → IfSome cursor (λ c. c.job ≡ n.core.setup.points.job)
may_take from rest cursor n w e =
    same_job w.job n.core.setup.points.job cursor (sym (all_last (IsOf w.job) rest n (subst (AreOfJob w.job) e w.nodes))) w.of_job

-- what that node has after its turn goes on
pub goes_on : (from rest : List NodeView) (cursor next : Option CursorAt) (n later : NodeView) → IsOnItsWay from cursor → from ≡ rest ++ n ∷ [] → IsLedFrom later n
    → IfSome next (λ c. c.job ≡ later.core.setup.points.job) → IsOnItsWay rest next
goes_on from rest cursor next n later w e led h =
    let all = subst (AreOfJob w.job) e w.nodes in
    record {
      job = w.job;
      nodes = all_front (IsOf w.job) rest (n ∷ []) all;
      of_job = same_job later.core.setup.points.job w.job next (ap (λ i. i.points.job) led.setup ∙ all_last (IsOf w.job) rest n all) h;
    }
