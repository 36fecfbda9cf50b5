-- What the rule of the ring comes to.
use Rattle.std.specs.Prelude.{◌≡◌, ℕ, List, Option, true}
use mathlib.Core.Option.{some}
use lib.ListN.{get_elem?}
use Rattle.atomic_table.specs.Table.{State}
use Rattle.epoch_link.specs.Link.{Delivered}
use Rattle.epoch_link.specs.Ring.{Ring}
use Rattle.epoch_link.specs.declared.ring_link.view.View.{View}

-- just one of the views has this part
pub record IsJustOne {T : Type 0} (has_part : View T → Type 0) (views : List (View T)) : Type 0 where
  pub seat : ℕ
  pub view : View T
  pub is_there : get_elem? views seat ≡ some view
  pub has_it : has_part view
  pub no_other : (j : ℕ) (v : View T) → get_elem? views j ≡ some v → has_part v → j ≡ seat

-- just one view has the producer's part and just one the consumer's, and what the one sent is what the other got and the rest, of
-- which there are at most n
pub record DeliversInOrder {T : Type 0} (n : ℕ) (views : List (View T)) : Type 0 where
  pub producer : IsJustOne (λ v. v.produces ≡ true) views
  pub consumer : IsJustOne (λ v. v.consumes ≡ true) views
  pub delivered : Delivered producer.view.sent consumer.view.got n

abbrev pub RuleDelivers : Type 0 → Type 0
RuleDelivers T = (n : ℕ) (s : State (Option T) (View T)) → Ring n s → DeliversInOrder n s.views
