-- The window keeps its size.
use Rattle.std.proofs.Common.{◌≡◌, ◌-◌, length, refl, arith, length-take}
use Rattle.std.specs.Int.{w32, to_le_bytes}
use Rattle.isa.specs.declared.Effect.{Effect}
use Rattle.isa.specs.declared.Effect.TheVariants.{SetRegister, Jump, Branch, Load, Store, MoveOn}
use Rattle.isa.specs.Machine.{State, Retired, next, execute, effect_of, jumped, low_bytes, in_window, is_aligned}
use Rattle.isa.proofs.Window.{holds_by, length-overwritten}
use Rattle.record_model.proofs.Sound.{Leaves, on_landed, on_branched, on_loaded, on_stored, leaves_is, retires}

module _ (s : State) where
  abbrev HasItsSize : State → Type 0
  HasItsSize after = length after.memory ≡ length s.memory

  effect_keeps : (e : Effect) → Leaves (execute s e) HasItsSize
  effect_keeps (SetRegister d v) = refl
  effect_keeps (Jump d target) = on_landed (is_aligned target) (jumped s d target) HasItsSize refl
  effect_keeps (Branch taken target) = on_branched s taken target HasItsSize (λ p. refl)
  effect_keeps (Load d a n is_signed) = on_loaded s (in_window s a n) d a n is_signed HasItsSize (λ e. refl)
  effect_keeps (Store a n v) = on_stored s (in_window s a n) a n v HasItsSize (λ e.
      let held = holds_by s a n e in
      let above = held.above in
      let below = held.below in
      let few = length-take n (to_le_bytes w32 v) in
      length-overwritten s.memory (a - s.base) (low_bytes n v) (omega arith))
  effect_keeps MoveOn = refl
  effect_keeps other = tt

  -- a step that retires leaves a window of the same size
  pub step_keeps : (after : State) → next s ≡ Retired after → HasItsSize after
  step_keeps after h =
      let step = retires s after h in
      leaves_is (execute s (effect_of s step.instr)) after HasItsSize step.executes (effect_keeps (effect_of s step.instr))
