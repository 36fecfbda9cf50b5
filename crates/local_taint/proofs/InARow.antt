-- What was tracked in a row of plain steps.
use Rattle.std.proofs.Common.{◌≡◌, ℕ, suc, ◌+◌, ◌^◌, ◌<◌, ◌≤◌, subst, arith}
use Rattle.std.specs.Prelude.{Option, max}
use Rattle.replayer.specs.Jobs.{Job, trace_of}
use Rattle.replayer.specs.Told.{AreTold, NoneYet, OneMore}
use Rattle.replayer.proofs.Told.{went_on}
use Rattle.taint_shadow.specs.Labels.{LabelWords}
use Rattle.taint_tracking.specs.declared.tracking.Tracking.{Tracking}
use Rattle.taint_tracking.specs.Watched.{quiet_of, IsOfSteps, Tracks, TracksPlain}

module _ {A M : Type 0} (words : LabelWords A M) (wants : Option (Tracking A) → ℕ → Type 0) (job : Job) where
  -- up to a time up to which it is quiet each step is tracked, and it is quiet as long
  pub tracks_row : (until : ℕ) → until < 2 ^ 64 → (first : ℕ) (was : Option (Tracking A)) → until ≤ quiet_of was
      → (t : ℕ) (now : Option (Tracking A)) → AreTold (TracksPlain words) wants job first was t now → t ≤ max until first
      → Tracks words (trace_of job) first t was now × (until ≤ quiet_of now)
  tracks_row until small first was quiet t now NoneYet within = ((λ q start here. here), quiet)
  tracks_row until small first was quiet t now (OneMore last w step next so_far wanted fits at told) within =
      let begun = went_on so_far in
      let before : last < until = omega (arith, within, begun) in
      let row = tracks_row until small first was quiet last w so_far (omega (arith, before)) in
      let next_time : last + 1 ≡ suc last = omega arith in
      ((λ q start here. subst (λ (k : ℕ). IsOfSteps words q (trace_of job) start k next) next_time (told.tracks until last row.1 before fits (trace_of job) at q start (row.0 q start here))), told.quiet until small row.1)
