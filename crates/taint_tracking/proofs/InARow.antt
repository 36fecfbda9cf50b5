-- An epoch that is tracked while there is memory.
use Rattle.std.proofs.Common.{◌≡◌, ℕ, true, false, refl, ap, sym, subst, arith}
use Rattle.std.specs.Prelude.{Option, Some, None, IfSome, Result, Ok, Err, OnOk}
use Rattle.std.specs.Option.{is_some}
use Rattle.std.specs.Result.{result_err}
use Rattle.isa.specs.declared.Instr.{Instr}
use Rattle.rv_machine.specs.Running.{PassesBy}
use Rattle.taint_shadow.specs.Labels.{LabelWords}
use Rattle.taint_tracking.specs.declared.tracking.Tracking.{Tracking}
use Rattle.taint_tracking.specs.Following.{IsSound, IsTurned}
use Rattle.taint_tracking.specs.Watched.{unless_faulty, TracksPlain}
use Rattle.taint_tracking.proofs.Following.{quiet_step}

-- there is a tracking while there is no fault
pub no_fault : {E T : Type 0} (fault : Option E) (t : T) → is_some fault ≡ false → unless_faulty fault t ≡ Some t
no_fault None t none = refl
no_fault (Some e) t none = absurd (no none) where
  no : true ≡ false → ⊥
  no e = cc

-- what holds of a tracking where a call went well, and of none, holds of what is kept after the call
pub kept_after : {E U T : Type 0} (P : Option T → Type 0) (r : Result U E) (fault : Option E) (t : T) → fault ≡ result_err r → OnOk r (P (Some t)) → P None
    → P (unless_faulty fault t)
kept_after {E} {U} P r fault t is well none = subst (λ (o : Option E). P (unless_faulty o t)) (sym is) (by r well) where
  by : (r : Result U E) → OnOk r (P (Some t)) → P (unless_faulty (result_err r) t)
  by (Ok x) well = well
  by (Err e) well = none

module _ {A M : Type 0} (words : LabelWords A M) (instr : Instr) (place : ℕ) where
  -- a step that turned the labels is tracked
  pub turned_on : (old new : Tracking A) → IsTurned words old instr place new → IsSound words new → TracksPlain words (Some old) instr place (Some new)
  turned_on old new turned sound =
      let same : new.due_after ≡ old.due_after = ap (λ (t : Tracking A). t.due_after) turned.rest in
      record {
        quiet = λ until small soon. omega (arith, soon, same);
        tracks = λ until t soon before fits trace at q first here m course.
            quiet_step words (record { instr = instr; place = place }) old new fits turned sound t (omega (arith, soon, before)) trace at q first m course (here m course);
      }

  -- without memory there is nothing to track
  pub nothing_on : (w : Option (Tracking A)) → TracksPlain words w instr place None
  nothing_on w = record { quiet = λ until small soon. omega (arith, small); tracks = λ until t soon before fits trace at q first here m course. tt }

  -- so it goes on, or is out of memory
  pub turned_or_out : {E U : Type 0} (r : Result U E) (fault : Option E) (old new : Tracking A) → fault ≡ result_err r → OnOk r (IsTurned words old instr place new) → OnOk r (IsSound words new)
      → TracksPlain words (Some old) instr place (unless_faulty fault new)
  turned_or_out {E} {U} r fault old new is turned sound = kept_after (TracksPlain words (Some old) instr place) r fault new is (both r turned sound) (nothing_on (Some old)) where
    both : (r : Result U E) → OnOk r (IsTurned words old instr place new) → OnOk r (IsSound words new) → OnOk r (TracksPlain words (Some old) instr place (Some new))
    both (Ok x) turned sound = turned_on old new turned sound
    both (Err e) turned sound = tt

-- what turns no label is passed by, and so is all where there is no memory
pub passed_by : {E A M : Type 0} (words : LabelWords A M) (registers : ℕ) (fault : Option E) (t : Tracking A) → IfSome (unless_faulty fault t) (IsSound words)
    → (IsSound words t → PassesBy (IsTurned words) registers t) → PassesBy (TracksPlain words) registers (unless_faulty fault t)
passed_by words registers None t sound turns instr fits is none = turned_on words instr 0 t t (turns sound instr fits is none) sound
passed_by words registers (Some e) t sound turns instr fits is none = nothing_on words instr 0 None
