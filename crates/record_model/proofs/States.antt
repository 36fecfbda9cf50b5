-- The states that a run reaches: they stay in range, and each step retires, calls as its registers say, or traps by a code of the
-- standard's.
use Rattle.std.proofs.Common.{◌≡◌, ℕ, ◌+◌, ◌-◌, ◌*◌, ◌/◌, ◌^◌, ◌<◌, ◌≤◌, inl, inr, Bool, true, false, length, refl, arith, subst, length-take}
use Rattle.std.specs.Int.{w32, to_le_bytes}
use Rattle.isa.specs.declared.Instr.{Instr}
use Rattle.isa.specs.declared.Instr.TheVariants.{Jal}
use Rattle.isa.specs.declared.Effect.{Effect}
use Rattle.isa.specs.declared.Effect.TheVariants.{SetRegister, Jump, Branch, Load, Store, MoveOn, EnvironmentCall, Breakpoint}
use Rattle.isa.specs.Machine.{State, Outcome, Retired, Called, Trapped, wrap, effect_of, execute, landed, is_aligned, jumped, branched, loaded, stored, low_bytes, in_window, call_of, Fetch, Fetched, fetch, outcome_of, next}
use Rattle.isa.specs.Calls.{buffer_of}
use Rattle.isa.proofs.Window.{length-overwritten, holds_by, wrap-lt}
use Rattle.log_model.specs.declared.CallRecord.{CallRecord}
use Rattle.log_model.specs.declared.CallRecord.TheVariants.{Read, Other}
use Rattle.log_model.specs.Logs.{IsRecord, IsTrapKind}
use Rattle.replay_model.specs.Run.{state_after}
use Rattle.replay_model.specs.Comparison.{IsLawful}
use Rattle.record_model.specs.States.{IsSound}
use Rattle.record_model.proofs.Values.{fetched_in_range}
use Rattle.record_model.proofs.Sound.{leaves_is, retires, stays_sound, read_room, call_sound, length-room}

-- a sound state, whose pc is a word, and whose window has at most 4096 pages
pub record IsReached (s : State) : Type 0 where
  pub sound : IsSound s
  pub pc : s.pc < 2 ^ 32
  pub size : length s.memory ≤ 2 ^ 24

-- ---- what a step comes to

-- from the state s
abbrev pub IsFine : State → Outcome → Type 0
IsFine s (Retired t) = (t.pc < 2 ^ 32) × (length t.memory ≡ length s.memory)
IsFine s (Called call) = call ≡ call_of s
IsFine s (Trapped k) = IsTrapKind k

-- the target of a jump or a branch is a word
abbrev HasTarget : Effect → Type 0
HasTarget (Jump d target) = target < 2 ^ 32
HasTarget (Branch taken target) = target < 2 ^ 32
HasTarget other = Unit {0}

rounded : (n : ℕ) → wrap n / 2 * 2 < 2 ^ 32
rounded n = omega arith

has_target : (s : State) (i : Instr) → HasTarget (effect_of s i)
has_target s (Jal d imm) = wrap-lt _
has_target s other = search (wrap-lt, rounded)

module _ (s : State) where
  fine_landed : (b : Bool) (t : State) → t.pc < 2 ^ 32 → length t.memory ≡ length s.memory → IsFine s (landed b t)
  fine_landed true t p m = (p, m)
  fine_landed false t p m = inl (omega arith)

  fine_branched : (taken : Bool) (target : ℕ) → target < 2 ^ 32 → IsFine s (branched s taken target)
  fine_branched true target h = fine_landed (is_aligned target) (record s { pc = target }) h refl
  fine_branched false target h = (wrap-lt (s.pc + 4), refl)

  fine_loaded : (held : Bool) (d a n : ℕ) (is_signed : Bool) → IsFine s (loaded s held d a n is_signed)
  fine_loaded true d a n is_signed = (wrap-lt (s.pc + 4), refl)
  fine_loaded false d a n is_signed = inr (inl refl)

  fine_stored : (held : Bool) (a n v : ℕ) → in_window s a n ≡ held → IsFine s (stored s held a n v)
  fine_stored true a n v e =
      let room = holds_by s a n e in
      let above = room.above in
      let below = room.below in
      let few = length-take n (to_le_bytes w32 v) in
      (wrap-lt (s.pc + 4), length-overwritten s.memory (a - s.base) (low_bytes n v) (omega arith))
  fine_stored false a n v e = inr (inr refl)

  fine_executed : (e : Effect) → HasTarget e → IsFine s (execute s e)
  fine_executed (SetRegister d v) h = (wrap-lt (s.pc + 4), refl)
  fine_executed (Jump d target) h = fine_landed (is_aligned target) (jumped s d target) h refl
  fine_executed (Branch taken target) h = fine_branched taken target h
  fine_executed (Load d a n is_signed) h = fine_loaded (in_window s a n) d a n is_signed
  fine_executed (Store a n v) h = fine_stored (in_window s a n) a n v refl
  fine_executed MoveOn h = (wrap-lt (s.pc + 4), refl)
  fine_executed EnvironmentCall h = refl
  fine_executed Breakpoint h = inl (omega arith)

  fine_fetched : (f : Fetch) → IsFine s (outcome_of s f)
  fine_fetched (Fetched i) = fine_executed (effect_of s i) (has_target s i)
  fine_fetched f = inl (omega arith)

  pub is_fine : (o : Outcome) → next s ≡ o → IsFine s o
  is_fine o e = subst (IsFine s) e (fine_fetched (fetch s))

-- ---- the state after it

pub reached_next : (s t : State) → next s ≡ Retired t → IsReached s → IsReached t
reached_next s t e h =
    let x = retires s t e in
    let fine = is_fine s (Retired t) e in
    let size = h.size in
    let same = fine.1 in
    record {
      sound = leaves_is (execute s (effect_of s x.instr)) t IsSound x.executes (stays_sound h.sound x.instr (fetched_in_range s x.instr x.is_fetched));
      pc = fine.0;
      size = omega arith;
    }

pub reached_call : (s : State) (inputs : ℕ) (r : CallRecord) → IsRecord r → IsLawful s inputs r → IsReached s → IsReached (state_after s r)
reached_call s inputs r form lawful h = record { sound = call_sound s inputs r h.sound form lawful; pc = pc r; size = size r form lawful }
  where
    pc : (r : CallRecord) → (state_after s r).pc < 2 ^ 32
    pc (Other at number) = wrap-lt (s.pc + 4)
    pc r = wrap-lt (s.pc + 4)

    size : (r : CallRecord) → IsRecord r → IsLawful s inputs r → length (state_after s r).memory ≤ 2 ^ 24
    size (Read at args result bytes) form lawful = let same = length-room s (buffer_of args) bytes (read_room s inputs at args result bytes form lawful) in let few = h.size in omega arith
    size r form lawful = h.size
