-- One step of a run.
use Rattle.std.proofs.Common.{◌≡◌, ℕ, suc, ◌-◌, ◌^◌, ◌<◌, Some, None, arith, ◌+◌, ◌/◌, ◌%◌, ◌≤◌, ◌⊎◌, inl, inr, Bool, true, false, List, [], ◌∷◌, refl, ap, sym, ◌∙◌, subst, length, get_or, ℤ, ltb-false, get_or-set_same, get_or-set_other, Option, ltb-true}
use Rattle.std.specs.Prelude.{nat_lt, slice_set, if◌then◌else◌}
use Rattle.std.proofs.lemmas.List.{set_comm}
use Rattle.std.proofs.lemmas.Bool.{cases_lt}
use Rattle.isa.specs.declared.CallKind.{CallKind}
use Rattle.isa.specs.Machine.{State, overwritten, as_word, wrap, Outcome, Retired, Called, Trapped, next, execute, effect_of, place_of}
use Rattle.isa.specs.Calls.{channel_of, buffer_of, no_such_call, after_read, after_clock, after_exit}
use Rattle.isa.proofs.Window.{overwritten-nil, Holds}
use Rattle.log_model.specs.declared.CallRecord.{CallRecord}
use Rattle.log_model.specs.declared.CallRecord.TheVariants.{Read, Write, Clock, Other}
use Rattle.log_model.specs.Moved.{received}
use Rattle.flow_model.specs.declared.Loc.{Loc}
use Rattle.flow_model.specs.declared.Loc.TheVariants.{Reg, Mem}
use Rattle.flow_model.specs.declared.Rule.{Rule}
use Rattle.flow_model.specs.declared.CallSeen.{CallSeen}
use Rattle.flow_model.specs.Flow.{origins_by, to_register, nothing, cleared, is_received, is_received_by, distance, flow, from, from_call, from_instruction_or}
use Rattle.replay_model.specs.Run.{Moment, after_call, state_after, call_seen, transfer, advance, after_outcome, step_of, step_by, plain_step}
use Rattle.record_model.specs.States.{IsSound}
use Rattle.answer_meaning.specs.Content.{content, lane_of, byte_in, AgreeAt}
use Rattle.answer_meaning.specs.StepLaws.{IsAnswered, words_given, IsDoneBy, IsDone, answer_by, bytes_given, receives_by, receives, is_load, on_path, SameStep, StaysSound, OnlyMoves, ByCopy, ByKeep, MovesKeepContent, DeterminedBy, IsReceivedThere, ReceivedIsThere}
use Rattle.record_model.proofs.Values.{fetched_in_range}
use Rattle.record_model.proofs.Sound.{set_in, sound_pc, Leaves, leaves_is, stays_sound, call_sound, read_room, Executes, HasRoom, retires}
use Rattle.answer_meaning.proofs.Targets.{put_in, put_out, Carries, carry, kept, to_lanes, to_set, same_value, agrees_on, IsMoved, base_agrees, no_location}
use Rattle.lists.proofs.Tests.{true-false}
use Rattle.isa.specs.declared.Instr.{Instr}
use Rattle.isa.specs.declared.Instr.TheVariants.{Ecall}
use Rattle.isa.specs.declared.Call.{Call}
use Rattle.flow_model.specs.declared.Rule.TheVariants.{Compute, Index}
use Rattle.flow_model.specs.declared.StepSeen.{StepSeen}
use Rattle.answer_meaning.proofs.Table.{SamePlace, SamePlaceIf, carries}
use Rattle.isa.specs.declared.CallKind.TheVariants as kind

pub none_is : {X A : Type 0} {x : X} → None ≡ Some x → A
none_is e = cc

pub some_is : {X : Type 0} {x y : X} → Some x ≡ Some y → x ≡ y
some_is e = cc

-- ---- the buffer of a read

-- a place that gets no byte keeps its own
pub unread : (base : ℕ) (mem : List ℕ) (a : ℕ) (bytes : List ℕ) (q : ℕ) → base + length mem ≤ 2 ^ 32 → (bytes ≡ []) ⊎ Holds base (length mem) a (length bytes) → nat_lt (distance a q) (length bytes) ≡ false → byte_in base (overwritten mem (a - base) bytes) q ≡ byte_in base mem q
unread base mem a bytes q h (inl e) f = ap (λ (xs : List ℕ). byte_in base (overwritten mem (a - base) xs) q) e ∙ ap (λ (xs : List ℕ). byte_in base xs q) (overwritten-nil mem (a - base))
unread base mem a bytes q h (inr w) f = by (cases_lt q (2 ^ 32)) (cases_lt q a)
  where
    far : length bytes ≤ distance a q
    far = ltb-false (distance a q) (length bytes) f

    by : (q < 2 ^ 32) ⊎ (2 ^ 32 ≤ q) → (q < a) ⊎ (a ≤ q) → byte_in base (overwritten mem (a - base) bytes) q ≡ byte_in base mem q
    by (inl x) (inl y) = put_out base mem a bytes q w (inl y)
    by (inl x) (inr y) = let z = w.below in let u = far in put_out base mem a bytes q w (inr (omega arith))
    by (inr x) y = let z = w.below in put_out base mem a bytes q w (inr (omega arith))

-- a place that gets a byte
pub read_there : (base : ℕ) (mem : List ℕ) (a : ℕ) (bytes : List ℕ) (q : ℕ) → q < 2 ^ 32 → base + length mem ≤ 2 ^ 32 → (bytes ≡ []) ⊎ Holds base (length mem) a (length bytes) → distance a q < length bytes → byte_in base (overwritten mem (a - base) bytes) q ≡ get_or bytes (distance a q) 0
read_there base mem a bytes q x h (inl e) g = let none : length bytes ≡ 0 = ap length e in absurd (omega arith)
read_there base mem a bytes q x h (inr w) g = let y = w.below in put_in base mem a bytes q (distance a q) w (omega arith) g

-- the state after an answered call, or after the exit
abbrev pub state_given : State → List CallRecord → State
state_given s [] = after_exit s
state_given s (r ∷ rs) = state_after s r

pub state_given_is : (m : Moment) (left : List CallRecord) → (after_call m left).state ≡ state_given m.state left
state_given_is m [] = refl
state_given_is m (r ∷ rs) = refl

first_word : {v w : ℕ} {vs ws : List ℕ} → v ∷ vs ≡ w ∷ ws → v ≡ w
first_word e = cc

second_word : {v w x y : ℕ} → v ∷ w ∷ [] ≡ x ∷ y ∷ [] → w ≡ y
second_word e = cc

-- ---- what each kind of call carries

-- two calls with one effect
module _ {s t : State} (ss : IsSound s) (st : IsSound t) {rule : Rule} {P : List Loc → ℕ → ℕ → Type 0} (c : Carries s t rule P) where
  result_carries : (v w : ℕ) (l : Loc) → v ≡ w → P (origins_by (to_register 10 nothing) l) (content (set_in s (wrap (s.pc + 4)) 10 v) l) (content (set_in t (wrap (t.pc + 4)) 10 w) l)
  result_carries v w l e = to_set c 10 v w (wrap (s.pc + 4)) (wrap (t.pc + 4)) nothing ss st (omega arith) (λ i h. same_value ss st c v w i e) l

  read_carries : (v w : ℤ) (a b : ℕ) (xs ys : List ℕ) (l : Loc) → as_word v ≡ as_word w → HasRoom s a xs → HasRoom t b ys → ((q : ℕ) → l ≡ Mem q → nat_lt (distance a q) (length xs) ≡ false) → ((q : ℕ) → l ≡ Mem q → nat_lt (distance b q) (length ys) ≡ false)
      → P (origins_by (cleared kind.Read) l) (content (after_read s a v xs) l) (content (after_read t b w ys) l)
  read_carries v w a b xs ys (Reg r i) e hs ht f g = result_carries (as_word v) (as_word w) (Reg r i) e
  read_carries v w a b xs ys (Mem q) e hs ht f g =
      carry c (Mem q ∷ []) (byte_in s.base (overwritten s.memory (a - s.base) xs) q) (byte_in s.base s.memory q) (byte_in t.base (overwritten t.memory (b - t.base) ys) q) (byte_in t.base t.memory q)
      (unread s.base s.memory a xs q ss.ends hs (f q refl)) (unread t.base t.memory b ys q st.ends ht (g q refl)) (c.self (Mem q))

  -- the clock sets two registers
  at_ten : (xs : List ℕ) (v w i : ℕ) → length xs ≡ 32 → lane_of (get_or (slice_set (slice_set xs 10 v) 11 w) 10 0) i ≡ lane_of v i
  at_ten xs v w i h = ap (λ (x : ℕ). lane_of x i) (get_or-set_other (slice_set xs 10 v) 11 10 w 0 (λ e. omega arith) ∙ get_or-set_same xs 10 v 0 (omega arith))

  not_ten : (xs : List ℕ) (v w r i : ℕ) → (10 ≡ r → ⊥) → lane_of (get_or (slice_set (slice_set xs 10 v) 11 w) r 0) i ≡ lane_of (get_or (slice_set xs 11 w) r 0) i
  not_ten xs v w r i n =
      ap (λ (ys : List ℕ). lane_of (get_or ys r 0) i) (set_comm xs 10 11 v w (λ e. omega arith))
      ∙ ap (λ (x : ℕ). lane_of x i) (get_or-set_other (slice_set xs 11 w) 10 r v 0 (λ e. n (sym e)))

  clock_carries : (x y : ℕ) (l : Loc) → x % 2 ^ 32 ≡ y % 2 ^ 32 → x / 2 ^ 32 ≡ y / 2 ^ 32 → P (origins_by (cleared kind.Clock) l) (content (after_clock s x) l) (content (after_clock t y) l)
  clock_carries x y (Mem q) e f = c.self (Mem q)
  clock_carries x y (Reg r i) e f =
      to_lanes c 10 (x % 2 ^ 32) (y % 2 ^ 32) nothing (λ r i. origins_by (to_register 11 nothing) (Reg r i))
      (λ r i. lane_of (get_or (slice_set (slice_set s.registers 10 (x % 2 ^ 32)) 11 (x / 2 ^ 32)) r 0) i)
      (λ r i. lane_of (get_or (slice_set (slice_set t.registers 10 (y % 2 ^ 32)) 11 (y / 2 ^ 32)) r 0) i)
      (λ i. at_ten s.registers (x % 2 ^ 32) (x / 2 ^ 32) i ss.count) (λ i. at_ten t.registers (y % 2 ^ 32) (y / 2 ^ 32) i st.count)
      (λ i h. same_value ss st c (x % 2 ^ 32) (y % 2 ^ 32) i e) (λ i. high 10 (suc (suc (suc (suc i)))))
      (λ r i n. carry c _ _ (lane_of (get_or (slice_set s.registers 11 (x / 2 ^ 32)) r 0) i) _ (lane_of (get_or (slice_set t.registers 11 (y / 2 ^ 32)) r 0) i)
      (not_ten s.registers (x % 2 ^ 32) (x / 2 ^ 32) r i n) (not_ten t.registers (y % 2 ^ 32) (y / 2 ^ 32) r i n) (high r i)) r i
    where
      high : (r i : ℕ) → P (origins_by (to_register 11 nothing) (Reg r i)) (lane_of (get_or (slice_set s.registers 11 (x / 2 ^ 32)) r 0) i) (lane_of (get_or (slice_set t.registers 11 (y / 2 ^ 32)) r 0) i)
      high r i =
          to_set c 11 (x / 2 ^ 32) (y / 2 ^ 32) (wrap (s.pc + 4)) (wrap (t.pc + 4)) nothing ss st (omega arith) (λ j h. same_value ss st c (x / 2 ^ 32) (y / 2 ^ 32) j f) (Reg r i)

  -- ---- an answered call

  unread_at : (x : CallSeen) (l : Loc) (k : x.kind ≡ kind.Read) → is_received x l ≡ false → (q : ℕ) → l ≡ Mem q → nat_lt (distance x.place q) x.length ≡ false
  unread_at x l k h q e = sym (ap (λ (y : CallKind). is_received_by y x q) k) ∙ ap (λ (y : Loc). is_received x y) (sym e) ∙ h

  pub calls_carry : (m n : Moment) (inputs others : ℕ) (left right : List CallRecord) (l : Loc) → IsAnswered s inputs left → IsAnswered t others right → call_seen m left ≡ call_seen n right → words_given left ≡ words_given right → is_received (call_seen m left) l ≡ false
      → P (origins_by (cleared (call_seen m left).kind) l) (content (state_given s left) l) (content (state_given t right) l)
  calls_carry m n inputs others [] [] l h g d e r = kept c (wrap (s.pc + 4)) (wrap (t.pc + 4)) l
  calls_carry m n inputs others (Read at args result bytes ∷ rs) (Read at1 args1 result1 bytes1 ∷ rs1) l h g d e r = read_carries result result1 (buffer_of args) (buffer_of args1) bytes bytes1 l (first_word e) (read_room s inputs at args result bytes h.0 h.1) (read_room t others at1 args1 result1 bytes1 g.0 g.1) (unread_at (transfer kind.Read args (received (channel_of args) m.done) (length bytes)) l refl r) (unread_at (transfer kind.Read args1 (received (channel_of args1) n.done) (length bytes1)) l refl (ap (λ (x : CallSeen). is_received x l) (sym d) ∙ r))
  calls_carry m n inputs others (Write at args result bytes ∷ rs) (Write at1 args1 result1 bytes1 ∷ rs1) l h g d e r = result_carries (as_word result) (as_word result1) l (first_word e)
  calls_carry m n inputs others (Clock at value ∷ rs) (Clock at1 value1 ∷ rs1) l h g d e r = clock_carries value value1 l (first_word e) (second_word e)
  calls_carry m n inputs others (Other at number ∷ rs) (Other at1 number1 ∷ rs1) l h g d e r = result_carries (as_word no_such_call) (as_word no_such_call) l refl
  calls_carry m n inputs others [] (Read at args result bytes ∷ rs) l h g d e r = let kinds = ap (λ (x : CallSeen). x.kind) d in cc
  calls_carry m n inputs others left right l h g d e r = let kinds = ap (λ (x : CallSeen). x.kind) d in cc

-- ---- what a moment does

-- the step of an instruction, and that of a call
abbrev pub instruction_step : Moment → Instr → StepSeen
instruction_step m i = record { number = m.time; instr = i; place = place_of m.state i; call = None }

abbrev pub call_step : Moment → StepSeen
call_step m = record { number = m.time; instr = Ecall; place = 0; call = Some (call_seen m m.left) }

pub data Does (inputs : ℕ) (m : Moment) : Type 0 where
  Plain : (t : State) (x : Executes m.state t) → next m.state ≡ Retired t → step_of m ≡ instruction_step m x.instr → (advance m).state ≡ t → Does inputs m
  Calls : (call : Call) → next m.state ≡ Called call → IsAnswered m.state inputs m.left → step_of m ≡ call_step m → (advance m).state ≡ state_given m.state m.left → Does inputs m

pub does : (inputs : ℕ) (m : Moment) → IsDone inputs m → Does inputs m
does inputs m d = by (next m.state) refl d
  where
    by : (o : Outcome) → next m.state ≡ o → IsDoneBy m.state inputs m.left o → Does inputs m
    by (Retired t) e d =
        let x = retires m.state t e in
        Plain t x e (ap (step_by m) e ∙ ap (plain_step m.time m.state) x.is_fetched) (ap (λ (o : Outcome). (after_outcome m o).state) e)
    by (Called call) e d = Calls call e d (ap (step_by m) e) (ap (λ (o : Outcome). (after_outcome m o).state) e ∙ state_given_is m m.left)
    by (Trapped kind) e d = absurd d

-- ---- soundness

pub sound_after : StaysSound
sound_after inputs m h d = by (does inputs m d)
  where
    given : (left : List CallRecord) → IsAnswered m.state inputs left → IsSound (state_given m.state left)
    given [] g = sound_pc m.state (wrap (m.state.pc + 4)) h
    given (r ∷ rs) g = call_sound m.state inputs r h g.0 g.1

    by : Does inputs m → IsSound (advance m).state
    by (Plain t x e st a) = subst IsSound (sym a) (leaves_is (execute m.state (effect_of m.state x.instr)) t IsSound x.executes (stays_sound h x.instr (fetched_in_range m.state x.instr x.is_fetched)))
    by (Calls call e g st a) = subst IsSound (sym a) (given m.left g)

-- ---- what two steps on one path have in common

same_instr : (rule : Rule) (x y : StepSeen) → on_path rule x ≡ on_path rule y → x.instr ≡ y.instr
same_instr Index x y e = ap (λ (z : StepSeen). z.instr) e
same_instr other x y e = ap (λ (z : StepSeen). z.instr) e

pub same_call : (rule : Rule) (x y : StepSeen) → on_path rule x ≡ on_path rule y → x.call ≡ y.call
same_call Index x y e = ap (λ (z : StepSeen). z.call) e
same_call other x y e = ap (λ (z : StepSeen). z.call) e

place_if : (b : Bool) (rule : Rule) (x y : ℕ) → x ≡ y → SamePlaceIf b rule x y
place_if true rule x y e = agrees_on rule x y e
place_if false rule x y e = e

same_place : (rule : Rule) (x y : StepSeen) → on_path rule x ≡ on_path rule y → SamePlace rule x.instr x.place y.place
same_place Index x y e = by (is_load x.instr) (subst (λ (i : Instr). (if is_load x.instr then 0 else x.place) ≡ (if is_load i then 0 else y.place)) (sym (same_instr Index x y e)) (ap (λ (z : StepSeen). z.place) e))
  where
    by : (b : Bool) → (if b then 0 else x.place) ≡ (if b then 0 else y.place) → SamePlaceIf b Index x.place y.place
    by true e = tt
    by false e = e
same_place other x y e = place_if (is_load x.instr) other x.place y.place (ap (λ (z : StepSeen). z.place) e)

-- ---- what a step carries

not_received : (call : CallSeen) (l : Loc) → is_received call l ≡ false → from_call call l ≡ origins_by (cleared call.kind) l
not_received call l e = ap (λ (b : Bool). if b then [] else origins_by (cleared call.kind) l) e

module _ (inputs others : ℕ) (m n : Moment) (ss : IsSound m.state) (st : IsSound n.state) {rule : Rule} {P : List Loc → ℕ → ℕ → Type 0} (c : Carries m.state n.state rule P) where
  plain_carries : (l : Loc) (s t : State) (x : Executes m.state s) (y : Executes n.state t) → m.state.pc ≡ n.state.pc → x.instr ≡ y.instr → SamePlace rule x.instr (place_of m.state x.instr) (place_of n.state y.instr) → P (origins_by (flow rule x.instr (place_of m.state x.instr)) l) (content s l) (content t l)
  plain_carries l s t x y pc i p =
      let p' : SamePlace rule x.instr (place_of m.state x.instr) (place_of n.state x.instr) = subst (λ (j : Instr). SamePlace rule x.instr (place_of m.state x.instr) (place_of n.state j)) (sym i) p in
      let executes : execute n.state (effect_of n.state x.instr) ≡ Retired t = ap (λ (j : Instr). execute n.state (effect_of n.state j)) i ∙ y.executes in
      leaves_is (execute n.state (effect_of n.state x.instr)) t (λ u. P (origins_by (flow rule x.instr (place_of m.state x.instr)) l) (content s l) (content u l)) executes
      (leaves_is (execute m.state (effect_of m.state x.instr)) s (λ u. Leaves (execute n.state (effect_of n.state x.instr)) (λ v. P (origins_by (flow rule x.instr (place_of m.state x.instr)) l) (content u l) (content v l))) x.executes
      (carries ss st c x.instr (fetched_in_range m.state x.instr x.is_fetched).register pc p' l))

  -- the step and both states, where they are known by other names
  abbrev Carried : Loc → StepSeen → State → State → Type 0
  Carried l step u v = receives step l ≡ false → P (from rule step l) (content u l) (content v l)

  pub step_carries : IsDone inputs m → IsDone others n → SameStep rule m n → (l : Loc) → Carried l (step_of m) (advance m).state (advance n).state
  step_carries dm dn same l = by (does inputs m dm) (does others n dn)
    where
      moved : (step : StepSeen) (u v : State) → step_of m ≡ step → (advance m).state ≡ u → (advance n).state ≡ v → Carried l step u v → Carried l (step_of m) (advance m).state (advance n).state
      moved step u v e f g h =
          subst (λ (x : StepSeen). Carried l x (advance m).state (advance n).state) (sym e)
          (subst (λ (x : State). Carried l step x (advance n).state) (sym f) (subst (λ (x : State). Carried l step u x) (sym g) h))

      by : Does inputs m → Does others n → Carried l (step_of m) (advance m).state (advance n).state
      by (Plain s x e se sa) (Plain t y f te ta) =
          let steps : on_path rule (instruction_step m x.instr) ≡ on_path rule (instruction_step n y.instr) = ap (on_path rule) (sym se) ∙ same.step ∙ ap (on_path rule) te in
          moved (instruction_step m x.instr) s t se sa ta (λ g. plain_carries l s t x y same.pc (same_instr rule (instruction_step m x.instr) (instruction_step n y.instr) steps) (same_place rule (instruction_step m x.instr) (instruction_step n y.instr) steps))
      by (Plain s x e se sa) (Calls call f g te ta) = none_is (ap (λ (z : StepSeen). z.call) (sym se) ∙ same_call rule (step_of m) (step_of n) same.step ∙ ap (λ (z : StepSeen). z.call) te)
      by (Calls call e g se sa) (Plain t y f te ta) = none_is (sym (ap (λ (z : StepSeen). z.call) (sym se) ∙ same_call rule (step_of m) (step_of n) same.step ∙ ap (λ (z : StepSeen). z.call) te))
      by (Calls call e g se sa) (Calls call' e' g' te ta) =
          let seen : Some (call_seen m m.left) ≡ Some (call_seen n n.left) = ap (λ (z : StepSeen). z.call) (sym se) ∙ same_call rule (step_of m) (step_of n) same.step ∙ ap (λ (z : StepSeen). z.call) te in
          let words : words_given m.left ≡ words_given n.left = sym (ap (λ (o : Outcome). answer_by o m.left) e) ∙ same.answer ∙ ap (λ (o : Outcome). answer_by o n.left) e' in
          moved (call_step m) (state_given m.state m.left) (state_given n.state n.left) se sa ta
          (λ h. subst (λ (ls : List Loc). P ls (content (state_given m.state m.left) l) (content (state_given n.state n.left) l)) (sym (not_received (call_seen m m.left) l h))
          (calls_carry ss st c m n inputs others m.left n.left l g g' (some_is seen) words h))

-- ---- the rules

-- by copy and by keep: where one location flows, its content
abbrev pub IsCopy : State → List Loc → ℕ → ℕ → Type 0
IsCopy s ls v w = IsMoved s ls v

one_location : (l k : Loc) → l ∷ [] ≡ k ∷ [] → l ≡ k
one_location l k e = cc

pub by_moves : (rule : Rule) → OnlyMoves rule → (s t : State) → Carries s t rule (IsCopy s)
by_moves rule ByCopy s t = record {
  self = λ l k e. ap (content s) (one_location l k e);
  none = λ v k e. no_location k e;
  counts = λ origins i v w h k e. no_location k e;
  keeps = λ kept origins i v w moved h k e. no_location k e;
  based = λ a imm ls v w e f. f e;
}
by_moves rule ByKeep s t = record {
  self = λ l k e. ap (content s) (one_location l k e);
  none = λ v k e. no_location k e;
  counts = λ origins i v w h k e. no_location k e;
  keeps = λ kept origins i v w moved h. moved;
  based = λ a imm ls v w e f. f e;
}

-- by the other rules: where the contents of all that flows agree, the contents agree
abbrev pub IsDetermined : State → State → List Loc → ℕ → ℕ → Type 0
IsDetermined s t ls v w = AgreeAt s t ls → v ≡ w

pub by_compute : (s t : State) → Carries s t Compute (IsDetermined s t)
by_compute s t = record {
  self = λ l h. h.0;
  none = λ v h. refl;
  counts = λ origins i v w h. h;
  keeps = λ kept origins i v w moved h. h;
  based = λ a imm ls v w e f. f e;
}

pub by_index : (s t : State) → IsSound s → IsSound t → Carries s t Index (IsDetermined s t)
by_index s t ss st = record {
  self = λ l h. h.0;
  none = λ v h. refl;
  counts = λ origins i v w h. h;
  keeps = λ kept origins i v w moved h. h;
  based = λ a imm ls v w e f h. let both = base_agrees ss st Index a imm ls tt h in f both.0 both.1;
}

nothing_received : (rule : Rule) (step : StepSeen) (o : Option CallSeen) (l : Loc) → step.call ≡ o → receives_by o l ≡ true → from rule step l ≡ []
nothing_received rule step None l e h = true-false (sym h)
nothing_received rule step (Some call) l e h = ap (λ (x : Option CallSeen). from_instruction_or rule step x l) e ∙ ap (λ (b : Bool). if b then [] else origins_by (cleared call.kind) l) h

same_step : (rule : Rule) (m : Moment) → SameStep rule m m
same_step rule m = record { pc = refl; step = refl; answer = refl }

pub moves_keep_content : MovesKeepContent
moves_keep_content rule moves inputs m l k h d e = by (receives (step_of m) l) refl
  where
    none : {A : Type 0} → [] ≡ k ∷ [] → A
    none e = cc

    by : (b : Bool) → receives (step_of m) l ≡ b → content (advance m).state l ≡ content m.state k
    by true g = none (sym (nothing_received rule (step_of m) (step_of m).call l refl g) ∙ e)
    by false g = step_carries inputs inputs m m h h (by_moves rule moves m.state m.state) d d (same_step rule m) l g k e

pub compute_determines : DeterminedBy Compute
compute_determines i j m n l ss st dm dn same g agree = step_carries i j m n ss st (by_compute m.state n.state) dm dn same l g agree

pub index_determines : DeterminedBy Index
index_determines i j m n l ss st dm dn same g agree = step_carries i j m n ss st (by_index m.state n.state ss st) dm dn same l g agree

-- ---- what is read

there_by : (s : State) (m : Moment) (inputs : ℕ) (left : List CallRecord) (call : CallSeen) (p : ℕ) → IsSound s → IsAnswered s inputs left → p < 2 ^ 32 → call_seen m left ≡ call → is_received call (Mem p) ≡ true → (distance call.place p < call.length) × (content (state_given s left) (Mem p) ≡ get_or (bytes_given left) (distance call.place p) 0)
there_by s m inputs (Read at args result bytes ∷ rs) call p h a x e r = subst (λ (y : CallSeen). is_received y (Mem p) ≡ true → (distance y.place p < y.length) × (content (state_given s (Read at args result bytes ∷ rs)) (Mem p) ≡ get_or bytes (distance y.place p) 0)) e
    (λ r. let below = ltb-true (distance (buffer_of args) p) (length bytes) r in
    (below, read_there s.base s.memory (buffer_of args) bytes p x h.ends (read_room s inputs at args result bytes a.0 a.1) below)) r
there_by s m inputs [] call p h a x e r = true-false (sym (ap (λ (y : CallSeen). is_received y (Mem p)) e ∙ r))
there_by s m inputs left call p h a x e r = true-false (sym (ap (λ (y : CallSeen). is_received y (Mem p)) e ∙ r))

pub received_is_there : ReceivedIsThere
received_is_there inputs m call p h d x e r = by (does inputs m d)
  where
    by : Does inputs m → IsReceivedThere m call p
    by (Plain t y f se sa) = none_is (sym (ap (λ (z : StepSeen). z.call) se) ∙ e)
    by (Calls c f g se sa) =
        let there = there_by m.state m inputs m.left call p h g x (some_is (sym (ap (λ (z : StepSeen). z.call) se) ∙ e)) r in
        record { inside = there.0; content_is = ap (λ (s : State). content s (Mem p)) sa ∙ there.1 }
