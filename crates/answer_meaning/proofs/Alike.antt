-- Where two states agree at the decisions of one, their next steps are alike, and the window of a run stays where it is; and so are
-- the records of two runs that ask the same and are answered the same, but for bytes that differ.
use Rattle.std.proofs.Common.{◌≡◌, ℕ, zero, suc, ◌-◌, ◌≤◌, List, [], ◌∷◌, length, refl, arith, sym, ◌∙◌, subst, length-take, ℤ, ◌+◌, ◌*◌, ◌/◌, ◌<◌, ◌⊎◌, inl, inr, Bool, true, false, ◌++◌, get_or, ap, ap₂, mod-eq_of_lt, int_lt, pos, None, eqb-true}
use Rattle.std.specs.Int.{w32, to_le_bytes}
use Rattle.std.proofs.lemmas.List.{ext_get_or, get_or_append_left, get_or-append_right}
use Rattle.isa.specs.declared.Effect.{Effect}
use Rattle.isa.specs.declared.Effect.TheVariants.{SetRegister, Jump, Branch, Load, Store, MoveOn}
use Rattle.isa.specs.Machine.{State, execute, effect_of, is_aligned, jumped, in_window, overwritten, low_bytes, as_word, Outcome, Retired, Called, Trapped, reg, kind_of, call_of, wrap, as_signed, bytes_at, little_endian, relative, effective_address, landed, branched, loaded, stored, Fetch, Fetched, OutsideWindow, Illegal, fetch, fetch_if, decoded, outcome_of, next, place_of}
use Rattle.isa.specs.Calls.{buffer_of, refusal_of, channel_of}
use Rattle.lists.proofs.Lists.{all-parts, same-three}
use Rattle.isa.proofs.Window.{length-overwritten, holds_by, Holds}
use Rattle.log_model.specs.declared.CallRecord.{CallRecord}
use Rattle.log_model.specs.declared.CallRecord.TheVariants.{Read, Write, Other, Clock}
use Rattle.log_model.specs.Logs.{Log, steps, IsRecord, end_at, moved_length}
use Rattle.replay_model.specs.Run.{Moment, start, advance, call_seen, transfer}
use Rattle.replay_model.proofs.Offsets.{moment_later, transfer_offset}
use Rattle.answer_meaning.specs.StepLaws.{IsAnswered, IsDone, is_load, words_given, bytes_given}
use Rattle.answer_meaning.specs.RunLaws.{IsRun, moment_at}
use Rattle.record_model.proofs.Sound.{Leaves, leaves_is, on_landed, on_branched, on_loaded, on_stored, read_room, length-room, bytes_length}
use Rattle.answer_meaning.proofs.Steps.{Does, Plain, Calls, does, state_given}
use Rattle.answer_meaning.proofs.Runs.{done_at}
use Rattle.std.specs.Prelude.{◌==◌, not, ◌&&◌, nat_lt, nat_le, if◌then◌else◌}
use Rattle.isa.specs.declared.Instr.{Instr}
use Rattle.isa.specs.declared.Instr.TheVariants.{Jal, Jalr, Beq, Bne, Blt, Bge, Bltu, Bgeu, Lb, Lh, Lw, Lbu, Lhu, Sb, Sh, Sw, Ecall, Ebreak}
use Rattle.isa.specs.Words.{instruction_of}
use Rattle.flow_model.specs.declared.Loc.TheVariants.{Mem}
use Rattle.flow_model.specs.declared.Rule.{Rule}
use Rattle.flow_model.specs.declared.Rule.TheVariants.{Index}
use Rattle.flow_model.specs.Flow.{lanes, all_lanes}
use Rattle.record_model.specs.States.{IsSound}
use Rattle.answer_meaning.specs.Content.{content, byte_in, AgreeAt}
use Rattle.answer_meaning.proofs.Targets.{byte_of_window, word_agrees, words_agree, address_agrees}
use Rattle.decision_find.specs.Decides.{base_of_load, used, asked, decides}
use Rattle.decision_find.specs.Decisions.{fetched_from, instr_of, decides_fetched, decisions}
use Rattle.lists.proofs.Numbers.{three-get_or}
use Rattle.isa.specs.declared.Call.{Call}
use Rattle.log_model.specs.declared.RunEnd.{RunEnd}
use Rattle.log_model.specs.declared.RunEnd.TheVariants.{Exit}
use Rattle.replay_model.specs.Comparison.{EndOf, difference_at, seen_event, IsLawful, arguments_of, allowed, bytes_compared, compared}
use Rattle.replay_model.proofs.Agreement.{first_agrees, exit_agrees, kind_by}
use Rattle.replay_model.proofs.Transfers.{same_arguments}
use Rattle.decision_find.proofs.Answered.{ends_at, IsCallAt}
use Rattle.std.proofs.lemmas.Bool.{cases_lt}
use Rattle.isa.specs.declared.CallKind.{CallKind}
use Rattle.log_model.specs.Moved.{received, received_by, written, written_by}
use Rattle.log_model.proofs.Moved.{received-push, length-received-push, length-written-push}
use Rattle.flow_model.specs.declared.SourceByte.{SourceByte}
use Rattle.flow_model.specs.declared.CallSeen.{CallSeen}
use Rattle.answer_meaning.specs.Environments.{BytesAlike, SameAnswers}
use Rattle.isa.specs.declared.CallKind.TheVariants as kind
use Rattle.replay_model.specs.declared.Field.TheVariants as field
use Rattle.replay_model.specs.Comparison.{result as result_compared}

-- one state has the window of another
pub record SameWindow (s t : State) : Type 0 where
  pub base : t.base ≡ s.base
  pub size : length t.memory ≡ length s.memory

put_length : (base : ℕ) (mem : List ℕ) (a : ℕ) (bs : List ℕ) (n : ℕ) → Holds base (length mem) a n → length bs ≤ n → length (overwritten mem (a - base) bs) ≡ length mem
put_length base mem a bs n h g = let x = h.above in let y = h.below in length-overwritten mem (a - base) bs (omega arith)

effect_keeps : (s : State) (e : Effect) → Leaves (execute s e) (SameWindow s)
effect_keeps s (SetRegister d v) = record { base = refl; size = refl }
effect_keeps s (Jump d target) = on_landed (is_aligned target) (jumped s d target) (SameWindow s) (record { base = refl; size = refl })
effect_keeps s (Branch taken target) = on_branched s taken target (SameWindow s) (λ p. record { base = refl; size = refl })
effect_keeps s (Load d a n is_signed) = on_loaded s (in_window s a n) d a n is_signed (SameWindow s) (λ h. record { base = refl; size = refl })
effect_keeps s (Store a n v) = on_stored s (in_window s a n) a n v (SameWindow s)
    (λ h. record { base = refl; size = put_length s.base s.memory a (low_bytes n v) n (holds_by s a n h) (omega (arith, length-take n (to_le_bytes w32 v))) })
effect_keeps s MoveOn = record { base = refl; size = refl }
effect_keeps s other = tt

call_keeps : (s : State) (inputs : ℕ) (left : List CallRecord) → IsAnswered s inputs left → SameWindow s (state_given s left)
call_keeps s inputs (Read at args result bytes ∷ rs) a = record { base = refl; size = length-room s (buffer_of args) bytes (read_room s inputs at args result bytes a.0 a.1) }
call_keeps s inputs (Write at args result bytes ∷ rs) a = record { base = refl; size = refl }
call_keeps s inputs left a = record { base = refl; size = refl }

step_keeps : (inputs : ℕ) (m : Moment) → IsDone inputs m → SameWindow m.state (advance m).state
step_keeps inputs m d = by (does inputs m d)
  where
    by : Does inputs m → SameWindow m.state (advance m).state
    by (Plain t x e st a) = subst (SameWindow m.state) (sym a) (leaves_is (execute m.state (effect_of m.state x.instr)) t (SameWindow m.state) x.executes (effect_keeps m.state (effect_of m.state x.instr)))
    by (Calls call e g st a) = subst (SameWindow m.state) (sym a) (call_keeps m.state inputs m.left g)

pub window_at : (log : Log) (s : State) (t : ℕ) → IsRun log s → t ≤ steps log → SameWindow s (moment_at s log t).state
window_at log s zero run h = record { base = refl; size = refl }
window_at log s (suc t) run h =
    let before = window_at log s t run (omega arith) in
    let step = step_keeps log.inputs (moment_at s log t) (done_at log s t run (omega arith)) in
    subst (λ (m : Moment). SameWindow s m.state) (sym (moment_later t (start s log)))
    (record { base = step.base ∙ before.base; size = step.size ∙ before.size })

-- ---- outcomes

-- what two steps have in common. Under the rule index one may trap at a load and the other not
abbrev pub AlikeOutcomes : Rule → State → State → Outcome → Outcome → Type 0
AlikeOutcomes rule s t (Retired x) (Retired y) = x.pc ≡ y.pc
AlikeOutcomes rule s t (Called c) (Called d) = (c.kind ≡ d.kind) × (reg s 17 ≡ reg t 17) × AgreeAt s t (used c.kind)
AlikeOutcomes rule s t (Trapped j) (Trapped k) = j ≡ k
AlikeOutcomes rule s t (Retired x) (Trapped k) = rule ≡ Index
AlikeOutcomes rule s t (Trapped k) (Retired x) = rule ≡ Index
AlikeOutcomes rule s t x y = ⊥

landed_alike : (rule : Rule) (s t : State) (b c : Bool) (x y : State) → b ≡ c → x.pc ≡ y.pc → AlikeOutcomes rule s t (landed b x) (landed c y)
landed_alike rule s t true true x y e h = h
landed_alike rule s t false false x y e h = refl
landed_alike rule s t b c x y e h = cc

module _ {s t : State} (ss : IsSound s) (st : IsSound t) (pc : s.pc ≡ t.pc) (base : s.base ≡ t.base) (size : length s.memory ≡ length t.memory) (rule : Rule) where
  same_window : (a b n : ℕ) → a ≡ b → in_window s a n ≡ in_window t b n
  same_window a b n e = ap (λ (x : ℕ). in_window s x n) e ∙ ap₂ (λ (x y : ℕ). nat_le x b && nat_le (b + n) (x + y)) base size

  -- ---- the instruction

  same_bytes : (p : ℕ) → in_window s p 4 ≡ true → in_window t p 4 ≡ true → ((i : ℕ) → i < 4 → content s (Mem (wrap (p + i))) ≡ content t (Mem (wrap (p + i)))) → bytes_at s p 4 ≡ bytes_at t p 4
  same_bytes p ws wt h = ext_get_or 0 (bytes_at s p 4) (bytes_at t p 4) (long_s ∙ sym long_t) (λ i g. each i (omega (arith, long_s)))
    where
      hs : Holds s.base (length s.memory) p 4
      hs = holds_by s p 4 ws

      ht : Holds t.base (length t.memory) p 4
      ht = holds_by t p 4 wt

      long_s : length (bytes_at s p 4) ≡ 4
      long_s = bytes_length s p 4 hs

      long_t : length (bytes_at t p 4) ≡ 4
      long_t = bytes_length t p 4 ht

      each : (i : ℕ) → i < 4 → get_or (bytes_at s p 4) i 0 ≡ get_or (bytes_at t p 4) i 0
      each i g =
          let x = hs.below in
          let y = ss.ends in
          let whole : wrap (p + i) ≡ p + i = mod-eq_of_lt (omega arith) in
          byte_of_window s p 4 i hs g ∙ ap (λ (q : ℕ). byte_in s.base s.memory q) (sym whole) ∙ h i g ∙ ap (λ (q : ℕ). byte_in t.base t.memory q) whole ∙ sym (byte_of_window t p 4 i ht g)

  four : AgreeAt s t (fetched_from s.pc) → (i : ℕ) → i < 4 → content s (Mem (wrap (s.pc + i))) ≡ content t (Mem (wrap (s.pc + i)))
  four h zero g = h.0
  four h (suc zero) g = h.1.0
  four h (suc (suc zero)) g = h.1.1.0
  four h (suc (suc (suc zero))) g = h.1.1.1.0
  four h (suc (suc (suc (suc i)))) g = absurd (omega arith)

  pub same_fetch : AgreeAt s t (fetched_from s.pc) → fetch s ≡ fetch t
  same_fetch h = by (in_window s s.pc 4) refl
    where
      there : in_window s s.pc 4 ≡ in_window t t.pc 4
      there = same_window s.pc t.pc 4 pc

      by : (b : Bool) → in_window s s.pc 4 ≡ b → fetch s ≡ fetch t
      by true e =
          let at_s : in_window t s.pc 4 ≡ true = sym (same_window s.pc s.pc 4 refl) ∙ e in
          ap (fetch_if s) e
          ∙ ap (λ (bs : List ℕ). decoded (instruction_of (little_endian bs))) (same_bytes s.pc e at_s (four h) ∙ ap (λ (p : ℕ). bytes_at t p 4) pc)
          ∙ sym (ap (fetch_if t) (sym there ∙ e))
      by false e = ap (fetch_if s) e ∙ sym (ap (fetch_if t) (sym there ∙ e))

  -- ---- what it comes to

  stepped_on : wrap (s.pc + 4) ≡ wrap (t.pc + 4)
  stepped_on = ap (λ (x : ℕ). wrap (x + 4)) pc

  same_relative : (imm : ℤ) → relative s imm ≡ relative t imm
  same_relative imm = ap (λ (x : ℕ). wrap (x + as_word imm)) pc

  jumps : (d p q : ℕ) → p ≡ q → AlikeOutcomes rule s t (landed (is_aligned p) (jumped s d p)) (landed (is_aligned q) (jumped t d q))
  jumps d p q e = landed_alike rule s t (is_aligned p) (is_aligned q) (jumped s d p) (jumped t d q) (ap is_aligned e) e

  branched_alike : (x y : Bool) (p q : ℕ) → x ≡ y → p ≡ q → AlikeOutcomes rule s t (branched s x p) (branched t y q)
  branched_alike true true p q e f = landed_alike rule s t (is_aligned p) (is_aligned q) (record s { pc = p }) (record t { pc = q }) (ap is_aligned f) f
  branched_alike false false p q e f = stepped_on
  branched_alike x y p q e f = cc

  branches : (f : ℕ → ℕ → Bool) (a b : ℕ) (imm : ℤ) → AgreeAt s t (all_lanes a b 0) → AlikeOutcomes rule s t (branched s (f (reg s a) (reg s b)) (relative s imm)) (branched t (f (reg t a) (reg t b)) (relative t imm))
  branches f a b imm h = let both = words_agree ss st a b 0 h in branched_alike (f (reg s a) (reg s b)) (f (reg t a) (reg t b)) (relative s imm) (relative t imm) (ap₂ f both.0 both.1) (same_relative imm)

  load_address : (r : Rule) (a : ℕ) (imm : ℤ) → AgreeAt s t (base_of_load r a) → (effective_address s a imm ≡ effective_address t a imm) ⊎ (r ≡ Index)
  load_address Index a imm h = inr refl
  load_address other a imm h = inl (address_agrees ss st a imm h)

  loaded_alike : (b c : Bool) (d x y n : ℕ) (g : Bool) → (b ≡ c) ⊎ (rule ≡ Index) → AlikeOutcomes rule s t (loaded s b d x n g) (loaded t c d y n g)
  loaded_alike true true d x y n g e = stepped_on
  loaded_alike false false d x y n g e = refl
  loaded_alike true false d x y n g (inr e) = e
  loaded_alike false true d x y n g (inr e) = e
  loaded_alike b c d x y n g (inl e) = cc

  loads : (d a : ℕ) (imm : ℤ) (n : ℕ) (g : Bool) → (effective_address s a imm ≡ effective_address t a imm) ⊎ (rule ≡ Index)
      → AlikeOutcomes rule s t (loaded s (in_window s (effective_address s a imm) n) d (effective_address s a imm) n g) (loaded t (in_window t (effective_address t a imm) n) d (effective_address t a imm) n g)
  loads d a imm n g (inl e) = loaded_alike _ _ d _ _ n g (inl (same_window _ _ n e))
  loads d a imm n g (inr e) = loaded_alike _ _ d _ _ n g (inr e)

  stored_alike : (b c : Bool) (x y n v w : ℕ) → b ≡ c → AlikeOutcomes rule s t (stored s b x n v) (stored t c y n w)
  stored_alike true true x y n v w e = stepped_on
  stored_alike false false x y n v w e = refl
  stored_alike b c x y n v w e = cc

  stores : (a b : ℕ) (imm : ℤ) (n : ℕ) → AgreeAt s t (lanes a)
      → AlikeOutcomes rule s t (stored s (in_window s (effective_address s a imm) n) (effective_address s a imm) n (reg s b)) (stored t (in_window t (effective_address t a imm) n) (effective_address t a imm) n (reg t b))
  stores a b imm n h = stored_alike _ _ _ _ n (reg s b) (reg t b) (same_window (effective_address s a imm) (effective_address t a imm) n (address_agrees ss st a imm h))

  called : AgreeAt s t (asked (kind_of (reg s 17))) → AlikeOutcomes rule s t (Called (call_of s)) (Called (call_of t))
  called h = let both = all-parts _ (used (kind_of (reg s 17))) (lanes 17) h in let number = word_agrees ss st 17 both.1 in (ap kind_of number, number, both.0)

  -- each instruction
  alike : (i : Instr) → AgreeAt s t (decides rule (kind_of (reg s 17)) i) → AlikeOutcomes rule s t (execute s (effect_of s i)) (execute t (effect_of t i))
  alike (Jal d imm) h = jumps d (relative s imm) (relative t imm) (same_relative imm)
  alike (Jalr d a imm) h = jumps d (effective_address s a imm / 2 * 2) (effective_address t a imm / 2 * 2) (ap (λ (x : ℕ). x / 2 * 2) (address_agrees ss st a imm h))
  alike (Beq a b imm) h = branches (λ v w. v == w) a b imm h
  alike (Bne a b imm) h = branches (λ v w. not (v == w)) a b imm h
  alike (Blt a b imm) h = branches (λ v w. int_lt (as_signed v) (as_signed w)) a b imm h
  alike (Bge a b imm) h = branches (λ v w. not (int_lt (as_signed v) (as_signed w))) a b imm h
  alike (Bltu a b imm) h = branches (λ v w. nat_lt v w) a b imm h
  alike (Bgeu a b imm) h = branches (λ v w. nat_le w v) a b imm h
  alike (Lb d a imm) h = loads d a imm 1 true (load_address rule a imm h)
  alike (Lh d a imm) h = loads d a imm 2 true (load_address rule a imm h)
  alike (Lw d a imm) h = loads d a imm 4 false (load_address rule a imm h)
  alike (Lbu d a imm) h = loads d a imm 1 false (load_address rule a imm h)
  alike (Lhu d a imm) h = loads d a imm 2 false (load_address rule a imm h)
  alike (Sb a b imm) h = stores a b imm 1 h
  alike (Sh a b imm) h = stores a b imm 2 h
  alike (Sw a b imm) h = stores a b imm 4 h
  alike Ecall h = called h
  alike Ebreak h = refl
  alike other h = stepped_on

  -- the places of two steps of one instruction are the same, but of loads by the rule index
  abbrev pub SamePlaces : Instr → Type 0
  SamePlaces i = (place_of s i ≡ place_of t i) ⊎ ((is_load i ≡ true) × (rule ≡ Index))

  or_load : {A : Type 0} → A ⊎ (rule ≡ Index) → A ⊎ ((true ≡ true) × (rule ≡ Index))
  or_load (inl e) = inl e
  or_load (inr e) = inr (refl, e)

  pub places : (i : Instr) → AgreeAt s t (decides rule (kind_of (reg s 17)) i) → SamePlaces i
  places (Lb d a imm) h = or_load (load_address rule a imm h)
  places (Lh d a imm) h = or_load (load_address rule a imm h)
  places (Lw d a imm) h = or_load (load_address rule a imm h)
  places (Lbu d a imm) h = or_load (load_address rule a imm h)
  places (Lhu d a imm) h = or_load (load_address rule a imm h)
  places (Sb a b imm) h = inl (address_agrees ss st a imm h)
  places (Sh a b imm) h = inl (address_agrees ss st a imm h)
  places (Sw a b imm) h = inl (address_agrees ss st a imm h)
  places other h = inl refl

  pub same_fetched : AgreeAt s t (decisions rule s) → fetch s ≡ fetch t
  same_fetched h = same_fetch (all-parts _ (decides_fetched rule (kind_of (reg s 17)) (instr_of (fetch s))) (fetched_from s.pc) h).1

  fetched_alike : (f : Fetch) → AgreeAt s t (decides_fetched rule (kind_of (reg s 17)) (instr_of f)) → AlikeOutcomes rule s t (outcome_of s f) (outcome_of t f)
  fetched_alike OutsideWindow h = refl
  fetched_alike Illegal h = refl
  fetched_alike (Fetched i) h = alike i h

  pub next_alike : AgreeAt s t (decisions rule s) → AlikeOutcomes rule s t (next s) (next t)
  next_alike h = subst (λ (f : Fetch). AlikeOutcomes rule s t (next s) (outcome_of t f)) (same_fetched h) (fetched_alike (fetch s) (all-parts _ (decides_fetched rule (kind_of (reg s 17)) (instr_of (fetch s))) (fetched_from s.pc) h).0)

  pub places_alike : (i : Instr) → fetch s ≡ Fetched i → AgreeAt s t (decisions rule s) → SamePlaces i
  places_alike i e h = places i (subst (λ (f : Fetch). AgreeAt s t (decides_fetched rule (kind_of (reg s 17)) (instr_of f))) e (all-parts _ (decides_fetched rule (kind_of (reg s 17)) (instr_of (fetch s))) (fetched_from s.pc) h).0)

-- ---- the arguments of a record are those of the state

pub read_arguments : (s : State) (inputs at : ℕ) (args : List ℕ) (result : ℤ) (bytes : List ℕ) → IsRecord (Read at args result bytes) → IsLawful s inputs (Read at args result bytes) → args ≡ arguments_of s
read_arguments s inputs at args result bytes form lawful =
    let same = same_arguments s args (result_compared result (allowed (refusal_of s inputs (arguments_of s)) result 0) ∷ []) lawful in
    three-get_or args form.1.three ∙ same-three (get_or args 0 0) (get_or args 1 0) (get_or args 2 0) (reg s 10) (reg s 11) (reg s 12) same.first same.second same.third

pub write_arguments : (s : State) (inputs at : ℕ) (args : List ℕ) (result : ℤ) (bytes : List ℕ) → IsRecord (Write at args result bytes) → IsLawful s inputs (Write at args result bytes) → args ≡ arguments_of s
write_arguments s inputs at args result bytes form lawful =
    let same = same_arguments s args (result_compared result (allowed (refusal_of s 16 (arguments_of s)) result (reg s 12)) ∷ bytes_compared 0 bytes (bytes_at s (reg s 11) (length bytes))) lawful in
    three-get_or args form.1.three ∙ same-three (get_or args 0 0) (get_or args 1 0) (get_or args 2 0) (reg s 10) (reg s 11) (reg s 12) same.first same.second same.third

pub other_number : (s : State) (inputs at number : ℕ) → IsLawful s inputs (Other at number) → number ≡ reg s 17
other_number s inputs at number lawful =
    let same : pos number ≡ pos (reg s 17) = (first_agrees (compared field.Number number (reg s 17)) [] lawful).0 in cc

-- ---- the end

-- a run whose end is an exit
pub record IsExitAt (s : State) (code : ℕ) : Type 0 where
  pub call : Call
  pub calls : next s ≡ Called call
  pub is_exit : call.kind ≡ kind.Exit
  pub code_is : code ≡ reg s 10

pub exits_at : (log : Log) (s : State) (at code : ℕ) → IsRun log s → log.end ≡ Exit at code → IsExitAt (moment_at s log at).state code
exits_at log s at code run e =
    let m = moment_at s log at in
    let d : difference_at m log.inputs (EndOf (Exit at code)) ≡ None = subst (λ (end : RunEnd). difference_at (moment_at s log (end_at end)) log.inputs (EndOf end) ≡ None) e (ends_at log s run.form run.agrees) in
    let exits = exit_agrees m log.inputs at code d in
    let same = (first_agrees (compared field.Event 5 (seen_event (next m.state))) (compared field.Code code (reg m.state 10) ∷ []) d).1 in
    let code_same : pos code ≡ pos (reg m.state 10) = (first_agrees (compared field.Code code (reg m.state 10)) [] same).0 in
    record { call = exits.0; calls = exits.1; is_exit = exits.2; code_is = cc }

-- ---- records that are alike

-- what two runs have in common of the records that are done and left
pub record AreAlike (differs : SourceByte → Bool) (done left others rest : List CallRecord) : Type 0 where
  pub received_as_much : (c : ℕ) → length (received c done) ≡ length (received c others)
  pub written_as_much : (c : ℕ) → length (written c done) ≡ length (written c others)
  pub bytes : (c o : ℕ) → differs (record { channel = c; offset = o }) ≡ false → get_or (received c done) o 0 ≡ get_or (received c others) o 0
  pub answers : SameAnswers differs done left rest

-- ---- one more record

abbrev pub kept_if : Bool → List ℕ → List ℕ
kept_if b xs = if b then xs else []

pub kept_length : (b : Bool) (xs ys : List ℕ) → length xs ≡ length ys → length (kept_if b xs) ≡ length (kept_if b ys)
kept_length true xs ys e = e
kept_length false xs ys e = refl

module _ (differs : SourceByte → Bool) (done others : List CallRecord) where
  -- what two records that follow move is alike
  record MovesAlike (r q : CallRecord) : Type 0 where
    reads : (c : ℕ) → length (received_by c r) ≡ length (received_by c q)
    writes : (c : ℕ) → length (written_by c r) ≡ length (written_by c q)
    bytes : (c i : ℕ) → differs (record { channel = c; offset = length (received c done) + i }) ≡ false → get_or (received_by c r) i 0 ≡ get_or (received_by c q) i 0

  pushed : (left rest rs qs : List CallRecord) (r q : CallRecord) → AreAlike differs done left others rest → MovesAlike r q → SameAnswers differs (done ++ r ∷ []) rs qs → AreAlike differs (done ++ r ∷ []) rs (others ++ q ∷ []) qs
  pushed left rest rs qs r q h g a = record {
    received_as_much = λ c. length-received-push c done r ∙ ap₂ (λ (x y : ℕ). x + y) (h.received_as_much c) (g.reads c) ∙ sym (length-received-push c others q);
    written_as_much = λ c. length-written-push c done r ∙ ap₂ (λ (x y : ℕ). x + y) (h.written_as_much c) (g.writes c) ∙ sym (length-written-push c others q);
    bytes = λ c o e. ap (λ (xs : List ℕ). get_or xs o 0) (received-push c done r) ∙ by c o e (cases_lt o (length (received c done))) ∙ sym (ap (λ (xs : List ℕ). get_or xs o 0) (received-push c others q));
    answers = a;
  }
    where
      by : (c o : ℕ) → differs (record { channel = c; offset = o }) ≡ false → (o < length (received c done)) ⊎ (length (received c done) ≤ o) → get_or (received c done ++ received_by c r) o 0 ≡ get_or (received c others ++ received_by c q) o 0
      by c o e (inl x) =
          let same = h.received_as_much c in
          get_or_append_left (received c done) (received_by c r) 0 o x ∙ h.bytes c o e ∙ sym (get_or_append_left (received c others) (received_by c q) 0 o (omega arith))
      by c o e (inr x) =
          let same = h.received_as_much c in
          let n = length (received c done) in
          let there : o ≡ n + (o - n) = omega arith in
          get_or-append_right (received c done) (received_by c r) n o 0 refl x
          ∙ g.bytes c (o - n) (subst (λ (k : ℕ). differs (record { channel = c; offset = k }) ≡ false) there e)
          ∙ sym (get_or-append_right (received c others) (received_by c q) n o 0 (sym same) x)

  read_moves : (at at1 : ℕ) (args args1 : List ℕ) (result result1 : ℤ) (bytes bytes1 : List ℕ) → args ≡ args1 → length bytes ≡ length bytes1 → BytesAlike differs (channel_of args) (length (received (channel_of args) done)) bytes bytes1 → MovesAlike (Read at args result bytes) (Read at1 args1 result1 bytes1)
  read_moves at at1 args args1 result result1 bytes bytes1 e n h = record {
    reads = λ c. kept_length (channel_of args == c) bytes bytes1 n ∙ ap (λ (xs : List ℕ). length (kept_if (channel_of xs == c) bytes1)) e;
    writes = λ c. kept_length (channel_of args == c) [] [] refl ∙ ap (λ (xs : List ℕ). length (kept_if (channel_of xs == c) [])) e;
    bytes = λ c i d. same c i d (channel_of args == c) refl ∙ ap (λ (xs : List ℕ). get_or (kept_if (channel_of xs == c) bytes1) i 0) e;
  }
    where
      same : (c i : ℕ) → differs (record { channel = c; offset = length (received c done) + i }) ≡ false → (b : Bool) → (channel_of args == c) ≡ b → get_or (kept_if b bytes) i 0 ≡ get_or (kept_if b bytes1) i 0
      same c i d true f = h i (subst (λ (k : ℕ). differs (record { channel = k; offset = length (received k done) + i }) ≡ false) (sym (eqb-true (channel_of args) c f)) d)
      same c i d false f = refl

  write_moves : (at at1 : ℕ) (args args1 : List ℕ) (result result1 : ℤ) (bytes bytes1 : List ℕ) → args ≡ args1 → length bytes ≡ length bytes1 → MovesAlike (Write at args result bytes) (Write at1 args1 result1 bytes1)
  write_moves at at1 args args1 result result1 bytes bytes1 e n = record {
    reads = λ c. kept_length (channel_of args == c) [] [] refl ∙ ap (λ (xs : List ℕ). length (kept_if (channel_of xs == c) [])) e;
    writes = λ c. kept_length (channel_of args == c) bytes bytes1 n ∙ ap (λ (xs : List ℕ). length (kept_if (channel_of xs == c) bytes1)) e;
    bytes = λ c i d. nothing (channel_of args == c) i ∙ sym (nothing (channel_of args1 == c) i);
  }
    where
      nothing : (b : Bool) (i : ℕ) → get_or (kept_if b []) i 0 ≡ 0
      nothing true i = refl
      nothing false i = refl

  still_moves : (r q : CallRecord) → ((c : ℕ) → received_by c r ≡ received_by c q) → ((c : ℕ) → written_by c r ≡ written_by c q) → MovesAlike r q
  still_moves r q f g = record { reads = λ c. ap length (f c); writes = λ c. ap length (g c); bytes = λ c i d. ap (λ (xs : List ℕ). get_or xs i 0) (f c) }

-- ---- two calls

-- what the answers to two calls have in common
pub record AnsweredAlike (differs : SourceByte → Bool) (m n : Moment) (left rest : List CallRecord) : Type 0 where
  pub seen : call_seen m left ≡ call_seen n rest
  pub words : words_given left ≡ words_given rest
  pub given : (i : ℕ) → i < (call_seen m left).length → differs (record { channel = (call_seen m left).channel; offset = (call_seen m left).offset + i }) ≡ false → get_or (bytes_given left) i 0 ≡ get_or (bytes_given rest) i 0

abbrev pub done_after : List CallRecord → List CallRecord → List CallRecord
done_after done [] = done
done_after done (r ∷ rs) = done ++ r ∷ []

abbrev pub left_after : List CallRecord → List CallRecord
left_after [] = []
left_after (r ∷ rs) = rs

-- and what their records have
pub record BothAnswered (differs : SourceByte → Bool) (m n : Moment) (left rest : List CallRecord) : Type 0 where
  pub alike : AnsweredAlike differs m n left rest
  pub records : AreAlike differs (done_after m.done left) (left_after left) (done_after n.done rest) (left_after rest)

transfer_same : (k : CallKind) (args args1 before before1 : List ℕ) (n n1 : ℕ) → args ≡ args1 → length before ≡ length before1 → n ≡ n1 → transfer k args before n ≡ transfer k args1 before1 n1
transfer_same k args args1 before before1 n n1 e f g =
    ap (λ (xs : List ℕ). made xs (length before) n) e ∙ ap₂ (λ (o l : ℕ). made args1 o l) f g
  where
    made : List ℕ → ℕ → ℕ → CallSeen
    made xs o l = record { kind = k; channel = channel_of xs; place = buffer_of xs; offset = if l == 0 then 0 else o; length = l }

pub not_exit : {A : Type 0} (r : CallRecord) → kind_by r ≡ kind.Exit → A
not_exit (Read at args result bytes) e = cc
not_exit r e = cc

module _ (differs : SourceByte → Bool) (a b : Log) (t : ℕ) (m n : Moment) (ss : IsSound m.state) (st : IsSound n.state) (c d : Call) (same : c.kind ≡ d.kind) (agree : AgreeAt m.state n.state (used c.kind)) (seventeen : reg m.state 17 ≡ reg n.state 17) where
  used_by : (k : CallKind) → c.kind ≡ k → AgreeAt m.state n.state (used k)
  used_by k e = subst (λ (x : CallKind). AgreeAt m.state n.state (used x)) e agree

  arguments_agree : AgreeAt m.state n.state (used kind.Read) → arguments_of m.state ≡ arguments_of n.state
  arguments_agree h =
      let ten = word_agrees ss st 10 (h.0, (h.1.0, (h.1.1.0, (h.1.1.1.0, tt)))) in
      let rest = h.1.1.1.1 in
      let eleven = word_agrees ss st 11 (rest.0, (rest.1.0, (rest.1.1.0, (rest.1.1.1.0, tt)))) in
      let twelve = word_agrees ss st 12 rest.1.1.1.1 in
      ap₂ (λ (x : ℕ) (xs : List ℕ). x ∷ xs) ten (ap₂ (λ (x : ℕ) (xs : List ℕ). x ∷ xs) eleven (ap (λ (x : ℕ). x ∷ []) twelve))

  -- two records of one kind
  abbrev Both : List CallRecord → List CallRecord → Type 0
  Both left rest = AreAlike differs m.done left n.done rest → IsCallAt a t m.state c left → IsCallAt b t n.state d rest → BothAnswered differs m n left rest

  pub both_answered : (left rest : List CallRecord) → Both left rest
  both_answered [] [] h x y = record { alike = record { seen = refl; words = refl; given = λ i g e. refl }; records = h }
  both_answered [] (q ∷ qs) h x y = not_exit q (sym y.3 ∙ sym same ∙ x.0)
  both_answered (r ∷ rs) [] h x y = not_exit r (sym x.3 ∙ same ∙ y.0)
  both_answered (Read at args result bytes ∷ rs) (Read at1 args1 result1 bytes1 ∷ qs) h x y =
      let asks : args ≡ args1 = read_arguments m.state a.inputs at args result bytes x.1 x.2 ∙ arguments_agree (used_by kind.Read x.3) ∙ sym (read_arguments n.state b.inputs at1 args1 result1 bytes1 y.1 y.2) in
      let answer = h.answers (x.0 ∙ sym y.0, asks) in
      let long : length bytes ≡ length bytes1 = x.1.1.whole ∙ ap moved_length answer.0.0 ∙ sym y.1.1.whole in
      record {
        alike = record {
          seen = transfer_same kind.Read args args1 (received (channel_of args) m.done) (received (channel_of args1) n.done) (length bytes) (length bytes1) asks (h.received_as_much (channel_of args) ∙ ap (λ (xs : List ℕ). length (received (channel_of xs) n.done)) asks) long;
          words = ap (λ (z : ℤ). as_word z ∷ []) answer.0.0;
          given = λ i g e. answer.0.1 i (subst (λ (o : ℕ). differs (record { channel = channel_of args; offset = o + i }) ≡ false) (transfer_offset kind.Read args (received (channel_of args) m.done) (length bytes) (omega arith)) e);
        };
        records = pushed differs m.done n.done (Read at args result bytes ∷ rs) (Read at1 args1 result1 bytes1 ∷ qs) rs qs (Read at args result bytes) (Read at1 args1 result1 bytes1) h
            (read_moves differs m.done n.done at at1 args args1 result result1 bytes bytes1 asks long answer.0.1) answer.1;
      }
  both_answered (Write at args result bytes ∷ rs) (Write at1 args1 result1 bytes1 ∷ qs) h x y =
      let asks : args ≡ args1 = write_arguments m.state a.inputs at args result bytes x.1 x.2 ∙ arguments_agree (used_by kind.Write x.3) ∙ sym (write_arguments n.state b.inputs at1 args1 result1 bytes1 y.1 y.2) in
      let answer = h.answers (x.0 ∙ sym y.0, asks) in
      let long : length bytes ≡ length bytes1 = x.1.1.whole ∙ ap moved_length answer.0 ∙ sym y.1.1.whole in
      record {
        alike = record {
          seen = transfer_same kind.Write args args1 (written (channel_of args) m.done) (written (channel_of args1) n.done) (length bytes) (length bytes1) asks (h.written_as_much (channel_of args) ∙ ap (λ (xs : List ℕ). length (written (channel_of xs) n.done)) asks) long;
          words = ap (λ (z : ℤ). as_word z ∷ []) answer.0;
          given = λ i g e. refl;
        };
        records = pushed differs m.done n.done (Write at args result bytes ∷ rs) (Write at1 args1 result1 bytes1 ∷ qs) rs qs (Write at args result bytes) (Write at1 args1 result1 bytes1) h
            (write_moves differs m.done n.done at at1 args args1 result result1 bytes bytes1 asks long) answer.1;
      }
  both_answered (Clock at value ∷ rs) (Clock at1 value1 ∷ qs) h x y =
      let answer = h.answers (x.0 ∙ sym y.0) in
      record {
        alike = record { seen = refl; words = ap (λ (v : ℕ). words_given (Clock at v ∷ rs)) answer.0; given = λ i g e. refl };
        records = pushed differs m.done n.done (Clock at value ∷ rs) (Clock at1 value1 ∷ qs) rs qs (Clock at value) (Clock at1 value1) h
            (still_moves differs m.done n.done (Clock at value) (Clock at1 value1) (λ k. refl) (λ k. refl)) answer.1;
      }
  both_answered (Other at number ∷ rs) (Other at1 number1 ∷ qs) h x y =
      let numbers : number ≡ number1 = other_number m.state a.inputs at number x.2 ∙ seventeen ∙ sym (other_number n.state b.inputs at1 number1 y.2) in
      let answer = h.answers (x.0 ∙ sym y.0, numbers) in
      record {
        alike = record { seen = refl; words = refl; given = λ i g e. refl };
        records = pushed differs m.done n.done (Other at number ∷ rs) (Other at1 number1 ∷ qs) rs qs (Other at number) (Other at1 number1) h
            (still_moves differs m.done n.done (Other at number) (Other at1 number1) (λ k. refl) (λ k. refl)) answer.1;
      }
  both_answered left rest h x y = let kinds = sym x.3 ∙ same ∙ y.3 in cc
