-- Examples: why the laws have the premises that they have; and of each kind of decision that it is needed: were it not listed, the
-- laws would be false. The premise that nothing is listed is false of the table as it stands; it holds of a table without that kind.
-- At the end examples that the laws apply to: all that they ask for is computed.
use Rattle.std.proofs.Common.{◌≡◌, ℕ, suc, ◌+◌, ◌^◌, ◌<◌, ◌≤◌, Bool, true, List, [], ◌∷◌, ◌++◌, map, length, take, get_or, pos, Option, Some, None, refl, arith, ap, sym, subst, inl, inr, replicate, zero, false}
use Rattle.std.specs.Prelude.{nat_lt, ◌<ℤ◌, All, ◌==◌}
use Rattle.std.specs.List.{flat_map, list_all, AllByRecursion}
use Rattle.std.proofs.lemmas.Int.{ints}
use Rattle.std.proofs.lemmas.List.Elements.{All-from_recursion}
use Rattle.std.specs.Int.{w32, to_le_bytes}
use Rattle.lists.proofs.Numbers.{get_or-below, all-below}
use Rattle.lists.proofs.Tests.{true-false}
use Rattle.isa.specs.declared.Instr.{Instr}
use Rattle.isa.specs.declared.Instr.TheVariants.{Ecall, Lbu, Beq, Jalr, Auipc, Sb, Addi, Add, Sltu}
use Rattle.isa.specs.Machine.{State, reg, execute, effect_of, moved_on_with, Retired}
use Rattle.isa.specs.Encodings.{encoding}
use Rattle.log_model.specs.declared.CallRecord.{CallRecord}
use Rattle.log_model.specs.declared.CallRecord.TheVariants.{Read, Write, Other}
use Rattle.log_model.specs.declared.RunEnd.{RunEnd}
use Rattle.log_model.specs.declared.RunEnd.TheVariants.{Exit, Trap}
use Rattle.log_model.specs.Logs.{Log, IsLog, IsTransfer, IsRecord, IsBytes, IsEnd, Rise, least_after, steps, end_at, word32}
use Rattle.flow_model.specs.declared.CallSeen.{CallSeen}
use Rattle.flow_model.specs.declared.Loc.{Loc}
use Rattle.flow_model.specs.declared.Loc.TheVariants.{Reg, Mem}
use Rattle.flow_model.specs.declared.Rule.TheVariants.{Copy, Compute, Index}
use Rattle.flow_model.specs.declared.SourceByte.{SourceByte}
use Rattle.flow_model.specs.declared.StepSeen.{StepSeen}
use Rattle.flow_model.specs.Flow.{flow, from, origins_by}
use Rattle.flow_model.specs.Origins.{origins}
use Rattle.replay_model.specs.Run.{step_of, trace, simple_call}
use Rattle.replay_model.specs.Comparison.{call_event, divergence}
use Rattle.record_model.specs.States.{IsSound}
use Rattle.answer_meaning.specs.Content.{content}
use Rattle.answer_meaning.specs.StepLaws.{SameStep}
use Rattle.answer_meaning.specs.RunLaws.{IsRun, SamePath, content_at, moment_at, byte_received, byte_written, under}
use Rattle.decision_find.specs.Decisions.{Decision, decided}
use Rattle.answer_meaning.specs.Environments.{SameAnswers}
use Rattle.answer_meaning.specs.DecisionLaws.{NoneDiffers, IsUndecided, StepsAreSame, LengthsAreSame, EndsAreSame, AreAlikeBut}
use Rattle.report_model.specs.Query.{Query, Choice}
use Rattle.replay_model.specs.Fits.{Fits, beginning}
use Rattle.record_model.specs.Recorded.{Setting, input_of, IsRecorded}
use Rattle.sha2.specs.Sha256.{sha256, digest_bytes, hash_after, compress, rounds, first_words, schedule}
use Rattle.answer_meaning.proofs.Steps.{compute_determines}
use Rattle.decision_find.specs.Text.{decided_by}
use Rattle.answer_meaning.specs.Recordings.{AreSettingsAlike, AreAnswersAlike}
use Rattle.answer_meaning.proofs.Together.{path_is_same, contents_are_same, recordings_are_alike}
use Rattle.isa.specs.declared.CallKind.TheVariants as kind

-- ---- guests that read a byte or two, and write one or two

-- the code from 0 on, and these bytes from 64 on; x10, x11, x12 and x17 are those of a read of n bytes to a place
abbrev beginning_with : List Instr → ℕ → ℕ → List ℕ → State
beginning_with code place n bytes = record {
  pc = 0;
  registers = replicate 11 0 ++ place ∷ n ∷ 0 ∷ 0 ∷ 0 ∷ 0 ∷ 63 ∷ replicate 14 0;
  base = 0;
  memory = take 64 (flat_map (λ i. to_le_bytes w32 (encoding i)) code ++ replicate 64 0) ++ bytes;
}

-- the bytes xs are read to a place first; then come these records, and the end
abbrev log_with : ℕ → List ℕ → List CallRecord → RunEnd → Log
log_with place xs rest end = record {
  pages = 1;
  inputs = 1;
  digest = replicate 32 0;
  records = Read 0 (0 ∷ place ∷ length xs ∷ []) (pos (length xs)) xs ∷ rest;
  end = end;
}

-- after n steps ys are written on a channel, from their place; then comes the exit, with this code
abbrev log_of : ℕ → ℕ → ℕ → ℕ → ℕ → List ℕ → List ℕ → Log
log_of place n channel from code xs ys = log_with place xs (Write n (channel ∷ from ∷ length ys ∷ []) (pos (length ys)) ys ∷ []) (Exit (suc (suc n)) code)

abbrev pub byte_in : ℕ → SourceByte
byte_in i = record { channel = 0; offset = i }

abbrev pub all : SourceByte → Bool
all b = true

pub a_transfer : (channel place : ℕ) (xs : List ℕ) → channel < 2 ^ 32 → place < 2 ^ 32 → length xs < 2 ^ 31 → IsBytes xs → IsTransfer (channel ∷ place ∷ length xs ∷ []) (pos (length xs)) xs
a_transfer channel place xs h g k b = record { three = refl; words = (h, (g, (omega arith, tt))); fits = fits; whole = refl; are_bytes = b }
  where
    fits : pos (length xs) <ℤ pos (2 ^ 31)
    fits = omega (arith, ints)

abbrev are_small : List ℕ → Bool
are_small ns = list_all (λ v. nat_lt v 256) ns

is_log : (place : ℕ) (xs : List ℕ) (rest : List CallRecord) (end : RunEnd) → are_small (place ∷ length xs ∷ xs) ≡ true → AllByRecursion IsRecord rest → IsEnd end → Rise 1 rest → least_after 1 rest ≤ end_at end → IsLog (log_with place xs rest end)
is_log place xs rest end small form ends rise after =
    let few = all-below 256 (place ∷ length xs ∷ xs) small in
    record {
      pages = (omega arith, omega arith);
      inputs = omega arith;
      digest = refl;
      digest_bytes = all-below 256 (replicate 32 0) refl;
      records = ((omega arith, a_transfer 0 place xs (omega arith) (omega arith) (omega arith) few.1.1, inr (omega (arith, ints), omega (arith, ints))), form);
      end = ends;
      rise = (omega arith, rise);
      ends_after = after;
    }

is_sound : (s : State) → length s.registers ≡ 32 → reg s 0 ≡ 0 → list_all (λ v. nat_lt v (2 ^ 32)) s.registers ≡ true → list_all (λ v. nat_lt v (2 ^ 8)) s.memory ≡ true → s.base + length s.memory ≤ 2 ^ 32 → IsSound s
is_sound s count first words bytes ends = record {
  count = count;
  first = first;
  words = get_or-below (2 ^ 32) s.registers (omega arith) (all-below (2 ^ 32) s.registers words);
  bytes = get_or-below (2 ^ 8) s.memory (omega arith) (all-below (2 ^ 8) s.memory bytes);
  ends = ends;
}

-- a run that reads and writes
wrote : (s : State) (place n channel from code : ℕ) (xs ys : List ℕ) → IsSound s → are_small (place ∷ length xs ∷ xs) ≡ true → are_small (n ∷ channel ∷ from ∷ code ∷ length ys ∷ ys) ≡ true → divergence s (log_of place (suc n) channel from code xs ys) ≡ None → IsRun (log_of place (suc n) channel from code xs ys) s
wrote s place n channel from code xs ys sound small few agrees =
    let few = all-below 256 (n ∷ channel ∷ from ∷ code ∷ length ys ∷ ys) few in
    record {
      form = is_log place xs (Write (suc n) (channel ∷ from ∷ length ys ∷ []) (pos (length ys)) ys ∷ []) (Exit (suc (suc (suc n))) code) small ((omega arith, a_transfer channel from ys (omega arith) (omega arith) (omega arith) few.1.1.1.1.1, inr refl), tt) (omega arith, omega arith) (omega arith, tt) (omega arith);
      sound = sound;
      agrees = agrees;
    }

-- stores the lowest byte of x6 at 60 and writes it, and exits
abbrev write_and_exit : List Instr
write_and_exit = Sb 11 6 (pos 0) ∷ Addi 17 0 (pos 64) ∷ Ecall ∷ Addi 17 0 (pos 93) ∷ Ecall ∷ []

-- one decision, of the instruction i at this time and pc, by the first byte that was read
abbrev one_at : ℕ → ℕ → Instr → Loc → List Decision
one_at t pc i l = record { time = t; pc = pc; instr = Some i; loc = l; sources = byte_in 0 ∷ [] } ∷ []

-- ---- where nothing is listed, the laws say that two runs are the same

abbrev NothingListed : State → Log → Type 0
NothingListed s a = decided (under Compute all) s a ≡ []

abbrev Same : ℕ → ℕ → Type 0
Same j k = j ≡ k

undecided : {s : State} {a b : Log} → IsRun a s × IsRun b s → SameAnswers all [] a.records b.records → NothingListed s a → IsUndecided Compute all all s a b
undecided runs answers e = record {
  first = runs.0;
  second = runs.1;
  chosen = λ x f. true-false f;
  none = subst (λ (ds : List Decision). All (λ d. NoneDiffers all d.sources) ds) (sym e) (All-from_recursion (λ (d : Decision). NoneDiffers all d.sources) [] tt);
  answers = answers;
}

-- a decision that the laws need: of two runs the first has it alone, though nothing comes to this location by its rule; were it
-- not listed, a step would be the same that isn't
record IsNeeded (s : State) (a b : Log) (ds : List Decision) (t : ℕ) (l : Loc) : Type 0 where
  runs : IsRun a s × IsRun b s
  decides : decided (under Compute all) s a ≡ ds
  from_nowhere : origins (under Compute all) (trace s a) t l ≡ []
  needed : NothingListed s a → StepsAreSame Compute → ⊥

needed_at : {s : State} {a b : Log} {ds : List Decision} {t : ℕ} {l : Loc} → IsRun a s × IsRun b s → decided (under Compute all) s a ≡ ds
    → origins (under Compute all) (trace s a) t l ≡ []
    → SameAnswers all [] a.records b.records → (k : ℕ) → k < steps a → k < steps b → (SameStep Compute (moment_at s a k) (moment_at s b k) → ⊥)
    → IsNeeded s a b ds t l
needed_at {s = s} {a = a} {b = b} runs e f answers k h g differ = record {
  runs = runs;
  decides = e;
  from_nowhere = f;
  needed = λ none law. differ (law all all s a b (undecided runs answers none) k h g);
}

abbrev call_in : Option CallSeen → CallSeen
call_in (Some call) = call
call_in None = simple_call kind.Exit

abbrev number_in : Instr → ℕ
number_in (Addi d a (pos n)) = n
number_in other = 0

abbrev code_in : RunEnd → ℕ
code_in (Exit at code) = code
code_in other = 0

-- ---- a run without decisions

-- reads two bytes, doubles the first, and writes both
abbrev pub doubling : State
doubling = beginning_with (Ecall ∷ Lbu 5 11 (pos 0) ∷ Add 5 5 5 ∷ Sb 11 5 (pos 0) ∷ Addi 17 0 (pos 64) ∷ Ecall ∷ Addi 17 0 (pos 93) ∷ Ecall ∷ []) 60 2 []

abbrev pub doubled : ℕ → ℕ → Log
doubled x y = log_of 60 5 2 60 2 (x ∷ y ∷ []) ((x + x) ∷ (y ∷ []))

pub doubling_runs : IsRun (doubled 3 7) doubling × IsRun (doubled 100 7) doubling
doubling_runs =
    let sound = is_sound doubling refl refl refl refl (omega arith) in
    (wrote doubling 60 4 2 60 2 (3 ∷ 7 ∷ []) (6 ∷ 7 ∷ []) sound refl refl refl, wrote doubling 60 4 2 60 2 (100 ∷ 7 ∷ []) (200 ∷ 7 ∷ []) sound refl refl refl)

nothing_decided : decided (under Compute all) doubling (doubled 3 7) ≡ []
nothing_decided = refl

-- ---- a branch, by its first and by its second operand, and a jump by a register

-- goes on at 12 or at 36, as this instruction says, and writes the pc
abbrev going : Instr → State
going i = beginning_with ((Ecall ∷ Lbu 5 11 (pos 0) ∷ i ∷ []) ++ Auipc 6 (pos 0) ∷ write_and_exit ++ Auipc 6 (pos 0) ∷ write_and_exit) 60 1 []

abbrev gone : ℕ → ℕ → Log
gone x y = log_of 60 6 1 60 1 (x ∷ []) (y ∷ [])

abbrev branching : State
branching = going (Beq 5 0 (pos 28))

branching_needed : IsNeeded branching (gone 1 12) (gone 0 36) (one_at 2 8 (Beq 5 0 (pos 28)) (Reg 5 0)) 6 (Mem 60)
branching_needed =
    let sound = is_sound branching refl refl refl refl (omega arith) in
    needed_at (
      wrote branching 60 5 1 60 1 (1 ∷ []) (12 ∷ []) sound refl refl refl,
      wrote branching 60 5 1 60 1 (0 ∷ []) (36 ∷ []) sound refl refl refl,
    ) refl refl
    (λ asks. ((refl, λ i e. true-false e), λ asks. (refl, tt))) 3 (omega arith) (omega arith)
    (λ same. let z : Same 12 36 = same.pc in absurd (omega arith))

-- the traces are one, the output byte has no origin by index either, and it is another byte: the pcs at which AUIPC stands differ
other_pcs : (trace branching (gone 1 12) ≡ trace branching (gone 0 36)) × (origins (under Index all) (trace branching (gone 1 12)) 6 (Mem 60) ≡ []) × (byte_written (gone 1 12) (record { channel = 1; offset = 0 }) ≡ 12)
    × (byte_written (gone 0 36) (record { channel = 1; offset = 0 }) ≡ 36) × ((moment_at branching (gone 1 12) 3).state.pc ≡ 12) × ((moment_at branching (gone 0 36) 3).state.pc ≡ 36)
other_pcs = (refl, refl, refl, refl, refl, refl)

abbrev comparing : State
comparing = going (Beq 0 5 (pos 28))

comparing_needed : IsNeeded comparing (gone 1 12) (gone 0 36) (one_at 2 8 (Beq 0 5 (pos 28)) (Reg 5 0)) 6 (Mem 60)
comparing_needed =
    let sound = is_sound comparing refl refl refl refl (omega arith) in
    needed_at (
      wrote comparing 60 5 1 60 1 (1 ∷ []) (12 ∷ []) sound refl refl refl,
      wrote comparing 60 5 1 60 1 (0 ∷ []) (36 ∷ []) sound refl refl refl,
    ) refl refl
    (λ asks. ((refl, λ i e. true-false e), λ asks. (refl, tt))) 3 (omega arith) (omega arith)
    (λ same. let z : Same 12 36 = same.pc in absurd (omega arith))

abbrev jumping : State
jumping = going (Jalr 0 5 (pos 0))

jumping_needed : IsNeeded jumping (gone 12 12) (gone 36 36) (one_at 2 8 (Jalr 0 5 (pos 0)) (Reg 5 0)) 6 (Mem 60)
jumping_needed =
    let sound = is_sound jumping refl refl refl refl (omega arith) in
    needed_at (wrote jumping 60 5 1 60 1 (12 ∷ []) (12 ∷ []) sound refl refl refl, wrote jumping 60 5 1 60 1 (36 ∷ []) (36 ∷ []) sound refl refl refl) refl refl
    (λ asks. ((refl, λ i e. true-false e), λ asks. (refl, tt))) 3 (omega arith) (omega arith)
    (λ same. let z : Same 12 36 = same.pc in absurd (omega arith))

-- ---- the address of a load: index lists the byte, compute doesn't

-- writes the byte of a table at 64 that the byte chooses
abbrev loading : State
loading = beginning_with (Ecall ∷ Lbu 5 11 (pos 0) ∷ Lbu 6 5 (pos 64) ∷ write_and_exit) 60 1 (7 ∷ 9 ∷ [])

abbrev chosen : ℕ → ℕ → Log
chosen x y = log_of 60 5 1 60 1 (x ∷ []) (y ∷ [])

loading_sound : IsSound loading
loading_sound = is_sound loading refl refl refl refl (omega arith)

loading_runs : IsRun (chosen 0 7) loading × IsRun (chosen 1 9) loading
loading_runs = (wrote loading 60 4 1 60 1 (0 ∷ []) (7 ∷ []) loading_sound refl refl refl, wrote loading 60 4 1 60 1 (1 ∷ []) (9 ∷ []) loading_sound refl refl refl)

loading_needed : IsNeeded loading (chosen 0 7) (chosen 1 9) (one_at 2 8 (Lbu 6 5 (pos 64)) (Reg 5 0)) 5 (Mem 60)
loading_needed =
    needed_at loading_runs refl refl (λ asks. ((refl, λ i e. true-false e), λ asks. (refl, tt))) 2 (omega arith) (omega arith)
    (λ same. let z : Same 64 65 = ap (λ (x : StepSeen). x.place) same.step in absurd (omega arith))

-- by the rule index it isn't listed, the runs take one path, and the byte is an origin
one_path : SamePath Index loading (chosen 0 7) (chosen 1 9)
one_path = record { as_long = refl; each = each }
  where
    each : (k : ℕ) → k < 8 → SameStep Index (moment_at loading (chosen 0 7) k) (moment_at loading (chosen 1 9) k)
    each (suc (suc (suc (suc (suc (suc (suc (suc k)))))))) h = absurd (omega arith)
    each k h = record { pc = refl; step = refl; answer = refl }

by_index : (decided (under Index all) loading (chosen 0 7) ≡ []) × (origins (under Index all) (trace loading (chosen 0 7)) 5 (Mem 60) ≡ byte_in 0 ∷ [])
by_index = (refl, refl)

-- ---- the address of a store: index doesn't list the byte

-- stores 1 at 64 or 65, as the byte says, and writes the byte at 64
abbrev storing : State
storing = beginning_with (Ecall ∷ Lbu 5 11 (pos 0) ∷ Sb 5 12 (pos 64) ∷ Lbu 6 0 (pos 64) ∷ write_and_exit) 60 1 (0 ∷ 0 ∷ [])

storing_needed : IsNeeded storing (gone 1 0) (gone 0 1) (one_at 2 8 (Sb 5 12 (pos 64)) (Reg 5 0)) 6 (Mem 60)
storing_needed =
    let sound = is_sound storing refl refl refl refl (omega arith) in
    needed_at (wrote storing 60 5 1 60 1 (1 ∷ []) (0 ∷ []) sound refl refl refl, wrote storing 60 5 1 60 1 (0 ∷ []) (1 ∷ []) sound refl refl refl) refl refl
    (λ asks. ((refl, λ i e. true-false e), λ asks. (refl, tt))) 2 (omega arith) (omega arith)
    (λ same. let z : Same 65 64 = ap (λ (x : StepSeen). x.place) same.step in absurd (omega arith))

-- the steps are one but for the place of the store; where it goes past 64 the output byte has no origin
other_places : (map (λ (x : StepSeen). record x { place = 0 }) (trace storing (gone 0 1)) ≡ map (λ (x : StepSeen). record x { place = 0 }) (trace storing (gone 1 0)))
    × (origins (under Index all) (trace storing (gone 0 1)) 6 (Mem 60) ≡ byte_in 0 ∷ []) × (origins (under Index all) (trace storing (gone 1 0)) 6 (Mem 60) ≡ [])
other_places = (refl, refl, refl)

-- ---- a call: how much it asks for, where it goes, which it is, and from where it writes

-- writes as many zeros as the byte says
abbrev asking : State
asking = beginning_with (Ecall ∷ Lbu 12 11 (pos 0) ∷ Sb 11 0 (pos 0) ∷ Addi 17 0 (pos 64) ∷ Ecall ∷ Addi 17 0 (pos 93) ∷ Ecall ∷ []) 60 1 []

abbrev asked : ℕ → List ℕ → Log
asked x ys = log_of 60 4 1 60 x (x ∷ []) ys

asking_needed : IsNeeded asking (asked 1 (0 ∷ [])) (asked 2 (0 ∷ 0 ∷ [])) (one_at 4 16 Ecall (Reg 12 0)) 4 (Mem 60)
asking_needed =
    let sound = is_sound asking refl refl refl refl (omega arith) in
    needed_at (wrote asking 60 3 1 60 1 (1 ∷ []) (0 ∷ []) sound refl refl refl, wrote asking 60 3 1 60 2 (2 ∷ []) (0 ∷ 0 ∷ []) sound refl refl refl) refl refl
    (λ asks. ((refl, λ i e. true-false e), λ asks. let z : Same 1 2 = ap (λ (xs : List ℕ). get_or xs 2 0) asks.1 in absurd (omega arith))) 4 (omega arith) (omega arith)
    (λ same. let z : Same 1 2 = ap (λ (x : StepSeen). (call_in x.call).length) same.step in absurd (omega arith))

-- writes a zero on the channel that the byte says
abbrev sorting : State
sorting = beginning_with (Ecall ∷ Lbu 10 11 (pos 0) ∷ Sb 11 0 (pos 0) ∷ Addi 17 0 (pos 64) ∷ Ecall ∷ Addi 17 0 (pos 93) ∷ Ecall ∷ []) 60 1 []

abbrev sorted : ℕ → Log
sorted x = log_of 60 4 x 60 1 (x ∷ []) (0 ∷ [])

sorting_needed : IsNeeded sorting (sorted 2) (sorted 3) (one_at 4 16 Ecall (Reg 10 0)) 4 (Mem 60)
sorting_needed =
    let sound = is_sound sorting refl refl refl refl (omega arith) in
    needed_at (wrote sorting 60 3 2 60 1 (2 ∷ []) (0 ∷ []) sound refl refl refl, wrote sorting 60 3 3 60 1 (3 ∷ []) (0 ∷ []) sound refl refl refl) refl refl
    (λ asks. ((refl, λ i e. true-false e), λ asks. let z : Same 2 3 = ap (λ (xs : List ℕ). get_or xs 0 0) asks.1 in absurd (omega arith))) 4 (omega arith) (omega arith)
    (λ same. let z : Same 2 3 = ap (λ (x : StepSeen). (call_in x.call).channel) same.step in absurd (omega arith))

-- makes the call of the byte's number; 5 is no call's
abbrev calling : State
calling = beginning_with (Ecall ∷ Lbu 17 11 (pos 0) ∷ Sb 11 0 (pos 0) ∷ Ecall ∷ Addi 17 0 (pos 93) ∷ Ecall ∷ []) 60 1 []

abbrev called : Log
called = log_of 60 3 1 60 1 (64 ∷ []) (0 ∷ [])

abbrev not_called : Log
not_called = log_with 60 (5 ∷ []) (Other 3 5 ∷ []) (Exit 5 4294967258)

calling_needed : IsNeeded calling called not_called (one_at 3 12 Ecall (Reg 17 0)) 3 (Mem 60)
calling_needed =
    let sound = is_sound calling refl refl refl refl (omega arith) in
    let other = is_log 60 (5 ∷ []) (Other 3 5 ∷ []) (Exit 5 4294967258) refl ((omega arith, omega arith), tt) (omega arith, omega arith) (omega arith, tt) (omega arith) in
    needed_at (wrote calling 60 2 1 60 1 (64 ∷ []) (0 ∷ []) sound refl refl refl, record { form = other; sound = sound; agrees = refl }) refl refl
    (λ asks. ((refl, λ i e. true-false e), λ asks. absurd asks)) 3 (omega arith) (omega arith)
    (λ same. let z : Same 2 4 = ap (λ (x : StepSeen). call_event (call_in x.call).kind) same.step in absurd (omega arith))

-- writes the byte at the address that the byte is
abbrev sending : State
sending = beginning_with (Ecall ∷ Lbu 11 11 (pos 0) ∷ Addi 17 0 (pos 64) ∷ Ecall ∷ Addi 17 0 (pos 93) ∷ Ecall ∷ []) 60 1 (7 ∷ 9 ∷ [])

abbrev sent : ℕ → ℕ → Log
sent x y = log_of 60 3 1 x 1 (x ∷ []) (y ∷ [])

sending_needed : IsNeeded sending (sent 64 7) (sent 65 9) (one_at 3 12 Ecall (Reg 11 0)) 3 (Mem 64)
sending_needed =
    let sound = is_sound sending refl refl refl refl (omega arith) in
    needed_at (wrote sending 60 2 1 64 1 (64 ∷ []) (7 ∷ []) sound refl refl refl, wrote sending 60 2 1 65 1 (65 ∷ []) (9 ∷ []) sound refl refl refl) refl refl
    (λ asks. ((refl, λ i e. true-false e), λ asks. let z : Same 64 65 = ap (λ (xs : List ℕ). get_or xs 1 0) asks.1 in absurd (omega arith))) 3 (omega arith) (omega arith)
    (λ same. let z : Same 64 65 = ap (λ (x : StepSeen). (call_in x.call).place) same.step in absurd (omega arith))

-- ---- an instruction

-- reads the byte into the immediate of the next instruction, and writes that
abbrev patching : State
patching = beginning_with (Ecall ∷ Addi 6 0 (pos 0) ∷ Addi 11 0 (pos 60) ∷ write_and_exit) 7 1 []

abbrev patched : ℕ → ℕ → Log
patched x y = log_of 7 5 1 60 1 (x ∷ []) (y ∷ [])

patching_needed : IsNeeded patching (patched 1 16) (patched 2 32) (one_at 1 4 (Addi 6 0 (pos 16)) (Mem 7)) 5 (Mem 60)
patching_needed =
    let sound = is_sound patching refl refl refl refl (omega arith) in
    needed_at (wrote patching 7 4 1 60 1 (1 ∷ []) (16 ∷ []) sound refl refl refl, wrote patching 7 4 1 60 1 (2 ∷ []) (32 ∷ []) sound refl refl refl) refl refl
    (λ asks. ((refl, λ i e. true-false e), λ asks. (refl, tt))) 1 (omega arith) (omega arith)
    (λ same. let z : Same 16 32 = ap (λ (x : StepSeen). number_in x.instr) same.step in absurd (omega arith))

-- ---- the end

-- exits with the byte
abbrev exiting : State
exiting = beginning_with (Ecall ∷ Lbu 10 11 (pos 0) ∷ Addi 17 0 (pos 93) ∷ Ecall ∷ []) 60 1 []

abbrev exited : ℕ → Log
exited x = log_with 60 (x ∷ []) [] (Exit 3 x)

exiting_runs : IsRun (exited 3) exiting × IsRun (exited 4) exiting
exiting_runs =
    let sound = is_sound exiting refl refl refl refl (omega arith) in (
      record { form = is_log 60 (3 ∷ []) [] (Exit 3 3) refl tt (omega arith, omega arith) tt (omega arith); sound = sound; agrees = refl },
      record { form = is_log 60 (4 ∷ []) [] (Exit 3 4) refl tt (omega arith, omega arith) tt (omega arith); sound = sound; agrees = refl },
    )

code_decides : decided (under Compute all) exiting (exited 3) ≡ one_at 3 12 Ecall (Reg 10 0)
code_decides = refl

code_needed : NothingListed exiting (exited 3) → EndsAreSame → ⊥
code_needed e law = let z : Same 3 4 = ap code_in (law all all exiting (exited 3) (exited 4) (undecided exiting_runs (λ asks. ((refl, λ i e. true-false e), tt)) e) 9 (omega arith) (omega arith)) in absurd (omega arith)

-- by the rule index a load isn't listed, and may trap in one run alone. A trap is a moment that is seen: what its address came
-- from is listed
abbrev trapped : Log
trapped = log_with 60 (200 ∷ []) [] (Trap 2 5 8)

trapping_runs : IsRun trapped loading × IsRun (chosen 0 7) loading
trapping_runs = (record { form = is_log 60 (200 ∷ []) [] (Trap 2 5 8) refl tt (omega arith, inr (inl refl), omega arith) tt (omega arith); sound = loading_sound; agrees = refl }, loading_runs.0)

trap_decides : decided (under Compute all) loading trapped ≡ one_at 2 8 (Lbu 6 5 (pos 64)) (Reg 5 0)
trap_decides = refl

trap_needed : NothingListed loading trapped → LengthsAreSame → ⊥
trap_needed e law = let z : Same 2 8 = law all all loading trapped (chosen 0 7) (undecided trapping_runs (λ asks. ((refl, λ i e. true-false e), tt)) e) 9 (omega arith) (omega arith) in absurd (omega arith)

-- ---- a byte that is read

-- it is the content of its place, and no content one address space further on
where_read : (origins (under Copy all) (trace branching (gone 1 12)) 1 (Mem 60) ≡ byte_in 0 ∷ []) × (content_at branching (gone 1 12) 1 (Mem 60) ≡ byte_received (gone 1 12) (byte_in 0))
    × (origins (under Copy all) (trace branching (gone 1 12)) 1 (Mem 4294967356) ≡ byte_in 0 ∷ []) × (content_at branching (gone 1 12) 1 (Mem 4294967356) ≡ 0)
where_read = (refl, refl, refl, refl)

-- nothing flows there, and the bytes differ
nothing_flows : (from Compute (step_of (moment_at branching (gone 1 12) 0)) (Mem 60) ≡ []) × (content_at branching (gone 1 12) 1 (Mem 60) ≡ 1) × (content_at branching (gone 0 36) 1 (Mem 60) ≡ 0)
nothing_flows = (refl, refl, refl)

-- a call's result comes from nowhere
from_nowhere : (from Copy (step_of (moment_at branching (gone 1 12) 0)) (Reg 10 0) ≡ []) × (content_at branching (gone 1 12) 0 (Reg 10 0) ≡ 0) × (content_at branching (gone 1 12) 1 (Reg 10 0) ≡ 1)
from_nowhere = (refl, refl, refl)

-- ---- states that no run reaches

-- with another value than 0 in x0 a move through x0 is none
abbrev odd_state : State
odd_state = record { pc = 0; registers = 5 ∷ 0 ∷ 1 ∷ []; base = 0; memory = [] }

no_move : (origins_by (flow Copy (Add 1 2 0) 0) (Reg 1 0) ≡ Reg 2 0 ∷ []) × (content odd_state (Reg 2 0) ≡ 1) × (execute odd_state (effect_of odd_state (Add 1 2 0)) ≡ Retired (moved_on_with odd_state 1 6))
no_move = (refl, refl, refl)

-- words past 2 ^ 32 have the lanes of smaller ones, and compare otherwise
abbrev state_with : ℕ → State
state_with v = record { pc = 0; registers = 0 ∷ v ∷ 7 ∷ []; base = 0; memory = [] }

past_words : (content (state_with 1) (Reg 1 0) ≡ content (state_with 4294967297) (Reg 1 0)) × (execute (state_with 1) (effect_of (state_with 1) (Sltu 2 1 2)) ≡ Retired (moved_on_with (state_with 1) 2 1))
    × (execute (state_with 4294967297) (effect_of (state_with 4294967297) (Sltu 2 1 2)) ≡ Retired (moved_on_with (state_with 4294967297) 2 0))
past_words = (refl, refl, refl)

-- ---- a run of a state

-- the first byte alone differs
abbrev first_byte : SourceByte → Bool
first_byte b = b.offset == 0

answered_doubled : SameAnswers first_byte [] (doubled 3 7).records (doubled 100 7).records
answered_doubled asks = ((refl, bytes), λ asks. (refl, tt))
  where
    bytes : (i : ℕ) → first_byte (byte_in (0 + i)) ≡ false → get_or {A = ℕ} (3 ∷ 7 ∷ []) i 0 ≡ get_or {A = ℕ} (100 ∷ 7 ∷ []) i 0
    bytes zero e = true-false e
    bytes (suc zero) e = refl
    bytes (suc (suc i)) e = refl

-- all premises are met, so the runs take one path
undecided_doubled : IsUndecided Compute all first_byte doubling (doubled 3 7) (doubled 100 7)
undecided_doubled = record {
  first = doubling_runs.0;
  second = doubling_runs.1;
  chosen = λ x e. true-false e;
  none = All-from_recursion (λ (d : Decision). NoneDiffers first_byte d.sources) [] tt;
  answers = answered_doubled;
}

one_path_is_taken : SamePath Compute doubling (doubled 3 7) (doubled 100 7)
one_path_is_taken = path_is_same Compute compute_determines all first_byte doubling (doubled 3 7) (doubled 100 7) undecided_doubled refl

-- and the second output byte, which lists the second byte alone, is the same; the first isn't
second_same : content_at doubling (doubled 3 7) 5 (Mem 61) ≡ content_at doubling (doubled 100 7) 5 (Mem 61)
second_same = contents_are_same Compute compute_determines all first_byte doubling (doubled 3 7) (doubled 100 7) undecided_doubled 5 (Mem 61) (omega arith) (omega arith)
    (All-from_recursion (λ x. first_byte x ≡ false) (byte_in 1 ∷ []) (refl, tt))

origins_of_both : (origins (under Compute all) (trace doubling (doubled 3 7)) 5 (Mem 61) ≡ byte_in 1 ∷ [])
    × (origins (under Compute all) (trace doubling (doubled 3 7)) 5 (Mem 60) ≡ byte_in 0 ∷ [])
    × (byte_written (doubled 3 7) (record { channel = 2; offset = 0 }) ≡ 6)
    × (byte_written (doubled 100 7) (record { channel = 2; offset = 0 }) ≡ 200)
origins_of_both = (refl, refl, refl, refl)

-- ---- two recordings of a program file

-- a guest that copies four bytes
abbrev copy_four : List ℕ
copy_four = let size = word32 48 in
    0x7f ∷ 0x45 ∷ 0x4c ∷ 0x46 ∷ 1 ∷ 1 ∷ 1 ∷ replicate 9 0 ++ 2 ∷ 0 ∷ 243 ∷ 0 ∷ word32 1 ++ word32 0x10000 ++ word32 52
    ++ word32 0 ++
    word32 0 ++ 52 ∷ 0 ∷ 32 ∷ 0 ∷ 1 ∷ replicate 7 0 ++
    word32 1 ++ word32 84 ++ word32 0x10000 ++ word32 0x10000 ++ size ++ size ++ word32 7 ++ word32 4 ++
    flat_map word32 (0x000105b7 ∷ 0x10058593 ∷ 0x00000513 ∷ 0x00400613 ∷ 0x03f00893 ∷ 0x00000073 ∷ 0x00100513 ∷
    0x04000893 ∷ 0x00000073 ∷ 0x00000513 ∷ 0x05d00893 ∷ 0x00000073 ∷ [])

-- it is recorded over four bytes of which the second is x
abbrev setting : ℕ → Setting
setting x = record { program = copy_four; pages = 1; inputs = (0x41 ∷ x ∷ 0x43 ∷ 0x44 ∷ []) ∷ []; piece = 16; steps = 100 }

abbrev copied : ℕ → Log
copied x = record {
  pages = 1;
  inputs = 1;
  digest = sha256 copy_four;
  records = Read 5 (0 ∷ 0x10100 ∷ 4 ∷ []) (pos 4) (0x41 ∷ x ∷ 0x43 ∷ 0x44 ∷ []) ∷ Write 8 (1 ∷ 0x10100 ∷ 4 ∷ []) (pos 4) (0x41 ∷ x ∷ 0x43 ∷ 0x44 ∷ []) ∷ [];
  end = Exit 11 0;
}

digest_long : length (sha256 copy_four) ≡ 32
unfolding sha256 digest_bytes hash_after compress rounds first_words schedule
digest_long = refl

digest_is_bytes : IsBytes (sha256 copy_four)
unfolding sha256 digest_bytes hash_after compress rounds first_words schedule
digest_is_bytes = all-below 256 (sha256 copy_four) refl

four_bytes : (x : ℕ) → x < 256 → IsBytes (0x41 ∷ x ∷ 0x43 ∷ 0x44 ∷ [])
four_bytes x h = (omega arith, (h, (omega arith, (omega arith, tt))))

copied_log : (x : ℕ) → x < 256 → IsLog (copied x)
copied_log x h = record {
  pages = (omega arith, omega arith);
  inputs = omega arith;
  digest = digest_long;
  digest_bytes = digest_is_bytes;
  records = ((omega arith, a_transfer 0 0x10100 (0x41 ∷ x ∷ 0x43 ∷ 0x44 ∷ []) (omega arith) (omega arith) (omega arith) (four_bytes x h), inr (omega (arith, ints), omega (arith, ints))), ((omega arith, a_transfer 1 0x10100 (0x41 ∷ x ∷ 0x43 ∷ 0x44 ∷ []) (omega arith) (omega arith) (omega arith) (four_bytes x h), inr refl), tt));
  end = (omega arith, omega arith);
  rise = (omega arith, (omega arith, tt));
  ends_after = omega arith;
}

abbrev state_of : Option State → State
state_of (Some s) = s
state_of None = record { pc = 0; registers = []; base = 0; memory = [] }

abbrev recorded : (x : ℕ) → x < 256 → Fits copy_four (copied x) → IsRecorded (setting x) [] (copied x)
recorded x h fits = record { is_log = copied_log x h; has_pages = refl; has_channels = refl; fits = fits; reads_inputs = (refl, (tt, tt)); has_answers = refl; ends_within = omega arith }

abbrev first_fits : Fits copy_four (copied 0x42)
first_fits = record { start = state_of (beginning copy_four (copied 0x42)); digest = refl; begins = refl; agrees = refl }

second_fits : Fits copy_four (copied 0x58)
second_fits = record { start = state_of (beginning copy_four (copied 0x58)); digest = refl; begins = refl; agrees = refl }

-- the second byte differs
abbrev second_byte : SourceByte → Bool
second_byte b = b.offset == 1

settings_alike : AreSettingsAlike second_byte (setting 0x42) (setting 0x58)
settings_alike = record { program = refl; pages = refl; channels = refl; lengths = lengths; bytes = bytes; piece = refl; steps = refl }
  where
    lengths : (c : ℕ) → length (input_of (setting 0x42).inputs c) ≡ length (input_of (setting 0x58).inputs c)
    lengths zero = refl
    lengths (suc c) = refl

    bytes : (c o : ℕ) → second_byte (record { channel = c; offset = o }) ≡ false → get_or (input_of (setting 0x42).inputs c) o 0 ≡ get_or (input_of (setting 0x58).inputs c) o 0
    bytes zero zero e = refl
    bytes zero (suc zero) e = true-false e
    bytes zero (suc (suc o)) e = refl
    bytes (suc c) o e = refl

abbrev everything : Choice
everything = record { channel = None; offsets = None }

abbrev compute_query : Query
compute_query = record { rule = Compute; sources = everything ∷ []; sinks = everything ∷ []; points = [] }

copies_decide_nothing : decided_by compute_query first_fits.start (copied 0x42) ≡ []
copies_decide_nothing = refl

alike : AreAlikeBut compute_query second_byte first_fits.start (copied 0x42) (copied 0x58)
alike = recordings_are_alike (setting 0x42) (setting 0x58) [] [] (copied 0x42) (copied 0x58) second_byte settings_alike (all-below 256 copy_four refl) tt (recorded 0x42 (omega arith) first_fits) (recorded 0x58 (omega arith) second_fits) compute_query refl
    (λ z e. true-false e) (subst (λ (ds : List Decision). All (λ d. NoneDiffers second_byte d.sources) ds) (sym copies_decide_nothing) (All-from_recursion (λ (d : Decision). NoneDiffers second_byte d.sources) [] tt))

-- ---- the clock

-- a recording may ask it more often than the other
asked_once_more : AreAnswersAlike (5 ∷ []) (5 ∷ 7 ∷ [])
asked_once_more = (refl, tt)

answered_otherwise : AreAnswersAlike (5 ∷ 7 ∷ []) (5 ∷ 8 ∷ []) → ⊥
answered_otherwise h = omega (arith, h.1.0)
