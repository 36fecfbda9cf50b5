-- Worked examples, computed by the checker.
use Rattle.std.proofs.Common.{◌≡◌, List, ℕ, [], ◌∷◌, ◌++◌, pos, negsuc, replicate, refl}
use Rattle.std.specs.Prelude.{codes}
use Rattle.std.specs.Fmt.{digits}
use Rattle.hex.specs.Hex.{encode_with}
use Rattle.isa.specs.Machine.{State}
use Rattle.isa.specs.declared.Instr.TheVariants.{Jal, Jalr, Lw}
use Rattle.log_model.specs.declared.RunEnd.TheVariants.{Limit}
use Rattle.log_model.specs.Logs.{Log}
use Rattle.run_output.specs.declared.hints.Hint.TheVariants.{Calls, Returns, ReturnsAndCalls, Neither}
use Rattle.run_output.specs.Hints.{hint_of}
use Rattle.run_output.specs.Stack.{after_return, after_hint}
use Rattle.run_output.specs.Stacks.{stacks_text}

-- ---- hints

-- a call, by x1 and by x5; a jump; a return, by x1 and by x5
direct : (hint_of (Jal 1 (pos 8)) ≡ Calls) × (hint_of (Jal 5 (pos 8)) ≡ Calls) × (hint_of (Jal 0 (negsuc 7)) ≡ Neither)
    × (hint_of (Jalr 0 1 (pos 0)) ≡ Returns) × (hint_of (Jalr 6 5 (pos 0)) ≡ Returns)
direct = (refl, refl, refl, refl, refl)

-- a call and a jump by a register, a change over, a call far away, and a load of a link
by_register : (hint_of (Jalr 1 6 (pos 0)) ≡ Calls) × (hint_of (Jalr 0 6 (pos 0)) ≡ Neither) × (hint_of (Jalr 1 5 (pos 0)) ≡ ReturnsAndCalls)
    × (hint_of (Jalr 5 5 (pos 12)) ≡ Calls) × (hint_of (Lw 1 2 (pos 0)) ≡ Neither)
by_register = (refl, refl, refl, refl, refl)

-- ---- returns, from calls at 0x200 in 0x100 in 0x40

abbrev three : List ℕ
three = 0x200 ∷ 0x100 ∷ 0x40 ∷ []

-- the innermost returns, or the outermost; where none is in progress; and to an address that is nobody's return address
returns : (after_return 0x204 three ≡ 0x100 ∷ 0x40 ∷ []) × (after_return 0x44 three ≡ []) × (after_return 0x44 [] ≡ [])
    × (after_return 0x208 three ≡ 0x100 ∷ 0x40 ∷ [])
returns = (refl, refl, refl, refl)

-- of two calls from one place the innermost ends; a change over; and a call from the last address
others : (after_return 0x104 (0x200 ∷ 0x100 ∷ 0x100 ∷ []) ≡ 0x100 ∷ []) × (after_hint ReturnsAndCalls 0x300 0x204 three ≡ 0x300 ∷ 0x100 ∷ 0x40 ∷ [])
    × (after_return 0 (0xfffffffc ∷ 0x40 ∷ []) ≡ 0x40 ∷ [])
others = (refl, refl, refl)

-- ---- the text of several times

-- JAL x1, 8; EBREAK; JALR x0, 0(x1)
abbrev begun : State
begun = record {
  pc = 0x10000;
  registers = replicate 32 0;
  base = 0x10000;
  memory = 0xef ∷ 0x00 ∷ 0x80 ∷ 0x00 ∷ 0x73 ∷ 0x00 ∷ 0x10 ∷ 0x00 ∷ 0x67 ∷ 0x80 ∷ 0x00 ∷ 0x00 ∷ [];
}

-- the call and its return
abbrev two_steps : Log
two_steps = record { pages = 1; inputs = 0; digest = []; records = []; end = Limit 2 }

-- a time past the run's steps, and one that stands twice
parts : stacks_text begun two_steps (1 ∷ 9 ∷ 0 ∷ 1 ∷ []) ≡
    codes "stack 1\n0x00010008\n0x00010000\nend 2\n" ++
    codes "stack 9\nend 0\n" ++
    codes "stack 0\n0x00010000\nend 1\n" ++
    codes "stack 1\n0x00010008\n0x00010000\nend 2\n" ++
    codes "end 13\n"
unfolding digits encode_with
parts = refl

-- one time has no line of its own
one_time : stacks_text begun two_steps (2 ∷ []) ≡ codes "0x00010004\nend 1\n"
unfolding digits encode_with
one_time = refl

-- and none past the run's steps has any
past_the_run : stacks_text begun two_steps (3 ∷ []) ≡ codes "end 0\n"
unfolding digits
past_the_run = refl
