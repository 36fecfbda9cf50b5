-- Which instructions call and return: the return-address prediction hints of "Unconditional Jumps" (RISC-V Unprivileged
-- ISA manual, section 2.5). x1 and x5 are the link registers.
use Rattle.std.specs.Prelude.{ℕ, ◌==◌, Bool, true, false, ◌||◌, if◌then◌else◌}
use Rattle.isa.specs.declared.Instr.{Instr}
use Rattle.isa.specs.declared.Instr.TheVariants.{Jal, Jalr}
use Rattle.run_output.specs.declared.hints.Hint.{Hint}
use Rattle.run_output.specs.declared.hints.Hint.TheVariants.{Calls, Returns, ReturnsAndCalls, Neither}

abbrev pub is_link : ℕ → Bool
is_link r = (r == 1) || (r == 5)

-- a JALR, by whether rd is a link register, whether rs1 is one, and whether the two are the same
abbrev pub jalr_hint : Bool → Bool → Bool → Hint
jalr_hint false false same = Neither
jalr_hint false true same = Returns
jalr_hint true false same = Calls
jalr_hint true true false = ReturnsAndCalls
jalr_hint true true true = Calls

-- no other instruction than JAL and JALR calls or returns
abbrev pub hint_of : Instr → Hint
hint_of (Jal d imm) = if is_link d then Calls else Neither
hint_of (Jalr d a imm) = jalr_hint (is_link d) (is_link a) (d == a)
hint_of _ = Neither
