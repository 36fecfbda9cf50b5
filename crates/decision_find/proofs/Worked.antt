-- An example: three decisions at two places, and their text.
use Rattle.std.proofs.Common.{◌≡◌, ℕ, List, [], ◌∷◌, Option, Some, None, pos, refl}
use Rattle.std.specs.Prelude.{codes}
use Rattle.std.specs.Fmt.{digits}
use Rattle.hex.specs.Hex.{encode_with}
use Rattle.isa.specs.declared.Instr.{Instr}
use Rattle.isa.specs.declared.Instr.TheVariants.{Beq}
use Rattle.flow_model.specs.declared.Loc.{Loc}
use Rattle.flow_model.specs.declared.Loc.TheVariants.{Reg, Mem}
use Rattle.decision_find.specs.Decisions.{Decision}
use Rattle.decision_find.specs.Places.{decided_there}
use Rattle.decision_find.specs.Text.{decisions_text}

abbrev decided_on : ℕ → ℕ → Option Instr → Loc → ℕ → Decision
decided_on time pc instr loc offset = record {
  time = time;
  pc = pc;
  instr = instr;
  loc = loc;
  sources = record { channel = 0; offset = offset } ∷ [];
}

-- a branch on x5 looks at it twice, and then bytes that were read are fetched, which are no instruction
abbrev three : List Decision
three =
    decided_on 2 0x10008 (Some (Beq 5 0 (pos 8))) (Reg 5 0) 0 ∷
    decided_on 7 0x10008 (Some (Beq 5 0 (pos 8))) (Reg 5 0) 1 ∷
    decided_on 9 0x10000 None (Mem 0x10001) 3 ∷ []

their_text : decisions_text three ≡ codes "0x00010000 .word m:65537 1 9 0:3-4\n0x00010008 beq r:5.0 2 2 0:0-2\nend 2\n"
unfolding digits encode_with
their_text = refl

-- the decisions of the branch
of_branch : decided_there (record { pc = 0x10008; loc = Reg 5 0 }) three
    ≡ decided_on 2 0x10008 (Some (Beq 5 0 (pos 8))) (Reg 5 0) 0 ∷ decided_on 7 0x10008 (Some (Beq 5 0 (pos 8))) (Reg 5 0) 1 ∷ []
of_branch = refl
