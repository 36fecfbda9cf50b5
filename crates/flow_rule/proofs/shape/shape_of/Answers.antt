-- Each arm's shape is the row of its instructions, by what the parts ensure.
use Rattle.std.proofs.Common.{arith, rules, ap, ◌∙◌, inl, inr, [], ◌∷◌, ◌<◌}
use Rattle.flow_model.specs.Flow as model
use Rattle.isa.specs.declared.Instr.TheVariants.{Sub, Mul, Mulh, Mulhsu, Mulhu, Div, Divu, Rem, Remu, Or, Xor, Srli, Srai, Sll, Srl, Sra, Slt, Sltu}
use Rattle.flow_rule.specs.declared.shape.Mixing.TheVariants.{EachLane, AllLanes, ShiftedLanes, FirstLane}
use Rattle.flow_rule.specs.Shapes.{moved_shape_or}
use Rattle.flow_rule.proofs.Shapes.{IsShapeOf, known, known_among, mixed_row, moved_mixed_row, first_alone_row, bitwise_row, load_row, signed_row, store_row, shifted_row}
use Rattle.flow_rule.proofs.shape.shape_of.Goals as goal

pub returns-in-Lw : goal.returns-in-Lw
returns-in-Lw c =
    let row = known c.args.rule c.args.place c.load.ensures c.in-Lw.is
    (load_row c.args.rule c.in-Lw.rd c.in-Lw.rs1 c.args.place 4 (omega arith, omega arith)) in
    record { targets = row.0; sizes = row.1; registers = row.2 }

pub returns-in-Lhu : goal.returns-in-Lhu
returns-in-Lhu c =
    let row = known c.args.rule c.args.place c.load-in-Lhu.ensures c.in-Lhu.is
    (load_row c.args.rule c.in-Lhu.rd c.in-Lhu.rs1 c.args.place 2 (omega arith, omega arith)) in
    record { targets = row.0; sizes = row.1; registers = row.2 }

pub returns-in-Lbu : goal.returns-in-Lbu
returns-in-Lbu c =
    let row = known c.args.rule c.args.place c.load-in-Lbu.ensures c.in-Lbu.is
    (load_row c.args.rule c.in-Lbu.rd c.in-Lbu.rs1 c.args.place 1 (omega arith, omega arith)) in
    record { targets = row.0; sizes = row.1; registers = row.2 }

pub returns-in-Lh : goal.returns-in-Lh
returns-in-Lh c =
    let row = known c.args.rule c.args.place c.signed_load.ensures c.in-Lh.is
    (signed_row c.args.rule c.in-Lh.rd c.in-Lh.rs1 c.args.place 2 (omega arith, omega arith)) in
    record { targets = row.0; sizes = row.1; registers = row.2 }

pub returns-in-Lb : goal.returns-in-Lb
returns-in-Lb c =
    let row = known c.args.rule c.args.place c.signed_load-in-Lb.ensures c.in-Lb.is
    (signed_row c.args.rule c.in-Lb.rd c.in-Lb.rs1 c.args.place 1 (omega arith, omega arith)) in
    record { targets = row.0; sizes = row.1; registers = row.2 }

pub returns-in-Sw : goal.returns-in-Sw
returns-in-Sw c =
    let row = known c.args.rule c.args.place c.store.ensures c.in-Sw.is
    (store_row c.args.rule c.in-Sw.rs1 c.in-Sw.rs2 c.args.place 4 (omega arith, omega arith)) in
    record { targets = row.0; sizes = row.1; registers = row.2 }

pub returns-in-Sh : goal.returns-in-Sh
returns-in-Sh c =
    let row = known c.args.rule c.args.place c.store-in-Sh.ensures c.in-Sh.is
    (store_row c.args.rule c.in-Sh.rs1 c.in-Sh.rs2 c.args.place 2 (omega arith, omega arith)) in
    record { targets = row.0; sizes = row.1; registers = row.2 }

pub returns-in-Sb : goal.returns-in-Sb
returns-in-Sb c =
    let row = known c.args.rule c.args.place c.store-in-Sb.ensures c.in-Sb.is
    (store_row c.args.rule c.in-Sb.rs1 c.in-Sb.rs2 c.args.place 1 (omega arith, omega arith)) in
    record { targets = row.0; sizes = row.1; registers = row.2 }

pub returns-in-Add : goal.returns-in-Add
returns-in-Add c =
    let d = c.in-Add.rd in let a = c.in-Add.rs1 in let b = c.in-Add.rs2 in
    let row = known c.args.rule c.args.place (c.moved_or.ensures ∙ ap (moved_shape_or d a b) c.mixed-sum.ensures) c.in-Add.is
    (moved_mixed_row c.args.rule AllLanes d a b) in
    record { targets = row.0; sizes = row.1; registers = row.2 }

pub returns-in-Or : goal.returns-in-Or
returns-in-Or c =
    let d = c.in-Or.rd in let a = c.in-Or.rs1 in let b = c.in-Or.rs2 in
    let made = moved_mixed_row c.args.rule EachLane d a b in
    let row = known_among c.args.rule c.args.place c.args.instr.now (Or d a b ∷ Xor d a b ∷ [])
    (c.moved_or-in-Or.ensures ∙ ap (moved_shape_or d a b) c.mixed-bits.ensures) c.in-Or.is (made, (made, tt)) in
    record { targets = row.0; sizes = row.1; registers = row.2 }

pub returns-in-And : goal.returns-in-And
returns-in-And c =
    let row = known c.args.rule c.args.place c.mixed.ensures c.in-And.is (mixed_row c.args.rule EachLane c.in-And.rd c.in-And.rs1 c.in-And.rs2) in
    record { targets = row.0; sizes = row.1; registers = row.2 }

pub returns-in-Andi : goal.returns-in-Andi
returns-in-Andi c =
    let kept = c.unchanged in
    let row = known c.args.rule c.args.place c.bitwise.ensures c.in-Andi.is
    (bitwise_row c.args.rule c.in-Andi.rd c.in-Andi.rs1 kept.result 255 c.in-Andi.imm (search rules) kept.ensures.lanes kept.ensures.chosen) in
    record { targets = row.0; sizes = row.1; registers = row.2 }

pub returns-in-Ori : goal.returns-in-Ori
returns-in-Ori c =
    let kept = c.unchanged-in-Ori in
    let row = known c.args.rule c.args.place c.bitwise-in-Ori.ensures c.in-Ori.is
    (bitwise_row c.args.rule c.in-Ori.rd c.in-Ori.rs1 kept.result 0 c.in-Ori.imm (search rules) kept.ensures.lanes kept.ensures.chosen) in
    record { targets = row.0; sizes = row.1; registers = row.2 }

pub returns-in-Xori : goal.returns-in-Xori
returns-in-Xori c =
    let kept = c.unchanged-in-Xori in
    let row = known c.args.rule c.args.place c.bitwise-in-Xori.ensures c.in-Xori.is
    (bitwise_row c.args.rule c.in-Xori.rd c.in-Xori.rs1 kept.result 0 c.in-Xori.imm (search rules) kept.ensures.lanes kept.ensures.chosen) in
    record { targets = row.0; sizes = row.1; registers = row.2 }

pub returns-in-Sub : goal.returns-in-Sub
returns-in-Sub c =
    let d = c.in-Sub.rd in let a = c.in-Sub.rs1 in let b = c.in-Sub.rs2 in
    let made = mixed_row c.args.rule AllLanes d a b in
    let kinds = Sub d a b ∷ Mul d a b ∷ Mulh d a b ∷ Mulhsu d a b ∷ Mulhu d a b ∷ Div d a b ∷ Divu d a b ∷ Rem d a b ∷ Remu d a b ∷ [] in
    let row = known_among c.args.rule c.args.place c.args.instr.now kinds c.mixed-in-Sub.ensures c.in-Sub.is
    (made, (made, (made, (made, (made, (made, (made, (made, (made, tt))))))))) in
    record { targets = row.0; sizes = row.1; registers = row.2 }

pub returns-in-Slli : goal.returns-in-Slli
returns-in-Slli c =
    let kept = c.moved_left in
    let row = known c.args.rule c.args.place c.shifted.ensures c.in-Slli.is
    (shifted_row c.args.rule c.in-Slli.rd c.in-Slli.rs1 kept.result (model.left_lanes c.in-Slli.amount) kept.ensures.lanes kept.ensures.chosen) in
    record { targets = row.0; sizes = row.1; registers = row.2 }

pub returns-in-Srli : goal.returns-in-Srli
returns-in-Srli c =
    let d = c.in-Srli.rd in let a = c.in-Srli.rs1 in let k = c.in-Srli.amount in let kept = c.moved_right in
    let made = shifted_row {X = k < 32} c.args.rule d a kept.result (model.right_lanes k) kept.ensures.lanes kept.ensures.chosen in
    let row = known_among c.args.rule c.args.place c.args.instr.now (Srli d a k ∷ Srai d a k ∷ []) c.shifted-in-Srli.ensures c.in-Srli.is (made, (made, tt)) in
    record { targets = row.0; sizes = row.1; registers = row.2 }

pub returns-in-Sll : goal.returns-in-Sll
returns-in-Sll c =
    let d = c.in-Sll.rd in let a = c.in-Sll.rs1 in let b = c.in-Sll.rs2 in
    let made = mixed_row c.args.rule ShiftedLanes d a b in
    let row = known_among c.args.rule c.args.place c.args.instr.now (Sll d a b ∷ Srl d a b ∷ Sra d a b ∷ [])
    c.mixed-in-Sll.ensures c.in-Sll.is (made, (made, (made, tt))) in
    record { targets = row.0; sizes = row.1; registers = row.2 }

pub returns-in-Slt : goal.returns-in-Slt
returns-in-Slt c =
    let d = c.in-Slt.rd in let a = c.in-Slt.rs1 in let b = c.in-Slt.rs2 in
    let made = mixed_row c.args.rule FirstLane d a b in
    let row = known_among c.args.rule c.args.place c.args.instr.now (Slt d a b ∷ Sltu d a b ∷ []) c.mixed-in-Slt.ensures c.in-Slt.is (made, (made, tt)) in
    record { targets = row.0; sizes = row.1; registers = row.2 }

pub returns-in-Slti : goal.returns-in-Slti
returns-in-Slti c =
    let d = c.in-Slti.rd in let a = c.in-Slti.rs1 in
    let row : IsShapeOf c.args.rule c.args.place c.mixed-in-Slti.result c.args.instr.now = elim c.in-Slti.is [
      | inl e ↦ known c.args.rule c.args.place c.mixed-in-Slti.ensures e.1 (first_alone_row c.args.rule d a)
      | inr e ↦ known c.args.rule c.args.place c.mixed-in-Slti.ensures e.1 (first_alone_row c.args.rule d a)
    ] in
    record { targets = row.0; sizes = row.1; registers = row.2 }
