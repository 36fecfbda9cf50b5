-- Worked examples of paths and of their texts, computed by the checker.
use Rattle.std.proofs.Common.{◌≡◌, ℕ, List, [], ◌∷◌, refl, pos, ◌++◌}
use Rattle.std.specs.Prelude.{Some, None, codes}
use Rattle.isa.specs.declared.Instr.{Instr}
use Rattle.isa.specs.declared.Instr.TheVariants.{Lbu, Lw, Sw, Sb, Addi, Add, Andi, Ecall}
use Rattle.isa.specs.declared.CallKind.TheVariants as kind
use Rattle.flow_model.specs.declared.Loc.{Loc}
use Rattle.flow_model.specs.declared.Loc.TheVariants.{Reg, Mem}
use Rattle.flow_model.specs.declared.Rule.TheVariants.{Copy, Compute, Index}
use Rattle.flow_model.specs.declared.SourceByte.{SourceByte}
use Rattle.flow_model.specs.declared.StepSeen.{StepSeen}
use Rattle.path_find.specs.declared.Arrival.{Arrival}
use Rattle.path_find.specs.Paths.{path}
use Prim.Native.String.{String}
use Rattle.std.specs.List.{flat_map}
use Rattle.std.specs.Fmt.{digits}
use Rattle.hex.specs.Hex.{encode_with}
use Rattle.flow_model.specs.declared.SinkPoint.TheVariants.{Out, At}
use Rattle.path_find.specs.declared.writing.Stop.{Stop}
use Rattle.path_find.specs.declared.writing.End.{End}
use Rattle.path_find.specs.Text.{no_path_text, path_text}

abbrev source : ℕ → SourceByte
source o = record { channel = 0; offset = o }

abbrev plain : ℕ → Instr → ℕ → StepSeen
plain t i p = record { number = t; instr = i; place = p; call = None }

-- a read of n bytes from offset 0 on, to an address, and a write of n bytes from there
abbrev reads : ℕ → ℕ → ℕ → StepSeen
reads t p n = record { number = t; instr = Ecall; place = 0; call = Some (record { kind = kind.Read; channel = 0; place = p; offset = 0; length = n }) }

abbrev writes : ℕ → ℕ → ℕ → StepSeen
writes t p n = record { number = t; instr = Ecall; place = 0; call = Some (record { kind = kind.Write; channel = 1; place = p; offset = 0; length = n }) }

abbrev to : ℕ → Loc → Arrival
to n l = record { number = n; loc = l }

-- ---- four bytes are read to 100, moved as a word by way of x5 to 200, and written from there

abbrev copying : List StepSeen
copying = reads 0 100 4 ∷ plain 1 (Lw 5 10 (pos 0)) 100 ∷ plain 2 (Sw 11 5 (pos 0)) 200 ∷ writes 3 200 4 ∷ []

-- byte 2 of the output came from byte 2 of the input: the write is step 3, and so the time is 3
copied : path Copy (source 2) copying 3 (Mem 202) ≡ Some (to 2 (Mem 202) ∷ to 1 (Reg 5 2) ∷ to 0 (Mem 102) ∷ [])
copied = refl

-- its beginnings are the paths of earlier times
in_register : path Copy (source 2) copying 2 (Reg 5 2) ≡ Some (to 1 (Reg 5 2) ∷ to 0 (Mem 102) ∷ [])
in_register = refl

where_it_was_read : path Copy (source 2) copying 3 (Mem 102) ≡ Some (to 0 (Mem 102) ∷ [])
where_it_was_read = refl

-- at time 2 it isn't at 202 yet; and it never comes to 201
not_yet : path Copy (source 2) copying 2 (Mem 202) ≡ None
not_yet = refl

not_there : path Copy (source 2) copying 3 (Mem 201) ≡ None
not_there = refl

-- ---- eight bytes are read to 100, two words of them are added, x7 is masked in place, and stored to 200

abbrev adding : List StepSeen
adding =
    reads 0 100 8 ∷ plain 1 (Lw 5 10 (pos 0)) 100 ∷ plain 2 (Lw 6 10 (pos 4)) 104 ∷ plain 3 (Add 7 5 6) 0 ∷ plain 4 (Addi 7 7 (pos 1)) 0
    ∷ plain 5 (Andi 7 7 (pos 255)) 0 ∷ plain 6 (Sw 11 7 (pos 0)) 200 ∷ writes 7 200 4 ∷ []

-- both summands come to each byte of the sum. Where x7 is added to in place, each of its lanes has the byte: the first is
-- taken. What ANDI computes in place is a hop too
first_summand : path Compute (source 1) adding 7 (Mem 203)
    ≡ Some (to 6 (Mem 203) ∷ to 5 (Reg 7 3) ∷ to 4 (Reg 7 3) ∷ to 3 (Reg 7 0) ∷ to 1 (Reg 5 1) ∷ to 0 (Mem 101) ∷ [])
first_summand = refl

second_summand : path Compute (source 6) adding 7 (Mem 203)
    ≡ Some (to 6 (Mem 203) ∷ to 5 (Reg 7 3) ∷ to 4 (Reg 7 3) ∷ to 3 (Reg 7 0) ∷ to 2 (Reg 6 2) ∷ to 0 (Mem 106) ∷ [])
second_summand = refl

-- under copy a sum comes from nowhere
no_copy : path Copy (source 1) adding 7 (Mem 203) ≡ None
no_copy = refl

-- ---- a byte is read, overwritten by a second read, and read once more

abbrev overwriting : List StepSeen
overwriting =
    reads 0 100 1 ∷ plain 1 (Lbu 5 10 (pos 0)) 100
    ∷ record { number = 2; instr = Ecall; place = 0; call = Some (record { kind = kind.Read; channel = 0; place = 100; offset = 1; length = 1 }) } ∷ plain 3 (Lbu 6 10 (pos 0)) 100 ∷ []

old_byte : path Copy (source 0) overwriting 4 (Reg 6 0) ≡ None
old_byte = refl

new_byte : path Copy (source 1) overwriting 4 (Reg 6 0) ≡ Some (to 3 (Reg 6 0) ∷ to 2 (Mem 100) ∷ [])
new_byte = refl

kept_byte : path Copy (source 0) overwriting 4 (Reg 5 0) ≡ Some (to 1 (Reg 5 0) ∷ to 0 (Mem 100) ∷ [])
kept_byte = refl

-- ---- under index a load comes from its base register first

abbrev looking_up : List StepSeen
looking_up = reads 0 100 1 ∷ plain 1 (Lbu 5 10 (pos 0)) 100 ∷ plain 2 (Lbu 6 5 (pos 0)) 300 ∷ plain 3 (Sb 11 6 (pos 0)) 200 ∷ []

by_address : path Index (source 0) looking_up 4 (Mem 200) ≡ Some (to 3 (Mem 200) ∷ to 2 (Reg 6 0) ∷ to 1 (Reg 5 0) ∷ to 0 (Mem 100) ∷ [])
by_address = refl

not_by_compute : path Compute (source 0) looking_up 4 (Mem 200) ≡ None
not_by_compute = refl

abbrev of_lines : List String → List ℕ
of_lines ls = flat_map (λ l. codes l ++ 0x0a ∷ []) ls

-- ---- byte 2 of four bytes that are read to 100, moved as a word by way of x5 to 200, and written from there

abbrev stops : List Stop
stops =
    record { number = 0; pc = 0x10074; instr = Ecall; loc = Mem 102 } ∷ record { number = 1; pc = 0x10078; instr = Lw 5 10 (pos 0); loc = Reg 5 2 }
    ∷ record { number = 2; pc = 0x1007c; instr = Sw 11 5 (pos 0); loc = Mem 202 } ∷ []

abbrev end : End
end = record { name = Out (record { channel = 1; offset = 2 }); number = 3; pc = 0x10080; loc = Mem 202 }

copied_text : path_text (record { channel = 0; offset = 2 }) end stops
    ≡ of_lines (
    "read 0 0x00010074 0:2 m:102"
    ∷ "hop 1 0x00010078 m:102 r:5.2 lw x5, 0(x10)"
    ∷ "hop 2 0x0001007c r:5.2 m:202 sw x5, 0(x11)"
    ∷ "write 3 0x00010080 m:202 1:2"
    ∷ "end 4"
    ∷ []
    )
unfolding digits encode_with
copied_text = refl

-- the same byte, where it stands in x5 after two steps
abbrev point : End
point = record { name = At (record { time = 2; loc = Reg 5 2 }); number = 2; pc = 0x1007c; loc = Reg 5 2 }

to_a_point : path_text (record { channel = 0; offset = 2 }) point (record { number = 0; pc = 0x10074; instr = Ecall; loc = Mem 102 } ∷ record { number = 1; pc = 0x10078; instr = Lw 5 10 (pos 0); loc = Reg 5 2 } ∷ [])
    ≡ of_lines (
    "read 0 0x00010074 0:2 m:102"
    ∷ "hop 1 0x00010078 m:102 r:5.2 lw x5, 0(x10)"
    ∷ "point 2 0x0001007c r:5.2 r:5.2@2"
    ∷ "end 3"
    ∷ []
    )
unfolding digits encode_with
to_a_point = refl

none : no_path_text ≡ of_lines ("end 0" ∷ [])
unfolding digits
none = refl
