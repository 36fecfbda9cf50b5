-- The guest: an order gateway. It reads messages of 8 bytes on channel 0 (side, account, a quantity of two bytes and a
-- price of four), keeps a position for each account, and writes 9 bytes on channel 1 for each message (account, position
-- and price).
use Rattle.std.specs.Prelude.{ℕ, List, [], ◌∷◌, ◌++◌, pos}
use Rattle.isa.specs.declared.Instr.{Instr}
use Rattle.isa.specs.declared.Instr.TheVariants.{Lui, Jal, Beq, Bne, Lw, Lbu, Lhu, Sb, Sw, Addi, Andi, Slli, Add, Sub, Ecall}
use Rattle.isa.specs.Calls.{minus}
use Rattle.elf_model.specs.Image.{Image}
use Rattle.guest_assembler.specs.ProgramFile.{program_file, bytes_of}

-- in x8 where messages are read to, in x9 where orders are written from, in x18 the position of account 0
abbrev pub set_up : List Instr
set_up = Lui 8 (pos 0x11000) ∷ Lui 9 (pos 0x12000) ∷ Lui 18 (pos 0x13000) ∷ []

-- reads a message: read(0, x8, 8). Where fewer bytes came it goes to the exit
abbrev pub read_message : List Instr
read_message =
    Addi 10 0 (pos 0) ∷ Addi 11 8 (pos 0) ∷ Addi 12 0 (pos 8) ∷ Addi 17 0 (pos 63) ∷ Ecall ∷
    Addi 5 0 (pos 8) ∷ Bne 10 5 (pos 88) ∷ []

-- the side to x6, the account to x7, the quantity to x28, the price to x29
abbrev pub take_apart : List Instr
take_apart = Lbu 6 8 (pos 0) ∷ Lbu 7 8 (pos 1) ∷ Lhu 28 8 (pos 2) ∷ Lw 29 8 (pos 4) ∷ []

-- the account's position to x31, and its address to x30
abbrev pub look_up : List Instr
look_up = Slli 30 7 2 ∷ Add 30 30 18 ∷ Lw 31 30 (pos 0) ∷ []

-- where the side's lowest bit is 1, a sale, the quantity is negated: one step more than for a purchase
abbrev pub sign_quantity : List Instr
sign_quantity = Andi 6 6 (pos 1) ∷ Beq 6 0 (pos 8) ∷ Sub 28 0 28 ∷ []

-- the position with the quantity added
abbrev pub move_position : List Instr
move_position = Add 31 31 28 ∷ Sw 30 31 (pos 0) ∷ []

-- the order: account, position and price
abbrev pub put_together : List Instr
put_together = Sb 9 7 (pos 0) ∷ Sw 9 31 (pos 1) ∷ Sw 9 29 (pos 5) ∷ []

-- writes the order, write(1, x9, 9), and goes back to the next message
abbrev pub write_order : List Instr
write_order =
    Addi 10 0 (pos 1) ∷ Addi 11 9 (pos 0) ∷ Addi 12 0 (pos 9) ∷ Addi 17 0 (pos 64) ∷ Ecall ∷ Jal 0 (minus 108) ∷ []

-- exit(0)
abbrev pub leave : List Instr
leave = Addi 10 0 (pos 0) ∷ Addi 17 0 (pos 93) ∷ Ecall ∷ []

-- a message takes 27 steps, or 28 where it is a sale, after 3 at the start
abbrev pub guest : List Instr
guest =
    set_up ++ read_message ++ take_apart ++ look_up ++ sign_quantity ++ move_position ++ put_together ++ write_order ++ leave

-- the program file that has these instructions
unfoldable pub guest_file : List ℕ
guest_file = program_file guest

-- its image: one segment, of the instructions' words
unfoldable pub guest_image : Image
guest_image = record {
  base = 0x10000;
  entry = 0x10000;
  segments = record { place = 0x10000; bytes = bytes_of guest; size = 136 } ∷ [];
}
