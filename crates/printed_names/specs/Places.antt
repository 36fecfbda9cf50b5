-- The names of places in the code.
use Rattle.std.specs.Prelude.{ℕ, List, ◌++◌, codes}
use Rattle.std.specs.Int.{w32, to_be_bytes}
use Rattle.hex.specs.Hex.{encode_lower}

-- a pc: `0x` and eight hexadecimal digits in lower case
abbrev pub pc_text : ℕ → List ℕ
pc_text pc = codes "0x" ++ encode_lower (to_be_bytes w32 pc)
