-- Bytes as a quoted text, of at most 24 of them.
use Rattle.std.specs.Prelude.{ℕ, ◌==◌, nat_le, nat_lt, Bool, not, ◌&&◌, if◌then◌else◌, List, [], ◌∷◌, ◌++◌, length, take, codes}
use Rattle.std.specs.List.{flat_map}
use Rattle.hex.specs.Hex.{encode_lower}

-- 0x20 to 0x7e, and neither a quotation mark nor a backslash
abbrev pub is_plain : ℕ → Bool
is_plain byte = nat_le 0x20 byte && nat_le byte 0x7e && not (byte == 0x22) && not (byte == 0x5c)

-- such a byte as itself, every other as `\x` and two hexadecimal digits in lower case
abbrev pub quoted_byte : ℕ → List ℕ
quoted_byte byte = if is_plain byte then byte ∷ [] else codes "\\x" ++ encode_lower (byte ∷ [])

-- two dots where there are more bytes than 24
abbrev pub left_out : List ℕ → List ℕ
left_out bytes = if nat_lt 24 (length bytes) then codes ".." else []

-- the first 24 bytes between quotation marks, and the dots
abbrev pub quoted_text : List ℕ → List ℕ
quoted_text bytes = codes "\"" ++ flat_map quoted_byte (take 24 bytes) ++ codes "\"" ++ left_out bytes
