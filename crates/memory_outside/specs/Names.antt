-- Names kept one after another in a buffer, with their lengths.
use Rattle.std.specs.Prelude.{ℕ, ◌-◌, ◌&&◌, nat_le, nat_lt, Bool, List, [], ◌∷◌, ◌++◌, length, take, drop, Option, Some, None, if◌then◌else◌}
use Rattle.outer_io.specs.Files.{Text}

-- the names of these lengths, one after another
abbrev pub names_in : List ℕ → List ℕ → List Text
names_in bytes [] = []
names_in bytes (n ∷ lengths) = take n bytes ∷ names_in (drop n bytes) lengths

-- the names handed to a store, where they are told, and the room for more: bytes in all, and how many
pub record Opened : Type 0 where
  pub names : Option (List Text)
  pub bytes_left : ℕ
  pub names_left : ℕ

-- the names of these lengths, as long as none was lost
abbrev pub opened_of : List ℕ → List ℕ → Bool → Opened
opened_of bytes lengths is_lost = record {
  names = if is_lost then None else Some (names_in bytes lengths);
  bytes_left = 16384 - length bytes;
  names_left = 256 - length lengths;
}

-- no names yet, and the room for 256 of 16,384 bytes in all
abbrev pub no_names : Opened
no_names = record { names = Some []; bytes_left = 16384; names_left = 256 }

abbrev pub has_room_for : Text → Opened → Bool
has_room_for name opened = nat_le (length name) opened.bytes_left && nat_lt 0 opened.names_left

abbrev pub with_name : Text → Option (List Text) → Option (List Text)
with_name name None = None
with_name name (Some names) = Some (names ++ name ∷ [])

-- after one more name, for which there is room
abbrev pub after_name : Text → Opened → Opened
after_name name opened = record { names = with_name name opened.names; bytes_left = opened.bytes_left - length name; names_left = opened.names_left - 1 }

-- after one more name: where there is no room for it, the names are told no more
abbrev pub after_note : Text → Opened → Opened
after_note name opened = if has_room_for name opened then after_name name opened else record opened { names = None }
