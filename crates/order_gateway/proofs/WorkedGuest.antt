-- The guest's words and its file, and the first bytes of an input.
use Rattle.std.proofs.Common.{◌≡◌, ◌+◌, ◌*◌, [], ◌∷◌, length, map, refl}
use Rattle.isa.specs.Encodings.{encoding}
use Rattle.order_gateway.specs.Guest.{guest, guest_file}
use Rattle.order_gateway.specs.Input.{next_state, input}

guest_words : map encoding guest ≡
    0x00011437 ∷ 0x000124b7 ∷ 0x00013937 ∷ 0x00000513 ∷ 0x00040593 ∷ 0x00800613 ∷ 0x03f00893 ∷ 0x00000073 ∷
    0x00800293 ∷ 0x04551c63 ∷ 0x00044303 ∷ 0x00144383 ∷ 0x00245e03 ∷ 0x00442e83 ∷ 0x00239f13 ∷ 0x012f0f33 ∷
    0x000f2f83 ∷ 0x00137313 ∷ 0x00030463 ∷ 0x41c00e33 ∷ 0x01cf8fb3 ∷ 0x01ff2023 ∷ 0x00748023 ∷ 0x01f4a0a3 ∷
    0x01d4a2a3 ∷ 0x00100513 ∷ 0x00048593 ∷ 0x00900613 ∷ 0x04000893 ∷ 0x00000073 ∷ 0xf95ff06f ∷ 0x00000513 ∷
    0x05d00893 ∷ 0x00000073 ∷ []
guest_words = refl

-- an ELF header, a program header and 34 words
file_length : length guest_file ≡ 52 + 32 + 4 * 34
unfolding guest_file
file_length = refl

first_state : next_state 1 ≡ 0x6c576fac43fd007c
first_state = refl

-- two messages for 30 steps
first_bytes : input 1 30 ≡ 0x6c ∷ 0x82 ∷ 0xa5 ∷ 0x62 ∷ 0xcb ∷ 0x80 ∷ 0x8d ∷ 0x10 ∷ 0xd6 ∷ 0x32 ∷ 0xbe ∷ 0x89 ∷ 0xc8 ∷ 0x51 ∷ 0x3e ∷ 0xbf ∷ []
first_bytes = refl
