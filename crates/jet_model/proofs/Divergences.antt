-- Worked examples of divergences: one field of a fitting log is changed each time.
use Rattle.std.proofs.Common.{◌≡◌, ℕ, List, [], ◌∷◌, refl}
use Rattle.std.specs.Prelude.{ℤ, Some, pos, negsuc}
use Rattle.log_model.specs.declared.CallRecord.TheVariants.{Read, Write}
use Rattle.log_model.specs.declared.RunEnd.TheVariants.{Exit, Trap}
use Rattle.log_model.specs.Logs.{Log}
use Rattle.replay_model.specs.declared.Field.{Field}
use Rattle.replay_model.specs.declared.Field.TheVariants.{Event, A0, Result, Byte, Code, Kind, Pc}
use Rattle.jet_model.proofs.Guests.{copy_four, illegal, log_of, a_read, a_write}
use Rattle.jet_model.proofs.Reports.{divergence_of}

abbrev pub abcd : List ℕ
abcd = 0x41 ∷ 0x42 ∷ 0x43 ∷ 0x44 ∷ []

abbrev Differs : List ℕ → Log → (step : ℕ) → Field → (kept seen : ℤ) → Type 0
Differs program log step field kept seen = divergence_of program log ≡ Some (Some (record { step = step; field = field; kept = kept; seen = seen }))

differ :
    -- another byte was written
    Differs copy_four (log_of copy_four 1 1 (a_read 5 4 abcd ∷ a_write 8 (0x41 ∷ 0x42 ∷ 0x58 ∷ 0x44 ∷ []) ∷ []) (Exit 11 0)) 8 (Byte 2) (pos 88) (pos 67)
    -- the read was on another channel
    × Differs copy_four (log_of copy_four 1 1 (Read 5 (1 ∷ 0x10100 ∷ 4 ∷ []) (pos 4) abcd ∷ a_write 8 abcd ∷ []) (Exit 11 0)) 5 A0 (pos 1) (pos 0)
    -- the read came a step earlier
    × Differs copy_four (log_of copy_four 1 1 (a_read 4 4 abcd ∷ a_write 8 abcd ∷ []) (Exit 11 0)) 4 Event (pos 1) (pos 0)
    -- the write was refused
    × Differs copy_four (log_of copy_four 1 1 (a_read 5 4 abcd ∷ Write 8 (1 ∷ 0x10100 ∷ 4 ∷ []) (negsuc 8) [] ∷ []) (Exit 11 0)) 8 Result (negsuc 8) (pos 4)
    -- the exit had another code
    × Differs copy_four (log_of copy_four 1 1 (a_read 5 4 abcd ∷ a_write 8 abcd ∷ []) (Exit 11 7)) 11 Code (pos 7) (pos 0)
    -- the exit came a step later
    × Differs copy_four (log_of copy_four 1 1 (a_read 5 4 abcd ∷ a_write 8 abcd ∷ []) (Exit 12 0)) 11 Event (pos 0) (pos 5)
    -- the trap was of another kind
    × Differs illegal (log_of illegal 1 0 ([]) (Trap 0 3 0x10000)) 0 Kind (pos 3) (pos 2)
    -- the trap was at another pc
    × Differs illegal (log_of illegal 1 0 ([]) (Trap 0 2 0)) 0 Pc (pos 0) (pos 65536)
differ = (refl, refl, refl, refl, refl, refl, refl, refl)
