-- How many bytes a call adds to a log's text.
use Rattle.std.proofs.Common.{◌≡◌, ℕ, ◌+◌, ◌<◌, ◌≤◌, List, length, get_or, ℤ, refl, arith}
use Rattle.std.proofs.lemmas.Bool.{lt-ltb, le-ltb}
use Rattle.log_model.specs.declared.CallRecord.TheVariants.{Read, Write}
use Rattle.log_model.specs.Logs.{IsTransfer, share}
use Rattle.log_model.proofs.Texts.{read_length, write_length}

-- a read on one of so many channels
pub kept_share : (inputs at : ℕ) (args : List ℕ) (result : ℤ) (bytes : List ℕ) → IsTransfer args result bytes
    → get_or args 0 0 < inputs → share inputs (Read at args result bytes) ≡ 25 + length bytes
kept_share inputs at args result bytes is below = rw
    (read_length at args result bytes is, lt-ltb (get_or args 0 0) inputs below) refl

-- and one on none of them
pub other_share : (inputs at : ℕ) (args : List ℕ) (result : ℤ) (bytes : List ℕ) → IsTransfer args result bytes
    → inputs ≤ get_or args 0 0 → share inputs (Read at args result bytes) ≡ 25
other_share inputs at args result bytes is above = rw
    (read_length at args result bytes is, le-ltb (get_or args 0 0) inputs above) refl

pub written_share : (inputs at : ℕ) (args : List ℕ) (result : ℤ) (bytes : List ℕ) → IsTransfer args result bytes
    → share inputs (Write at args result bytes) ≡ 25 + length bytes
written_share inputs at args result bytes is = omega (arith, write_length at args result bytes is)
