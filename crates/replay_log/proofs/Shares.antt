-- What calls add to a text of version 2.
use Rattle.std.proofs.Common.{◌≡◌, ℕ, ◌+◌, ◌<◌, ◌≤◌, List, length, ℤ, arith}
use Rattle.std.specs.Prelude.{slice_index}
use Rattle.std.proofs.lemmas.Bool.{lt-ltb, le-ltb}
use Rattle.log_model.specs.declared.CallRecord.TheVariants.{Read, Write}
use Rattle.log_model.specs.Logs.{IsRecord, share}
use Rattle.log_model.proofs.Texts.{read_length, write_length}

pub share_inside : (inputs at : ℕ) (args : List ℕ) (result : ℤ) (bytes : List ℕ) → IsRecord (Read at args result bytes) → slice_index args 0 < inputs → share inputs (Read at args result bytes) ≡ 25 + length bytes
share_inside inputs at args result bytes is below = rw (read_length at args result bytes is.1, lt-ltb (slice_index args 0) inputs below) (omega arith)

pub share_outside : (inputs at : ℕ) (args : List ℕ) (result : ℤ) (bytes : List ℕ) → IsRecord (Read at args result bytes) → inputs ≤ slice_index args 0 → share inputs (Read at args result bytes) ≡ 25
share_outside inputs at args result bytes is past = rw (read_length at args result bytes is.1, le-ltb (slice_index args 0) inputs past) (omega arith)

pub share_written : (inputs at : ℕ) (args : List ℕ) (result : ℤ) (bytes : List ℕ) → IsRecord (Write at args result bytes) → share inputs (Write at args result bytes) ≡ 25 + length bytes
share_written inputs at args result bytes is = omega (arith, write_length at args result bytes is.1)
