-- Refusals by their status. Crates above cite these lemmas.
use Rattle.std.proofs.Common.{◌≡◌, ap, refl, arith, ◌≤◌, inl, inr, Result, Ok, Err}
use Rattle.std.specs.Prelude.{◌⊎◌}
use Rattle.jet_refusal.specs.declared.refusal.Refusal.{Refusal}
use Rattle.jet_refusal.specs.declared.refusal.Refusal.TheVariants as refusal
use Rattle.jet_refusal.specs.Refusals.{status_of}
use Rattle.jet_refusal.specs.Causes.{Causes, IsOwedTo}
use Rattle.command_parts.specs.Saying.{status_after}

pub status_of-range : (r : Refusal) → (2 ≤ status_of r) × (status_of r ≤ 11)
status_of-range refusal.Usage = (omega arith, omega arith)
status_of-range (refusal.Image fault) = (omega arith, omega arith)
status_of-range (refusal.Window pages) = (omega arith, omega arith)
status_of-range (refusal.Log kind offset) = (omega arith, omega arith)
status_of-range (refusal.Program kept seen) = (omega arith, omega arith)
status_of-range (refusal.Diverged d) = (omega arith, omega arith)
status_of-range (refusal.Query line kind) = (omega arith, omega arith)
status_of-range (refusal.QueryOf file line kind) = (omega arith, omega arith)
status_of-range (refusal.Rules first index other) = (omega arith, omega arith)
status_of-range refusal.TooLong = (omega arith, omega arith)
status_of-range (refusal.LogTooLong size) = (omega arith, omega arith)
status_of-range (refusal.TooManyEpochs count) = (omega arith, omega arith)
status_of-range refusal.ReadFault = (omega arith, omega arith)
status_of-range refusal.WriteFault = (omega arith, omega arith)
status_of-range (refusal.NoMemory no_memory) = (omega arith, omega arith)

pub status_after-is_status : (r : Result (Unit {0}) Refusal) → (status_after r ≡ 0) ⊎ ((2 ≤ status_after r) × (status_after r ≤ 11))
status_after-is_status (Ok done) = inl refl
status_after-is_status (Err r) = inr (status_of-range r)

pub is_usage : (r : Refusal) → status_of r ≡ 2 → r ≡ refusal.Usage
is_usage refusal.Usage e = refl
is_usage (refusal.Image fault) e = let f : ⊥ = omega (arith, e) in absurd f
is_usage (refusal.Window pages) e = let f : ⊥ = omega (arith, e) in absurd f
is_usage (refusal.Log kind offset) e = let f : ⊥ = omega (arith, e) in absurd f
is_usage (refusal.Program kept seen) e = let f : ⊥ = omega (arith, e) in absurd f
is_usage (refusal.Diverged d) e = let f : ⊥ = omega (arith, e) in absurd f
is_usage (refusal.Query line kind) e = let f : ⊥ = omega (arith, e) in absurd f
is_usage (refusal.QueryOf file line kind) e = let f : ⊥ = omega (arith, e) in absurd f
is_usage (refusal.Rules first index other) e = let f : ⊥ = omega (arith, e) in absurd f
is_usage refusal.TooLong e = let f : ⊥ = omega (arith, e) in absurd f
is_usage (refusal.LogTooLong size) e = let f : ⊥ = omega (arith, e) in absurd f
is_usage (refusal.TooManyEpochs count) e = let f : ⊥ = omega (arith, e) in absurd f
is_usage refusal.ReadFault e = let f : ⊥ = omega (arith, e) in absurd f
is_usage refusal.WriteFault e = let f : ⊥ = omega (arith, e) in absurd f
is_usage (refusal.NoMemory no_memory) e = let f : ⊥ = omega (arith, e) in absurd f

-- what holds of each cause but out of memory
pub of_any_cause : (P : Type 0) (r : Refusal) → (status_of r ≡ 10 → P) → IsOwedTo (record { usage = P; files = P; read = P; write = P }) r → P
of_any_cause P refusal.Usage memory p = p
of_any_cause P (refusal.Image fault) memory p = p
of_any_cause P (refusal.Window pages) memory p = p
of_any_cause P (refusal.Log kind offset) memory p = p
of_any_cause P (refusal.Program kept seen) memory p = p
of_any_cause P (refusal.Diverged d) memory p = p
of_any_cause P (refusal.Query line kind) memory p = p
of_any_cause P (refusal.QueryOf file line kind) memory p = p
of_any_cause P (refusal.Rules first index other) memory p = p
of_any_cause P refusal.TooLong memory p = p
of_any_cause P (refusal.LogTooLong size) memory p = p
of_any_cause P (refusal.TooManyEpochs count) memory p = p
of_any_cause P refusal.ReadFault memory p = p
of_any_cause P refusal.WriteFault memory p = p
of_any_cause P (refusal.NoMemory no_memory) memory p = memory refl

-- of the status of a failing write
pub of_write_fault : (P : Type 0) (causes : Causes) (r : Refusal) → status_of r ≡ 8 → (causes.write → P) → IsOwedTo causes r → P
of_write_fault P causes refusal.Usage e step p = let f : ⊥ = omega (arith, e) in absurd f
of_write_fault P causes (refusal.Image fault) e step p = let f : ⊥ = omega (arith, e) in absurd f
of_write_fault P causes (refusal.Window pages) e step p = let f : ⊥ = omega (arith, e) in absurd f
of_write_fault P causes (refusal.Log kind offset) e step p = let f : ⊥ = omega (arith, e) in absurd f
of_write_fault P causes (refusal.Program kept seen) e step p = let f : ⊥ = omega (arith, e) in absurd f
of_write_fault P causes (refusal.Diverged d) e step p = let f : ⊥ = omega (arith, e) in absurd f
of_write_fault P causes (refusal.Query line kind) e step p = let f : ⊥ = omega (arith, e) in absurd f
of_write_fault P causes (refusal.QueryOf file line kind) e step p = let f : ⊥ = omega (arith, e) in absurd f
of_write_fault P causes (refusal.Rules first index other) e step p = let f : ⊥ = omega (arith, e) in absurd f
of_write_fault P causes refusal.TooLong e step p = let f : ⊥ = omega (arith, e) in absurd f
of_write_fault P causes (refusal.LogTooLong size) e step p = let f : ⊥ = omega (arith, e) in absurd f
of_write_fault P causes (refusal.TooManyEpochs count) e step p = let f : ⊥ = omega (arith, e) in absurd f
of_write_fault P causes refusal.ReadFault e step p = let f : ⊥ = omega (arith, e) in absurd f
of_write_fault P causes refusal.WriteFault e step p = step p
of_write_fault P causes (refusal.NoMemory no_memory) e step p = let f : ⊥ = omega (arith, e) in absurd f

pub usage : (r : Result (Unit {0}) Refusal) → status_after r ≡ 2 → r ≡ Err refusal.Usage
usage (Ok done) e = let f : ⊥ = omega (arith, e) in absurd f
usage (Err r) e = ap Err (is_usage r e)
