-- The sum of a packet's bytes modulo 256, a byte at a time.
use Rattle.std.proofs.Common.{◌≡◌, ℕ, ◌+◌, ◌%◌, ◌<◌, List, length, get_or, take, arith}
use Rattle.std.proofs.lemmas.List.Sums.{sum_by_more}
use Rattle.remote_frames.specs.Frames.{checksum}

pub checksum_more : (packet : List ℕ) (i : ℕ) → i < length packet
    → (checksum (take i packet) + get_or packet i 0) % 256 ≡ checksum (take (i + 1) packet)
checksum_more packet i h = let e = sum_by_more (λ (b : ℕ). b) packet i 0 h in omega (arith, e)
