-- Words of four bytes, as they stand in a file. Crates above cite these lemmas.
use Rattle.std.proofs.Common.{◌≡◌, ℕ, zero, suc, ◌*◌, ◌/◌, ◌%◌, ◌^◌, ◌<◌, List, [], ◌∷◌, ◌++◌, get_or, take, drop, length, w32, refl, ap, sym, ◌∙◌, arith}
use Rattle.std.specs.Int.{from_le_bytes}
use Rattle.std.proofs.lemmas.Nat.{from_le_bytes-to_le_bytes_4}
use Rattle.isa.specs.Machine.{wrap}
use Rattle.log_model.specs.Logs.{word32}
use Rattle.core_file.specs.Headers.{words}

-- a word's bytes are those of the number modulo 2^32
pub word-wrap : (n : ℕ) → word32 (wrap n) ≡ word32 n
word-wrap n = λ i. lowest i ∷ second i ∷ third i ∷ highest i ∷ []
  where
    lowest : n % 2 ^ 32 % 256 ≡ n % 256
    lowest = omega arith

    second : n % 2 ^ 32 / 256 % 256 ≡ n / 256 % 256
    second = omega arith

    third : n % 2 ^ 32 / 65536 % 256 ≡ n / 65536 % 256
    third = omega arith

    highest : n % 2 ^ 32 / 16777216 % 256 ≡ n / 16777216 % 256
    highest = omega arith

-- a word that was written is read as the number modulo 2^32
pub word_again : (n : ℕ) → from_le_bytes w32 (word32 n) ≡ wrap n
word_again n = ap (from_le_bytes w32) (sym (word-wrap n)) ∙ from_le_bytes-to_le_bytes_4 (wrap n) (omega arith)

-- one of some words, whatever follows
pub word_among : (ns rest : List ℕ) (k : ℕ) → k < length ns → take 4 (drop (4 * k) (words ns ++ rest)) ≡ word32 (get_or ns k 0)
word_among [] rest k h = absurd (omega arith)
word_among (n ∷ ns) rest zero h = refl
word_among (n ∷ ns) rest (suc k) h =
    let further : 4 * suc k ≡ suc (suc (suc (suc (4 * k)))) = omega arith in
    ap (λ (m : ℕ). take 4 (drop m (words (n ∷ ns) ++ rest))) further ∙ word_among ns rest k (omega arith)
