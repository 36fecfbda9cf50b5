-- How what passed over a wire goes on over several calls. Crates above cite these lemmas.
use Rattle.std.proofs.Common.{◌≡◌, ◌<◌, ◌∙◌, ap, sym, refl, arith, ℕ, zero, suc, false, ◌||◌, List, [], ◌∷◌, ◌++◌, map, append_assoc, append-nil}
use Rattle.std.proofs.lemmas.List.{map-append}
use Rattle.outer_io.specs.Tells.{Gains}
use Rattle.outer_wire.specs.Wires.{Passed, Came, Went, came, went, is_at_end, received, sent}
use Rattle.outer_wire.specs.Sending.{Sends}

pub came-append : (xs ys : List Passed) → came (xs ++ ys) ≡ came xs ++ came ys
came-append [] ys = refl
came-append (Came bytes ∷ xs) ys = ap (λ (more : List ℕ). bytes ++ more) (came-append xs ys) ∙ sym (append_assoc bytes (came xs) (came ys))
came-append (Went bytes ∷ xs) ys = came-append xs ys

pub went-append : (xs ys : List Passed) → went (xs ++ ys) ≡ went xs ++ went ys
went-append [] ys = refl
went-append (Came bytes ∷ xs) ys = went-append xs ys
went-append (Went bytes ∷ xs) ys = ap (λ (more : List ℕ). bytes ++ more) (went-append xs ys) ∙ sym (append_assoc bytes (went xs) (went ys))

pub end-append : (xs ys : List Passed) → is_at_end (xs ++ ys) ≡ (is_at_end xs || is_at_end ys)
end-append [] ys = refl
end-append (Came [] ∷ xs) ys = refl
end-append (Came (byte ∷ bytes) ∷ xs) ys = end-append xs ys
end-append (Went bytes ∷ xs) ys = end-append xs ys

-- ---- what is sent

pub came-pieces : (pieces : List (List ℕ)) → came (map Went pieces) ≡ []
came-pieces [] = refl
came-pieces (piece ∷ pieces) = came-pieces pieces

pub end-pieces : (pieces : List (List ℕ)) → is_at_end (map Went pieces) ≡ false
end-pieces [] = refl
end-pieces (piece ∷ pieces) = end-pieces pieces

pub sends-nothing : (x : List Passed) → Sends [] x x
sends-nothing x = record { pieces = []; gains = sym (append-nil x); whole = refl }

-- one text after another
pub sends-on : (first next : List ℕ) (x y z : List Passed) → Sends first x y → Sends next y z → Sends (first ++ next) x z
sends-on first next x y z p q =
    let pieces : map Went (p.pieces ++ q.pieces) ≡ map Went p.pieces ++ map Went q.pieces = map-append Went p.pieces q.pieces in
    record {
      pieces = p.pieces ++ q.pieces;
      gains = q.gains ∙ ap (λ (w : List Passed). w ++ map Went q.pieces) p.gains
          ∙ append_assoc x (map Went p.pieces) (map Went q.pieces) ∙ ap (λ (w : List Passed). x ++ w) (sym pieces);
      whole = ap went pieces ∙ went-append (map Went p.pieces) (map Went q.pieces)
          ∙ ap (λ (w : List ℕ). w ++ went (map Went q.pieces)) p.whole ∙ ap (λ (w : List ℕ). first ++ w) q.whole;
    }

-- one call
pub sends-piece : (piece : List ℕ) (x y : List Passed) → Gains (sent piece) x y → Sends piece x y
sends-piece [] x y p = record { pieces = []; gains = p; whole = refl }
sends-piece (byte ∷ bytes) x y p = record { pieces = (byte ∷ bytes) ∷ []; gains = p; whole = append-nil (byte ∷ bytes) }

-- ---- what is received

-- into a buffer that has room
pub received-some : (room : ℕ) (bytes : List ℕ) → 0 < room → received room bytes ≡ Came bytes ∷ []
received-some zero bytes some = absurd (omega (arith, some))
received-some (suc room) bytes some = refl
