-- The pieces of a channel are the bytes that were moved on it.
use Rattle.std.proofs.Common.{arith, ◌≡◌, ℕ, ◌+◌, ◌==◌, Bool, true, false, ◌⊎◌, inl, inr, List, [], ◌∷◌, ◌++◌, length, refl, ap, subst}
use Rattle.std.specs.Prelude.{if◌then◌else◌, pos, negsuc}
use Rattle.std.specs.List.{flat_map, AllByRecursion}
use Rattle.std.proofs.lemmas.Bool.{eqb-true}
use Rattle.std.proofs.lemmas.List.{nil_from_length}
use Rattle.isa.specs.Calls.{channel_of}
use Rattle.log_model.specs.declared.CallRecord.{CallRecord}
use Rattle.log_model.specs.declared.CallRecord.TheVariants.{Read, Write}
use Rattle.log_model.specs.Logs.{IsRecord}
use Rattle.replay_model.proofs.Sizes.{moved_with}
use Rattle.run_output.specs.declared.ways.Way.{Way}
use Rattle.run_output.specs.declared.ways.Way.TheVariants.{Received, Written}
use Rattle.run_output.specs.Ways.{moved, moved_by}
use Rattle.run_output.specs.Lines.{Piece, piece, line_of, counts_of, lines_after}
use Rattle.run_output.specs.Pieces.{piece_on, pieces_on, AreAdjoining, IsTiledBy, LinesTileChannels}

-- ---- one line

-- a line has no piece, where its call moved nothing, or one, of these bytes at this offset
abbrev IsPieceOf : List Piece → ℕ → List ℕ → Type 0
IsPieceOf ps offset bytes = ((ps ≡ []) × (bytes ≡ [])) ⊎ ((p : Piece) × (ps ≡ p ∷ []) × (p.offset ≡ offset) × (p.bytes ≡ bytes))

on_channel : (way : Way) (c : ℕ) (done : List CallRecord) (at : ℕ) (args bytes : List ℕ) (b : Bool) → (channel_of args == c) ≡ b
    → IsPieceOf (if b then piece at args (counts_of done way (channel_of args)) bytes ∷ [] else []) (counts_of done way c) (if b then bytes else [])
on_channel way c done at args bytes true e = inr (piece at args (counts_of done way (channel_of args)) bytes, refl, ap (counts_of done way) (eqb-true (channel_of args) c e), refl)
on_channel way c done at args bytes false e = inl (refl, refl)

nothing : (b : Bool) (bytes : List ℕ) → bytes ≡ [] → (if b then bytes else []) ≡ []
nothing true bytes e = e
nothing false bytes e = refl

piece_is : (way : Way) (c : ℕ) (done : List CallRecord) (r : CallRecord) → IsRecord r
    → IsPieceOf (piece_on way c (line_of (counts_of done) r)) (counts_of done way c) (moved_by way c r)
piece_is Received c done (Read at args (pos n) bytes) is = on_channel Received c done at args bytes (channel_of args == c) refl
piece_is Received c done (Read at args (negsuc n) bytes) is = inl (refl, nothing (channel_of args == c) bytes (nil_from_length bytes is.1.whole))
piece_is Received c done (Write at args (pos n) bytes) is = inl (refl, nothing (channel_of args == c) [] refl)
piece_is Received c done (Write at args (negsuc n) bytes) is = inl (refl, nothing (channel_of args == c) [] refl)
piece_is Written c done (Read at args (pos n) bytes) is = inl (refl, nothing (channel_of args == c) [] refl)
piece_is Written c done (Read at args (negsuc n) bytes) is = inl (refl, nothing (channel_of args == c) [] refl)
piece_is Written c done (Write at args (pos n) bytes) is = on_channel Written c done at args bytes (channel_of args == c) refl
piece_is Written c done (Write at args (negsuc n) bytes) is = inl (refl, nothing (channel_of args == c) bytes (nil_from_length bytes is.1.whole))
piece_is way c done r is = inl (refl, refl)

-- ---- all lines

-- bytes are these pieces, one after another, the first at this offset
record AreFrom (offset : ℕ) (bytes : List ℕ) (ps : List Piece) : Type 0 where
  whole : flat_map (λ (p : Piece). p.bytes) ps ≡ bytes
  adjoining : AreAdjoining offset ps

with_line : (ps rest : List Piece) (offset next : ℕ) (bytes more : List ℕ) → IsPieceOf ps offset bytes → next ≡ offset + length bytes
    → AreFrom next more rest → AreFrom offset (bytes ++ more) (ps ++ rest)
with_line ps rest offset next bytes more (inl none) e from =
    let here : next ≡ offset = omega (arith, e, ap length none.1) in
    rw (none.1, none.0) (subst (λ (n : ℕ). AreFrom n more rest) here from)
with_line ps rest offset next bytes more (inr some) e from =
    let after : next ≡ offset + length some.0.bytes = omega (arith, e, ap length some.3) in
    rw (← some.3, some.1) (record {
      whole = ap (λ (bs : List ℕ). some.0.bytes ++ bs) from.whole;
      adjoining = (some.2, subst (λ (n : ℕ). AreAdjoining n rest) after from.adjoining);
    })

are_from : (way : Way) (c : ℕ) (done rs : List CallRecord) → AllByRecursion IsRecord rs
    → AreFrom (counts_of done way c) (moved way c rs) (pieces_on way c (lines_after done rs))
are_from way c done [] is = record { whole = refl; adjoining = tt }
are_from way c done (r ∷ rs) is =
    with_line (piece_on way c (line_of (counts_of done) r)) (pieces_on way c (lines_after (done ++ r ∷ []) rs)) (counts_of done way c) (counts_of (done ++ r ∷ []) way c) (moved_by way c r) (moved way c rs)
    (piece_is way c done r is.0) (moved_with (moved_by way c) done r) (are_from way c (done ++ r ∷ []) rs is.1)

tiled : (way : Way) (c : ℕ) (rs : List CallRecord) → AllByRecursion IsRecord rs → IsTiledBy (moved way c rs) (pieces_on way c (lines_after [] rs))
tiled way c rs is = let from = are_from way c [] rs is in record { whole = from.whole; adjoining = from.adjoining }

pub lines_tile : LinesTileChannels
lines_tile log channel is = record { read = tiled Received channel log.records is.records; written = tiled Written channel log.records is.records }
