-- The step that moved a byte, call by call.
use Rattle.std.proofs.Common.{◌≡◌, ℕ, ◌+◌, ◌<◌, ◌≤◌, ◌⊎◌, inl, inr, List, [], ◌∷◌, ◌++◌, length, get_or, take, drop, refl, ap, sym, ◌∙◌, arith, Bool, true, false, pos, negsuc}
use Rattle.std.specs.Prelude.{◌==◌, nat_le, nat_lt, if◌then◌else◌, Option, Some, option_map}
use Rattle.std.specs.List.{find}
use Rattle.std.proofs.lemmas.Bool.{cases_Bool, eqb-true}
use Rattle.std.proofs.lemmas.Bool.Decides.{nat_tests}
use Rattle.std.proofs.lemmas.List.{drop_more, take_more}
use Rattle.log_model.specs.declared.CallRecord.{CallRecord}
use Rattle.log_model.specs.declared.CallRecord.TheVariants.{Read, Write, Clock, Other}
use Rattle.log_model.specs.Logs.{at_of, IsRecord, moved_length}
use Rattle.isa.specs.Calls.{channel_of}
use Rattle.replay_model.proofs.Sizes.{moved_with}
use Rattle.run_output.specs.declared.ways.Way.{Way}
use Rattle.run_output.specs.declared.ways.Way.TheVariants.{Received, Written}
use Rattle.run_output.specs.Ways.{moved, moved_by}
use Rattle.run_output.specs.Lines.{Piece, counts_of, lines_after, piece}
use Rattle.run_output.specs.Pieces.{pieces_on}
use Rattle.debug_model.specs.Commands.{has_byte}

abbrev pub step : Option Piece → Option ℕ
step found = option_map (λ p. p.at) found

-- the step that moved the byte at an offset, of the calls that follow these
abbrev pub found : Way → ℕ → ℕ → List CallRecord → List CallRecord → Option ℕ
found way channel offset done left = step (find (has_byte offset) (pieces_on way channel (lines_after done left)))

-- ---- one piece

-- the bytes of a call, where it is on a channel
abbrev on : Bool → List ℕ → List ℕ
on b bytes = if b then bytes else []

miss_piece : (p : Piece) (offset : ℕ) (pieces : List Piece) → p.offset + length p.bytes ≤ offset
    → find (has_byte offset) (p ∷ pieces) ≡ find (has_byte offset) pieces
miss_piece p offset pieces past =
    let e : nat_lt offset (p.offset + length p.bytes) ≡ false = grind (arith, nat_tests) in
    grind (arith, nat_tests)

hit_piece : (p : Piece) (offset : ℕ) (pieces : List Piece) → p.offset ≤ offset → offset < p.offset + length p.bytes
    → find (has_byte offset) (p ∷ pieces) ≡ Some p
hit_piece p offset pieces from below =
    let e : nat_lt offset (p.offset + length p.bytes) ≡ true = grind (arith, nat_tests) in
    let f : nat_le p.offset offset ≡ true = grind (arith, nat_tests) in
    grind (arith, nat_tests)

-- ---- one call

-- the piece of a call that moved these bytes, where it is on this channel
abbrev pieces_if : Bool → Piece → List Piece
pieces_if b p = if b then p ∷ [] else []

miss_if : (b : Bool) (p : Piece) (offset : ℕ) (pieces : List Piece) → p.offset + length (on b p.bytes) ≤ offset
    → find (has_byte offset) (pieces_if b p ++ pieces) ≡ find (has_byte offset) pieces
miss_if true p offset pieces past = miss_piece p offset pieces past
miss_if false p offset pieces past = refl

hit_if : (b : Bool) (p : Piece) (offset : ℕ) (pieces : List Piece) → p.offset ≤ offset
    → offset < p.offset + length (on b p.bytes) → find (has_byte offset) (pieces_if b p ++ pieces) ≡ Some p
hit_if true p offset pieces from below = hit_piece p offset pieces from below
hit_if false p offset pieces from below = absurd (omega (arith, from, below))

on-le : (b : Bool) (bytes : List ℕ) → length (on b bytes) ≤ length bytes
on-le true bytes = omega arith
on-le false bytes = omega arith

-- the piece of a call with these arguments, behind these calls
abbrev piece_of : Way → List CallRecord → ℕ → List ℕ → List ℕ → Piece
piece_of way done at args bytes = piece at args (counts_of done way (channel_of args)) bytes

miss_line : (way : Way) (c o : ℕ) (done : List CallRecord) (at : ℕ) (args bytes : List ℕ) (pieces : List Piece)
    → length (moved way c done) + length (on (channel_of args == c) bytes) ≤ o
    → find (has_byte o) (pieces_if (channel_of args == c) (piece_of way done at args bytes) ++ pieces)
    ≡ find (has_byte o) pieces
miss_line way c o done at args bytes pieces past = by (cases_Bool (channel_of args == c)) where
  by : ((channel_of args == c) ≡ true) ⊎ ((channel_of args == c) ≡ false)
      → find (has_byte o) (pieces_if (channel_of args == c) (piece_of way done at args bytes) ++ pieces)
      ≡ find (has_byte o) pieces
  by (inl same) =
      let counts = ap (λ (k : ℕ). length (moved way k done)) (eqb-true (channel_of args) c same) in
      miss_if (channel_of args == c) (piece_of way done at args bytes) o pieces (omega (arith, past, counts))
  by (inr other) = rw other refl

hit_line : (way : Way) (c o : ℕ) (done : List CallRecord) (at : ℕ) (args bytes : List ℕ) (pieces : List Piece)
    → length (moved way c done) ≤ o → o < length (moved way c done) + length (on (channel_of args == c) bytes)
    → find (has_byte o) (pieces_if (channel_of args == c) (piece_of way done at args bytes) ++ pieces)
    ≡ Some (piece_of way done at args bytes)
hit_line way c o done at args bytes pieces from below = by (cases_Bool (channel_of args == c)) where
  by : ((channel_of args == c) ≡ true) ⊎ ((channel_of args == c) ≡ false)
      → find (has_byte o) (pieces_if (channel_of args == c) (piece_of way done at args bytes) ++ pieces)
      ≡ Some (piece_of way done at args bytes)
  by (inl same) =
      let counts = ap (λ (k : ℕ). length (moved way k done)) (eqb-true (channel_of args) c same) in
      hit_if (channel_of args == c) (piece_of way done at args bytes) o pieces (omega (arith, from, counts))
      (omega (arith, below, counts))
  by (inr other) = let none = rw other at below in absurd (omega (arith, from, none))

-- a byte that lies behind those of a call is found behind it
miss : (way : Way) (c o : ℕ) (done : List CallRecord) (r : CallRecord) (rs : List CallRecord)
    → length (moved way c done) + length (moved_by way c r) ≤ o
    → found way c o done (r ∷ rs) ≡ found way c o (done ++ r ∷ []) rs
miss Received c o done (Read at args (pos n) bytes) rs past =
    ap step (miss_line Received c o done at args bytes (pieces_on Received c (lines_after (done ++ Read at args (pos n) bytes ∷ []) rs)) past)
miss Received c o done (Read at args (negsuc n) bytes) rs past = refl
miss Received c o done (Write at args (pos n) bytes) rs past = refl
miss Received c o done (Write at args (negsuc n) bytes) rs past = refl
miss Written c o done (Write at args (pos n) bytes) rs past =
    ap step (miss_line Written c o done at args bytes (pieces_on Written c (lines_after (done ++ Write at args (pos n) bytes ∷ []) rs)) past)
miss Written c o done (Write at args (negsuc n) bytes) rs past = refl
miss Written c o done (Read at args (pos n) bytes) rs past = refl
miss Written c o done (Read at args (negsuc n) bytes) rs past = refl
miss way c o done (Clock at value) rs past = refl
miss way c o done (Other at number) rs past = refl

-- a call that was refused moved nothing
refused : (b : Bool) (bytes : List ℕ) (before o n : ℕ) → length bytes ≡ moved_length (negsuc n) → before ≤ o
    → o < before + length (on b bytes) → ⊥
refused b bytes before o n none from below = omega (arith, none, from, below, on-le b bytes)

hit : (way : Way) (c o : ℕ) (done : List CallRecord) (r : CallRecord) (rs : List CallRecord) → IsRecord r
    → length (moved way c done) ≤ o → o < length (moved way c done) + length (moved_by way c r)
    → found way c o done (r ∷ rs) ≡ Some (at_of r)
hit Received c o done (Read at args (pos n) bytes) rs is from below =
    ap step (hit_line Received c o done at args bytes (pieces_on Received c (lines_after (done ++ Read at args (pos n) bytes ∷ []) rs)) from below)
hit Received c o done (Read at args (negsuc n) bytes) rs is from below =
    absurd (refused (channel_of args == c) bytes (length (moved Received c done)) o n is.1.whole from below)
hit Received c o done (Write at args result bytes) rs is from below =
    absurd (omega (arith, from, below, on-le (channel_of args == c) []))
hit Written c o done (Write at args (pos n) bytes) rs is from below =
    ap step (hit_line Written c o done at args bytes (pieces_on Written c (lines_after (done ++ Write at args (pos n) bytes ∷ []) rs)) from below)
hit Written c o done (Write at args (negsuc n) bytes) rs is from below =
    absurd (refused (channel_of args == c) bytes (length (moved Written c done)) o n is.1.whole from below)
hit Written c o done (Read at args result bytes) rs is from below =
    absurd (omega (arith, from, below, on-le (channel_of args == c) []))
hit Received c o done (Clock at value) rs is from below = absurd (omega (arith, from, below))
hit Received c o done (Other at number) rs is from below = absurd (omega (arith, from, below))
hit Written c o done (Clock at value) rs is from below = absurd (omega (arith, from, below))
hit Written c o done (Other at number) rs is from below = absurd (omega (arith, from, below))

-- ---- the calls of a list

pub before_more : (way : Way) (c : ℕ) (rs : List CallRecord) (i : ℕ) (call : CallRecord) → i < length rs
    → call ≡ get_or rs i call
    → length (moved way c (take (i + 1) rs)) ≡ length (moved way c (take i rs)) + length (moved_by way c call)
before_more way c rs i call inside here =
    ap (λ (qs : List CallRecord). length (moved way c qs)) (take_more rs i call inside)
    ∙ moved_with (moved_by way c) (take i rs) (get_or rs i call)
    ∙ ap (λ (r : CallRecord). length (moved way c (take i rs)) + length (moved_by way c r)) (sym here)

at_call : (way : Way) (c o : ℕ) (rs : List CallRecord) (i : ℕ) (call : CallRecord) → i < length rs
    → call ≡ get_or rs i call
    → found way c o (take i rs) (drop i rs) ≡ found way c o (take i rs) (call ∷ drop (i + 1) rs)
at_call way c o rs i call inside here =
    ap (found way c o (take i rs)) (drop_more rs i call inside)
    ∙ ap (λ (r : CallRecord). found way c o (take i rs) (r ∷ drop (i + 1) rs)) (sym here)

pub call_passed : (way : Way) (c o left : ℕ) (rs : List CallRecord) (i : ℕ) (call : CallRecord) → i < length rs
    → call ≡ get_or rs i call → left + length (moved way c (take i rs)) ≡ o → length (moved_by way c call) ≤ left
    → found way c o (take (i + 1) rs) (drop (i + 1) rs) ≡ found way c o (take i rs) (drop i rs)
call_passed way c o left rs i call inside here sum past =
    let more : take (i + 1) rs ≡ take i rs ++ call ∷ [] =
    take_more rs i call inside ∙ ap (λ (r : CallRecord). take i rs ++ r ∷ []) (sym here) in
    ap (λ (qs : List CallRecord). found way c o qs (drop (i + 1) rs)) more
    ∙ sym (miss way c o (take i rs) call (drop (i + 1) rs) (omega (arith, sum, past)))
    ∙ sym (at_call way c o rs i call inside here)

pub call_found : (way : Way) (c o left : ℕ) (rs : List CallRecord) (i : ℕ) (call : CallRecord) → i < length rs
    → call ≡ get_or rs i call → IsRecord call → left + length (moved way c (take i rs)) ≡ o
    → left < length (moved_by way c call) → found way c o (take i rs) (drop i rs) ≡ Some (at_of call)
call_found way c o left rs i call inside here is sum below =
    at_call way c o rs i call inside here
    ∙ hit way c o (take i rs) call (drop (i + 1) rs) is (omega (arith, sum)) (omega (arith, sum, below))
