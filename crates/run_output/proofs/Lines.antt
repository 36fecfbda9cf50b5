-- The lines of calls, one after another.
use Rattle.std.proofs.Common.{◌≡◌, ℕ, ◌+◌, ◌<◌, List, [], ◌∷◌, ◌++◌, length, take, drop, get_or, refl, ap, sym, ◌∙◌, arith, append_assoc}
use Rattle.std.specs.List.{flat_map}
use Rattle.std.proofs.lemmas.List.{take_more, drop_more}
use Rattle.isa.specs.Calls.{channel_of}
use Rattle.log_model.specs.declared.CallRecord.{CallRecord}
use Rattle.log_model.specs.declared.CallRecord.TheVariants.{Read, Write}
use Rattle.replay_model.proofs.Sizes.{moved_with}
use Rattle.run_output.specs.declared.ways.Way.{Way}
use Rattle.run_output.specs.declared.ways.Way.TheVariants.{Received, Written}
use Rattle.run_output.specs.Ways.{moved, moved_by}
use Rattle.run_output.specs.Lines.{Line, transfer_line, line_of, counts_of, lines_after, line_text}

-- a call's line depends on the counts alone
pub same_line : (f g : Way → ℕ → ℕ) → ((way : Way) (c : ℕ) → f way c ≡ g way c) → (r : CallRecord) → line_of f r ≡ line_of g r
same_line f g same (Read at args result bytes) = ap (λ (n : ℕ). transfer_line Received n at args result bytes) (same Received (channel_of args))
same_line f g same (Write at args result bytes) = ap (λ (n : ℕ). transfer_line Written n at args result bytes) (same Written (channel_of args))
same_line f g same r = refl

counts_more : (rs : List CallRecord) (way : Way) (c i : ℕ) (d : CallRecord) → i < length rs
    → counts_of (take (i + 1) rs) way c ≡ counts_of (take i rs) way c + length (moved_by way c (get_or rs i d))
counts_more rs way c i d h =
    ap (λ (qs : List CallRecord). length (moved way c qs)) (take_more rs i d h) ∙ moved_with (moved_by way c) (take i rs) (get_or rs i d)

-- the bytes of one call more are counted
pub counted_more : (rs : List CallRecord) (i : ℕ) (call : CallRecord) (old new : Way → ℕ → ℕ) → i < length rs → call ≡ get_or rs i call
    → ((way : Way) (c : ℕ) → old way c ≡ counts_of (take i rs) way c) → ((way : Way) (c : ℕ) → new way c ≡ old way c + length (moved_by way c call))
    → (way : Way) (c : ℕ) → new way c ≡ counts_of (take (i + 1) rs) way c
counted_more rs i call old new inside here counted more way c =
    omega (arith, more way c, counted way c, counts_more rs way c i call inside, ap (λ (r : CallRecord). length (moved_by way c r)) here)

-- the text of the lines that are left
abbrev pub left_text : List CallRecord → ℕ → List ℕ
left_text rs i = flat_map line_text (lines_after (take i rs) (drop i rs))

pub left_more : (rs : List CallRecord) (i : ℕ) (d : CallRecord) → i < length rs
    → left_text rs i ≡ line_text (line_of (counts_of (take i rs)) (get_or rs i d)) ++ left_text rs (i + 1)
left_more rs i d h = rw (drop_more rs i d h, take_more rs i d h) refl

-- the line of one call more is written
pub text_more : (rs : List CallRecord) (i : ℕ) (call : CallRecord) (counts : Way → ℕ → ℕ) (out new all : List ℕ) → i < length rs → call ≡ get_or rs i call
    → ((way : Way) (c : ℕ) → counts way c ≡ counts_of (take i rs) way c) → new ≡ out ++ line_text (line_of counts call)
    → out ++ left_text rs i ≡ all → new ++ left_text rs (i + 1) ≡ all
text_more rs i call counts out new all inside here counted line so_far =
    let rest = left_text rs (i + 1) in
    let told : line_of counts call ≡ line_of (counts_of (take i rs)) (get_or rs i call) =
    same_line counts (counts_of (take i rs)) counted call ∙ ap (line_of (counts_of (take i rs))) here in
    ap (λ (x : List ℕ). x ++ rest) line
    ∙ append_assoc out (line_text (line_of counts call)) rest
    ∙ ap (λ (x : List ℕ). out ++ x) (ap (λ (l : Line). line_text l ++ rest) told ∙ sym (left_more rs i call inside))
    ∙ so_far

pub length-lines_after : (done rs : List CallRecord) → length (lines_after done rs) ≡ length rs
length-lines_after done [] = refl
length-lines_after done (r ∷ rs) = let rest = length-lines_after (done ++ r ∷ []) rs in omega (arith, rest)

-- ---- one part after another

six_parts : (out a b c d e f : List ℕ) → out ++ a ++ b ++ c ++ d ++ e ++ f ≡ out ++ (a ++ b ++ c ++ d ++ e ++ f)
six_parts out a b c d e f = simp append_assoc

pub six_appended : (out o p q r s t a b c d e f : List ℕ) → o ≡ out ++ a → p ≡ o ++ b → q ≡ p ++ c → r ≡ q ++ d → s ≡ r ++ e → t ≡ s ++ f
    → t ≡ out ++ (a ++ b ++ c ++ d ++ e ++ f)
six_appended out o p q r s t a b c d e f first second third fourth fifth sixth = let parts = six_parts out a b c d e f in cc
