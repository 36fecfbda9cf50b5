-- A text is read up to the end of the first line that begins with `e`. Where that is its last line, what comes after the text
-- makes no difference.
use Rattle.std.proofs.Common.{◌≡◌, ℕ, List, [], ◌∷◌, ◌++◌, ◌<◌, length, take, drop, refl, ap, sym, ◌∙◌, arith, append_assoc}
use Rattle.std.specs.Prelude.{◌==◌, if◌then◌else◌}
use Rattle.std.specs.List.{flat_map}
use Rattle.std.proofs.lemmas.List.{take-append-drop, length-take, append-nil}
use Rattle.answer_meaning.specs.PrefixFree.{ArePrefixFree}

-- at the beginning of a line, inside a line, inside one that begins with `e`, and after that
pub data Reader : Type 0 where
  AtStart : Reader
  Inside : Reader
  InLast : Reader
  Over : Reader

abbrev pub next : Reader → ℕ → Reader
next AtStart c = if c == 0x0a then AtStart else (if c == 0x65 then InLast else Inside)
next Inside c = if c == 0x0a then AtStart else Inside
next InLast c = if c == 0x0a then Over else InLast
next Over c = Over

-- what is read of a text, of which what comes after its last line is read by another reader
abbrev pub read : (List ℕ → List ℕ) → Reader → List ℕ → List ℕ
read after AtStart [] = []
read after AtStart (c ∷ cs) = c ∷ read after (next AtStart c) cs
read after Inside [] = []
read after Inside (c ∷ cs) = c ∷ read after (next Inside c) cs
read after InLast [] = []
read after InLast (c ∷ cs) = c ∷ read after (next InLast c) cs
read after Over cs = after cs

-- nothing is read after the last line
abbrev pub stop : List ℕ → List ℕ
stop cs = []

-- a piece of a text is read whole, and then the rest as by another reader
pub record Reads (before : Reader) (piece : List ℕ) (after : Reader) : Type 0 where
  pub whole : (later : List ℕ → List ℕ) (rest : List ℕ) → read later before (piece ++ rest) ≡ piece ++ read later after rest

pub nothing : (r : Reader) → Reads r [] r
nothing r = record { whole = λ later rest. refl }

infixl 20 ◌⨾◌
pub ◌⨾◌ : {a b c : Reader} {x y : List ℕ} → Reads a x b → Reads b y c → Reads a (x ++ y) c
◌⨾◌ {a} {b} {c} {x} {y} f g = record {
  whole = λ later rest.
      ap (read later a) (append_assoc x y rest) ∙ f.whole later (y ++ rest) ∙ ap (λ (ys : List ℕ). x ++ ys) (g.whole later rest)
      ∙ sym (append_assoc x y (read later c rest));
}

-- pieces one after another
pub each : {X : Type 0} (r : Reader) (f : X → List ℕ) → ((x : X) → Reads r (f x) r) → (xs : List X) → Reads r (flat_map f xs) r
each r f h [] = nothing r
each r f h (x ∷ xs) = h x ⨾ each r f h xs

-- ---- texts that are read whole

pub whole_is_read : (t rest : List ℕ) → Reads AtStart t Over → read stop AtStart (t ++ rest) ≡ t
whole_is_read t rest h = h.whole stop rest ∙ append-nil t

-- of two texts that one reader takes whole, whatever comes after them, none is the beginning of the other
pub no_front : (reader : List ℕ → List ℕ) (t other : List ℕ) (n : ℕ) → ((rest : List ℕ) → reader (t ++ rest) ≡ t) → ((rest : List ℕ) → reader (other ++ rest) ≡ other)
    → n < length t → other ≡ take n t → ⊥
no_front reader t other n t_is_read other_is_read below e =
    let parts : other ++ drop n t ≡ t = ap (λ (xs : List ℕ). xs ++ drop n t) e ∙ take-append-drop n t in
    let same : other ≡ t = sym (other_is_read (drop n t)) ∙ ap reader (parts ∙ sym (append-nil t)) ∙ t_is_read [] in
    let long : length (take n t) ≡ length t = ap length (sym e ∙ same) in
    omega (arith, long, length-take n t)

pub are_prefix_free : {A : Type 0} (text : A → List ℕ) → ((a : A) → Reads AtStart (text a) Over) → ArePrefixFree text
are_prefix_free text h a other n below e =
    no_front (read stop AtStart) (text a) (text other) n (λ rest. whole_is_read (text a) rest (h a)) (λ rest. whole_is_read (text other) rest (h other)) below e
