-- How a text goes to a sink through a buffer.
use Rattle.std.specs.Prelude.{◌≡◌, ◌≤◌, ℕ, List, [], ◌++◌, length, drop, refl}
use Rattle.std.proofs.Common.{◌∙◌, ap, sym, subst, append_assoc, append-nil}
use Rattle.outer_io.specs.Faults.{Rose}
use Rattle.outer_io.specs.Shown.{SinkShown}
use Rattle.outer_io.specs.Tells.{Tells, GainsPrefix}
use Rattle.outer_io.specs.TellsLaws.{tells-then, tells-map, tells-same, prefix-front, prefix-rest}
use Rattle.outer_io.specs.Pieces.{Putting, Laws}
use Rattle.outer_io.specs.declared.pieces.BufferedSink.{BufferedSink}

-- the first of what waited and of the text went out, and the rest waits
pub record Passes (waited text waits : List ℕ) (old new : List ℕ) : Type 0 where
  pub gone : List ℕ
  pub gains : new ≡ old ++ gone
  pub rest : gone ++ waits ≡ waited ++ text

-- the same of what a sink shows, which didn't fail
pub record PassesOn (old new : SinkShown) (waited text waits : List ℕ) : Type 0 where
  pub stood : new.faults ≡ old.faults
  pub told : Tells old.written new.written (Passes waited text waits)

-- the sink failed, and at most the first of what waited and of the text went out
pub record FailsToPass (old new : SinkShown) (waited text : List ℕ) : Type 0 where
  pub later : old.faults ≤ new.faults
  pub rose : Rose old.faults new.faults
  pub told : Tells old.written new.written (GainsPrefix (waited ++ text))

-- a text goes to the same sink through a buffer
abbrev pub through : {O : Type 0} → (O → SinkShown) → Putting (BufferedSink O)
through shown = record {
  whole = λ old text new. (new.sink.ghost_name ≡ old.sink.ghost_name)
      × PassesOn (shown old.sink.now) (shown new.sink.now) old.buffer.bytes text new.buffer.bytes;
  part = λ old text new. (new.sink.ghost_name ≡ old.sink.ghost_name)
      × FailsToPass (shown old.sink.now) (shown new.sink.now) old.buffer.bytes text;
}

-- ---- one text after another

passes-nothing : (waits xs : List ℕ) → Passes waits [] waits xs xs
passes-nothing waits xs = record { gone = []; gains = sym (append-nil xs); rest = sym (append-nil waits) }

module _ (waited xs held ys : List ℕ) (x y z : List ℕ) (p : Passes waited xs held x y) where
  -- what went out, what is held then, and another text
  passed : p.gone ++ (held ++ ys) ≡ waited ++ (xs ++ ys)
  passed = sym (append_assoc p.gone held ys) ∙ ap (λ (w : List ℕ). w ++ ys) p.rest ∙ append_assoc waited xs ys

  two_gains : (gone : List ℕ) → z ≡ y ++ gone → z ≡ x ++ (p.gone ++ gone)
  two_gains gone e = e ∙ ap (λ (w : List ℕ). w ++ gone) p.gains ∙ append_assoc x p.gone gone

  passes-then : (waits : List ℕ) → Passes held ys waits y z → Passes waited (xs ++ ys) waits x z
  passes-then waits q = record {
    gone = p.gone ++ q.gone;
    gains = two_gains q.gone q.gains;
    rest = append_assoc p.gone q.gone waits ∙ ap (λ (w : List ℕ). p.gone ++ w) q.rest ∙ passed;
  }

  part-then : GainsPrefix (held ++ ys) y z → GainsPrefix (waited ++ (xs ++ ys)) x z
  part-then q =
      let rest : List ℕ = drop (length q.gained) (held ++ ys) in
      let all : (p.gone ++ q.gained) ++ rest ≡ waited ++ (xs ++ ys) =
      append_assoc p.gone q.gained rest ∙ ap (λ (w : List ℕ). p.gone ++ w) (prefix-rest q.gained (held ++ ys) q.is_prefix) ∙ passed in
      record { gained = p.gone ++ q.gained; is_prefix = prefix-front (p.gone ++ q.gained) rest _ all; gains = two_gains q.gained q.gains }

part-longer : (waited xs ys x z : List ℕ) → GainsPrefix (waited ++ xs) x z → GainsPrefix (waited ++ (xs ++ ys)) x z
part-longer waited xs ys x z q =
    let rest : List ℕ = drop (length q.gained) (waited ++ xs) in
    let all : q.gained ++ (rest ++ ys) ≡ waited ++ (xs ++ ys) =
    sym (append_assoc q.gained rest ys) ∙ ap (λ (w : List ℕ). w ++ ys) (prefix-rest q.gained (waited ++ xs) q.is_prefix) ∙ append_assoc waited xs ys in
    record { gained = q.gained; is_prefix = prefix-front q.gained (rest ++ ys) _ all; gains = q.gains }

-- ---- through a buffer

module _ {O : Type 0} (shown : O → SinkShown) where
  pub through_laws : Laws (through shown)
  through_laws = record {
    nothing = λ s. (refl, record { stood = refl; told = tells-same (shown s.sink.now).written _ (passes-nothing s.buffer.bytes) });
    whole_then = λ s t u xs ys p q. (
      q.0 ∙ p.0,
      record {
        stood = q.1.stood ∙ p.1.stood;
        told = tells-then (shown s.sink.now).written (shown t.sink.now).written (shown u.sink.now).written
            (Passes s.buffer.bytes xs t.buffer.bytes) (Passes t.buffer.bytes ys u.buffer.bytes) (Passes s.buffer.bytes (xs ++ ys) u.buffer.bytes)
            (λ x y z a b. passes-then s.buffer.bytes xs t.buffer.bytes ys x y z a u.buffer.bytes b) p.1.told q.1.told;
      },
    );
    part_then = λ s t u xs ys p q. (
      q.0 ∙ p.0,
      record {
        later = subst (λ (n : ℕ). n ≤ (shown u.sink.now).faults) p.1.stood q.1.later;
        rose = subst (λ (n : ℕ). Rose n (shown u.sink.now).faults) p.1.stood q.1.rose;
        told = tells-then (shown s.sink.now).written (shown t.sink.now).written (shown u.sink.now).written
            (Passes s.buffer.bytes xs t.buffer.bytes) (GainsPrefix (t.buffer.bytes ++ ys)) (GainsPrefix (s.buffer.bytes ++ (xs ++ ys)))
            (λ x y z a b. part-then s.buffer.bytes xs t.buffer.bytes ys x y z a b) p.1.told q.1.told;
      },
    );
    part_first = λ s t xs ys p. (
      p.0,
      record {
        later = p.1.later;
        rose = p.1.rose;
        told = tells-map (shown s.sink.now).written (shown t.sink.now).written (GainsPrefix (s.buffer.bytes ++ xs)) (GainsPrefix (s.buffer.bytes ++ (xs ++ ys)))
            (part-longer s.buffer.bytes xs ys) p.1.told;
      },
    );
  }
