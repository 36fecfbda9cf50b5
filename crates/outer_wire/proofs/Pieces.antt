-- Bytes that came at once, answered one after another.
use Rattle.std.proofs.Common.{◌≡◌, ◌∙◌, ap, sym, subst, ℕ, suc, ◌<◌, get_or, drop-cons, Bool, List, [], ◌∷◌, ◌++◌, take, drop, length, append_assoc, take-append-drop}
use Rattle.outer_io.specs.Tells.{IsPrefix}
use Rattle.outer_io.specs.TellsLaws.{prefix-front, prefix-rest}
use Rattle.outer_wire.specs.Wires.{Passed}
use Rattle.outer_wire.specs.Sending.{Sends, SendsPrefix}
use Rattle.outer_wire.specs.Talks.{Answers, GoesOn, Hears, no_more, left_by}
use Rattle.outer_wire.specs.Answering.{IsAnswered, IsAnsweredInPart}
use Rattle.outer_wire.proofs.History.{sends-nothing, sends-on}
use Rattle.outer_wire.proofs.Turns.{goes_on-nothing, goes_on-then, goes_on-over, said-first, said-part}

-- the bytes around one of them
pub around : (bytes : List ℕ) (i d : ℕ) → i < length bytes → take i bytes ++ get_or bytes i d ∷ drop (suc i) bytes ≡ bytes
around bytes i d h = ap (λ (w : List ℕ). take i bytes ++ w) (sym (drop-cons bytes i d h)) ∙ take-append-drop i bytes

pub up_to : (bytes : List ℕ) (i d : ℕ) → i < length bytes → (take i bytes ++ get_or bytes i d ∷ []) ++ drop (suc i) bytes ≡ bytes
up_to bytes i d h = append_assoc (take i bytes) (get_or bytes i d ∷ []) (drop (suc i) bytes) ∙ around bytes i d h

pub answered-none : (a : Answers) (x : List Passed) → IsAnswered a [] a x x
answered-none a x = record { said = []; sends = sends-nothing x; goes_on = goes_on-nothing a }

prefix-trans : (part front whole : List ℕ) → IsPrefix part front → IsPrefix front whole → IsPrefix part whole
prefix-trans part front whole p q =
    prefix-front part (drop (length part) front ++ drop (length front) whole) whole
    (sym (append_assoc part (drop (length part) front) (drop (length front) whole))
    ∙ ap (λ (w : List ℕ). w ++ drop (length front) whole) (prefix-rest part front p) ∙ prefix-rest front whole q)

module _ (a now next : Answers) (bytes done more : List ℕ) (byte : ℕ) (over : Bool) (written written_after : List ℕ) (x y z : List Passed)
    (all : done ++ byte ∷ more ≡ bytes) (none : written ≡ []) (h : Hears now next byte over written written_after) (p : IsAnswered a done now x y) where
  is_said : written_after ≡ h.said
  is_said = h.gains ∙ ap (λ (w : List ℕ). w ++ h.said) none

  -- what was said in answer to one byte more was sent
  pub answered-byte : Sends written_after y z → IsAnswered a (done ++ byte ∷ []) (left_by over next) x z
  answered-byte q = record {
    said = p.said ++ h.said;
    sends = sends-on p.said h.said x y z p.sends (subst (λ (s : List ℕ). Sends s y z) is_said q);
    goes_on = goes_on-then a now (left_by over next) done (byte ∷ []) p.said h.said p.goes_on h.goes_on;
  }

  -- only the first of it
  pub part-byte : SendsPrefix written_after y z → IsAnsweredInPart a bytes x z
  part-byte q =
      let first : IsPrefix q.part h.said = subst (λ (s : List ℕ). IsPrefix q.part s) is_said q.is_prefix in
      let then : IsPrefix q.part (now.says (byte ∷ more)) = prefix-trans q.part h.said (now.says (byte ∷ more)) first (said-first now (left_by over next) (byte ∷ []) more h.said h.goes_on) in
      record {
        said = p.said ++ q.part;
        sends = sends-on p.said q.part x y z p.sends q.sends;
        part = subst (λ (b : List ℕ). IsPrefix (p.said ++ q.part) (a.says b)) all (said-part a now done (byte ∷ more) p.said q.part p.goes_on then);
      }

-- the talk ended before the last of the bytes
pub answered-early : (a : Answers) (bytes done more : List ℕ) (x y : List Passed) → done ++ more ≡ bytes → IsAnswered a done no_more x y → IsAnswered a bytes no_more x y
answered-early a bytes done more x y all p = record {
  said = p.said;
  sends = p.sends;
  goes_on = subst (λ (b : List ℕ). GoesOn a b p.said no_more) all (goes_on-over a done more p.said p.goes_on);
}

-- memory ran out
pub part-none : (a now : Answers) (bytes done more : List ℕ) (x y : List Passed) → done ++ more ≡ bytes → IsAnswered a done now x y → IsAnsweredInPart a bytes x y
part-none a now bytes done more x y all p = record {
  said = p.said;
  sends = p.sends;
  part = subst (λ (b : List ℕ). IsPrefix p.said (a.says b)) all (said-first a now done more p.said p.goes_on);
}
