-- Talks over a wire, one call after another.
use Rattle.std.proofs.Common.{◌≡◌, ◌<◌, ◌∙◌, arith, ap, sym, refl, subst, ℕ, Bool, true, false, ◌||◌, List, [], ◌∷◌, ◌++◌, map, drop, length, ap₂, inl, inr, append_assoc, append-nil}
use Rattle.std.specs.Prelude.{◌⊎◌, ◌≤◌, Option, Err}
use Rattle.no_memory.specs.declared.Fault.{Fault}
use Rattle.no_memory.specs.declared.Fault.TheVariants.{At, NoMemory}
use Rattle.no_memory.specs.Faults.{IsOutOfMemory}
use Rattle.outer_io.specs.Faults.{Rose}
use Rattle.outer_io.specs.Tells.{Tells, Gains, IsPrefix}
use Rattle.outer_io.proofs.TellsLemmas.{prefix-front, tells-then, tells-map, tells-same}
use Rattle.outer_io.specs.TellsLaws.{prefix-rest}
use Rattle.outer_wire.specs.Wires.{Passed, Came, Went, came, went, is_at_end, received, WireShown}
use Rattle.outer_wire.specs.declared.broken.Broken.{Broken}
use Rattle.outer_wire.specs.declared.broken.Broken.TheVariants.{Receiving, Sending}
use Rattle.outer_wire.specs.Sending.{Sends}
use Rattle.outer_wire.specs.Talks.{Answers, GoesOn, no_more, left_by, is_over, IsInTurn, IsTalk, IsTalkInPart, IsWholeTalk, Gained, is_talk_by, faults_by, Talks}
use Rattle.outer_wire.specs.Answering.{IsAnswered, IsAnsweredInPart, answered_by}
use Rattle.outer_wire.proofs.History.{came-append, went-append, end-append, came-pieces, end-pieces, received-some}

-- ---- who answers, after some bytes

pub goes_on-nothing : (a : Answers) → GoesOn a [] [] a
goes_on-nothing a = record { says = λ after. refl; ends = λ after. refl }

pub goes_on-then : (a b c : Answers) (xs ys s t : List ℕ) → GoesOn a xs s b → GoesOn b ys t c → GoesOn a (xs ++ ys) (s ++ t) c
goes_on-then a b c xs ys s t p q = record {
  says = λ after. ap a.says (append_assoc xs ys after) ∙ p.says (ys ++ after) ∙ ap (λ (w : List ℕ). s ++ w) (q.says after) ∙ sym (append_assoc s t (c.says after));
  ends = λ after. ap a.ends (append_assoc xs ys after) ∙ p.ends (ys ++ after) ∙ q.ends after;
}

-- where the talk has ended, nothing is said in answer to what comes after
pub goes_on-over : (a : Answers) (xs ys s : List ℕ) → GoesOn a xs s no_more → GoesOn a (xs ++ ys) s no_more
goes_on-over a xs ys s p = record {
  says = λ after. ap a.says (append_assoc xs ys after) ∙ p.says (ys ++ after);
  ends = λ after. ap a.ends (append_assoc xs ys after) ∙ p.ends (ys ++ after);
}

-- what was said is the beginning of what is said in answer to all
pub said-first : (a b : Answers) (xs more s : List ℕ) → GoesOn a xs s b → IsPrefix s (a.says (xs ++ more))
said-first a b xs more s p = prefix-front s (b.says more) (a.says (xs ++ more)) (sym (p.says more))

-- and so is the beginning of what is said then
pub said-part : (a b : Answers) (xs ys s part : List ℕ) → GoesOn a xs s b → IsPrefix part (b.says ys) → IsPrefix (s ++ part) (a.says (xs ++ ys))
said-part a b xs ys s part p q =
    prefix-front (s ++ part) (drop (length part) (b.says ys)) (a.says (xs ++ ys))
    (append_assoc s part (drop (length part) (b.says ys)) ∙ ap (λ (w : List ℕ). s ++ w) (prefix-rest part (b.says ys) q) ∙ sym (p.says ys))

-- ---- the last of what passed

abbrev tail : {A : Type 0} → List A → List A
tail [] = []
tail (x ∷ xs) = xs

no_nil : {A : Type 0} (before after : List A) (y : A) → [] ≡ before ++ y ∷ after → ⊥
no_nil [] after y e = cc
no_nil (b ∷ before) after y e = cc

-- one of a list that was made one longer is the last one, or was there before
snoc : {A : Type 0} (xs before after : List A) (x y : A) → xs ++ x ∷ [] ≡ before ++ y ∷ after
    → ((before ≡ xs) × (x ≡ y)) ⊎ ((rest : List A) × (xs ≡ before ++ y ∷ rest))
snoc [] [] after x y e = inl (refl, cc)
snoc [] (b ∷ before) after x y e = absurd (no_nil before after y (ap tail e))
snoc (a ∷ xs) [] after x y e = let same : a ≡ y = cc in inr (xs, ap (λ (z : _). z ∷ xs) same)
snoc (a ∷ xs) (b ∷ before) after x y e = by (snoc xs before after x y (ap tail e)) cc where
  by : ((before ≡ xs) × (x ≡ y)) ⊎ ((rest : List _) × (xs ≡ before ++ y ∷ rest)) → a ≡ b
      → ((b ∷ before ≡ a ∷ xs) × (x ≡ y)) ⊎ ((rest : List _) × (a ∷ xs ≡ b ∷ (before ++ y ∷ rest)))
  by (inl p) same = inl (ap₂ (λ z zs. z ∷ zs) (sym same) p.0, p.1)
  by (inr p) same = inr (p.0, ap₂ (λ z zs. z ∷ zs) same p.1)

-- ---- each answer before more came

in_turn-nothing : (a : Answers) → IsInTurn a []
in_turn-nothing a before after bytes e = absurd (no_nil before after (Came bytes) e)

in_turn-sent : (a : Answers) (xs : List Passed) (piece : List ℕ) → IsInTurn a xs → IsInTurn a (xs ++ Went piece ∷ [])
in_turn-sent a xs piece p before after bytes e = by (snoc xs before after (Went piece) (Came bytes) e) where
  by : ((before ≡ xs) × (Went piece ≡ Came bytes)) ⊎ ((rest : List Passed) × (xs ≡ before ++ Came bytes ∷ rest))
      → (went before ≡ a.says (came before)) × (is_over a before ≡ false)
  by (inl q) = cc
  by (inr q) = p before q.0 bytes q.1

in_turn-pieces : (a : Answers) (xs : List Passed) (pieces : List (List ℕ)) → IsInTurn a xs → IsInTurn a (xs ++ map Went pieces)
in_turn-pieces a xs [] p = subst (IsInTurn a) (sym (append-nil xs)) p
in_turn-pieces a xs (piece ∷ pieces) p =
    subst (IsInTurn a) (append_assoc xs (Went piece ∷ []) (map Went pieces))
    (in_turn-pieces a (xs ++ Went piece ∷ []) pieces (in_turn-sent a xs piece p))

in_turn-came : (a : Answers) (xs : List Passed) (got : List ℕ) → went xs ≡ a.says (came xs) → is_over a xs ≡ false
    → IsInTurn a xs → IsInTurn a (xs ++ Came got ∷ [])
in_turn-came a xs got whole still p before after bytes e = by (snoc xs before after (Came got) (Came bytes) e) where
  by : ((before ≡ xs) × (Came got ≡ Came bytes)) ⊎ ((rest : List Passed) × (xs ≡ before ++ Came bytes ∷ rest))
      → (went before ≡ a.says (came before)) × (is_over a before ≡ false)
  by (inl q) = (ap went q.0 ∙ whole ∙ ap (λ (w : List Passed). a.says (came w)) (sym q.0), ap (is_over a) q.0 ∙ still)
  by (inr q) = p before q.0 bytes q.1

or_true : (b : Bool) → (b || true) ≡ true
or_true true = refl
or_true false = refl

-- ---- where a talk stands

-- this passed, and who answered is so now
pub record IsAt (first now : Answers) (passed : List Passed) : Type 0 where
  pub goes_on : GoesOn first (came passed) (went passed) now
  pub in_turn : IsInTurn first passed
  pub not_at_end : is_at_end passed ≡ false

pub record StandsAt (first now : Answers) (x y : List Passed) : Type 0 where
  pub passed : List Passed
  pub gains : y ≡ x ++ passed
  pub stands : IsAt first now passed

pub begins : (a : Answers) (x : List Passed) → StandsAt a a x x
begins a x = record { passed = []; gains = sym (append-nil x); stands = record { goes_on = goes_on-nothing a; in_turn = in_turn-nothing a; not_at_end = refl } }

-- nothing is said in answer to nothing
pub record IsWaiting (now : Answers) : Type 0 where
  pub silent : now.says [] ≡ []
  pub still : now.ends [] ≡ false

module _ (first now : Answers) (passed : List Passed) (p : IsAt first now passed) where
  module _ (w : IsWaiting now) where
    said_all : went passed ≡ first.says (came passed)
    said_all =
        sym (append-nil (went passed)) ∙ ap (λ (s : List ℕ). went passed ++ s) (sym w.silent) ∙ sym (p.goes_on.says []) ∙ ap first.says (append-nil (came passed))

    not_over : is_over first passed ≡ false
    not_over =
        ap (λ (c : List ℕ). first.ends c || is_at_end passed) (sym (append-nil (came passed)))
        ∙ ap (λ (b : Bool). b || is_at_end passed) (p.goes_on.ends [] ∙ w.still) ∙ p.not_at_end

    -- bytes could not be received
    pub talk-so_far : IsTalk first passed
    talk-so_far = record { whole = said_all; in_turn = p.in_turn }

    -- bytes came
    pub in_turn-then : (got : List ℕ) → IsInTurn first (passed ++ Came got ∷ [])
    in_turn-then got = in_turn-came first passed got said_all not_over p.in_turn

    -- the wire was found at its end
    pub talk-at_end : IsWholeTalk first (passed ++ Came [] ∷ [])
    talk-at_end = record {
      talk = record {
        whole = went-append passed (Came [] ∷ []) ∙ append-nil (went passed) ∙ said_all
            ∙ ap first.says (sym (append-nil (came passed)) ∙ sym (came-append passed (Came [] ∷ [])));
        in_turn = in_turn-then [];
      };
      over = ap (λ (b : Bool). first.ends (came (passed ++ Came [] ∷ [])) || b) (end-append passed (Came [] ∷ []) ∙ or_true (is_at_end passed)) ∙ or_true (first.ends (came (passed ++ Came [] ∷ [])));
    }

  -- bytes came, and all was said in answer to them
  module _ (got : List ℕ) (pieces : List (List ℕ)) where
    abbrev pub more : List Passed
    more = Came got ∷ map Went pieces

    came_more : came (passed ++ more) ≡ came passed ++ got
    came_more = came-append passed more ∙ ap (λ (c : List ℕ). came passed ++ (got ++ c)) (came-pieces pieces) ∙ ap (λ (c : List ℕ). came passed ++ c) (append-nil got)

    went_more : (said : List ℕ) → went (map Went pieces) ≡ said → went (passed ++ more) ≡ went passed ++ said
    went_more said e = went-append passed more ∙ ap (λ (s : List ℕ). went passed ++ s) e

    in_turn_more : IsWaiting now → IsInTurn first (passed ++ more)
    in_turn_more w =
        subst (IsInTurn first) (append_assoc passed (Came got ∷ []) (map Went pieces))
        (in_turn-pieces first (passed ++ Came got ∷ []) pieces (in_turn-then w got))

    goes_on_more : (said : List ℕ) (rest : Answers) → went (map Went pieces) ≡ said → GoesOn now got said rest
        → GoesOn first (came (passed ++ more)) (went (passed ++ more)) rest
    goes_on_more said rest e g =
        rw (came_more, went_more said e) (goes_on-then first now rest (came passed) got (went passed) said p.goes_on g)

    pub talk-on : (said : List ℕ) (next : Answers) → IsWaiting now → went (map Went pieces) ≡ said → GoesOn now got said next → 0 < length got
        → IsAt first next (passed ++ more)
    talk-on said next w e g some = record {
      goes_on = goes_on_more said next e g;
      in_turn = in_turn_more w;
      not_at_end = end-append passed more ∙ ap (λ (b : Bool). b || is_at_end more) p.not_at_end ∙ by got some;
    } where
      by : (bytes : List ℕ) → 0 < length bytes → is_at_end (Came bytes ∷ map Went pieces) ≡ false
      by [] h = absurd (omega (arith, h))
      by (byte ∷ bytes) h = end-pieces pieces

    pub talk-over : (said : List ℕ) → IsWaiting now → went (map Went pieces) ≡ said → GoesOn now got said no_more → IsWholeTalk first (passed ++ more)
    talk-over said w e g =
        let on = goes_on_more said no_more e g in
        let all : (f : List ℕ → List ℕ) → f (came (passed ++ more) ++ []) ≡ f (came (passed ++ more)) = λ f. ap f (append-nil (came (passed ++ more))) in
        record {
          talk = record {
            whole = sym (append-nil (went (passed ++ more))) ∙ sym (on.says []) ∙ all first.says;
            in_turn = in_turn_more w;
          };
          over = ap (λ (b : Bool). b || is_at_end (passed ++ more)) (ap first.ends (sym (append-nil (came (passed ++ more)))) ∙ on.ends []);
        }

    pub talk-part : (part : List ℕ) → IsWaiting now → went (map Went pieces) ≡ part → IsPrefix part (now.says got) → IsTalkInPart first (passed ++ more)
    talk-part part w e q = record {
      part = rw (came_more, went_more part e) (said-part first now (came passed) got (went passed) part p.goes_on q);
      in_turn = in_turn_more w;
    }

-- memory ran out
pub part-so_far : (first now : Answers) (passed : List Passed) → IsAt first now passed → IsTalkInPart first passed
part-so_far first now passed p = record {
  part = subst (λ (c : List ℕ). IsPrefix (went passed) (first.says c)) (append-nil (came passed)) (said-first first now (came passed) [] (went passed) p.goes_on);
  in_turn = p.in_turn;
}

-- ---- the same of what a wire tells

-- a talk that stands so, and then bytes came
pub record HasCome (first now : Answers) (got : List ℕ) (old new : List Passed) : Type 0 where
  pub between : List Passed
  pub stands : StandsAt first now old between
  pub came_then : new ≡ between ++ Came got ∷ []

module _ (first now : Answers) where
  failed : (x y z : List Passed) → IsWaiting now → StandsAt first now x y → Gains [] y z → Gained (IsTalk first) x z
  failed x y z w p e = record { passed = p.passed; gains = e ∙ append-nil y ∙ p.gains; so = talk-so_far first now p.passed p.stands w }

  at_end : (x y : List Passed) → IsWaiting now → HasCome first now [] x y → Gained (IsWholeTalk first) x y
  at_end x y w h = let p = h.stands in record {
    passed = p.passed ++ Came [] ∷ [];
    gains = h.came_then ∙ ap (λ (o : List Passed). o ++ Came [] ∷ []) p.gains ∙ append_assoc x p.passed (Came [] ∷ []);
    so = talk-at_end first now p.passed p.stands w;
  }

  stopped : (x y : List Passed) → StandsAt first now x y → Gained (IsTalkInPart first) x y
  stopped x y p = record { passed = p.passed; gains = p.gains; so = part-so_far first now p.passed p.stands }

  -- bytes came, and this was said in answer
  module _ (got : List ℕ) (x z v : List Passed) (w : IsWaiting now) (h : HasCome first now got x z) where
    all_passed : (said : List ℕ) (q : Sends said z v) → v ≡ x ++ (h.stands.passed ++ Came got ∷ map Went q.pieces)
    all_passed said q =
        q.gains ∙ ap (λ (o : List Passed). o ++ map Went q.pieces) (h.came_then ∙ ap (λ (o : List Passed). o ++ Came got ∷ []) h.stands.gains)
        ∙ append_assoc (x ++ h.stands.passed) (Came got ∷ []) (map Went q.pieces) ∙ append_assoc x h.stands.passed (Came got ∷ map Went q.pieces)

    on : (next : Answers) → 0 < length got → IsAnswered now got next z v → StandsAt first next x v
    on next some q = record {
      passed = h.stands.passed ++ Came got ∷ map Went q.sends.pieces;
      gains = all_passed q.said q.sends;
      stands = talk-on first now h.stands.passed h.stands.stands got q.sends.pieces q.said next w q.sends.whole q.goes_on some;
    }

    ended : IsAnswered now got no_more z v → Gained (IsWholeTalk first) x v
    ended q = record {
      passed = h.stands.passed ++ Came got ∷ map Went q.sends.pieces;
      gains = all_passed q.said q.sends;
      so = talk-over first now h.stands.passed h.stands.stands got q.sends.pieces q.said w q.sends.whole q.goes_on;
    }

    part : IsAnsweredInPart now got z v → Gained (IsTalkInPart first) x v
    part q = record {
      passed = h.stands.passed ++ Came got ∷ map Went q.sends.pieces;
      gains = all_passed q.said q.sends;
      so = talk-part first now h.stands.passed h.stands.stands got q.sends.pieces q.said w q.sends.whole q.part;
    }

  module _ (a b : Option (List Passed)) where
    pub told-failed : (c : Option (List Passed)) → IsWaiting now → Tells a b (StandsAt first now) → Tells b c (Gains []) → Tells a c (Gained (IsTalk first))
    told-failed c w = tells-then a b c (StandsAt first now) (Gains []) (Gained (IsTalk first)) (λ x y z. failed x y z w)

    pub told-stopped : Tells a b (StandsAt first now) → Tells a b (Gained (IsTalkInPart first))
    told-stopped = tells-map a b (StandsAt first now) (Gained (IsTalkInPart first)) stopped

    -- bytes are received into a buffer with room
    pub told-came : (c : Option (List Passed)) (room : ℕ) (got : List ℕ) → 0 < room → Tells a b (StandsAt first now) → Tells b c (Gains (received room got)) → Tells a c (HasCome first now got)
    told-came c room got some = tells-then a b c (StandsAt first now) (Gains (received room got)) (HasCome first now got)
        (λ x y z p e. record { between = y; stands = p; came_then = e ∙ ap (λ (o : List Passed). y ++ o) (received-some room got some) })

    pub told-at_end : IsWaiting now → (got : List ℕ) → got ≡ [] → Tells a b (HasCome first now got) → Tells a b (Gained (IsWholeTalk first))
    told-at_end w [] none = tells-map a b (HasCome first now []) (Gained (IsWholeTalk first)) (λ x y. at_end x y w)
    told-at_end w (byte ∷ got) none = cc

    module _ (c : Option (List Passed)) (got : List ℕ) (w : IsWaiting now) (h : Tells a b (HasCome first now got)) where
      pub told-on : (next : Answers) (over : Bool) → over ≡ false → 0 < length got → Tells b c (IsAnswered now got (left_by over next)) → Tells a c (StandsAt first next)
      told-on next true is some = cc
      told-on next false is some = tells-then a b c (HasCome first now got) (IsAnswered now got next) (StandsAt first next) (λ x z v e. on got x z v w e next some) h

      pub told-over : (next : Answers) (over : Bool) → over ≡ true → Tells b c (IsAnswered now got (left_by over next)) → Tells a c (Gained (IsWholeTalk first))
      told-over next false is = cc
      told-over next true is = tells-then a b c (HasCome first now got) (IsAnswered now got no_more) (Gained (IsWholeTalk first)) (λ x z v. ended got x z v w) h

      -- it was broken off
      pub told-broken : (next : Answers) (fault : Fault Broken) → Tells b c (answered_by (Err fault) now next got) → Tells a c (Gained (is_talk_by {T = Unit {0}} (Err fault) first))
      told-broken next (At Receiving) =
          tells-then a b c (HasCome first now got) (λ x y. ⊥) (Gained (IsTalk first)) (λ x z v e f. absurd f) h
      told-broken next (At Sending) =
          tells-then a b c (HasCome first now got) (IsAnsweredInPart now got) (Gained (IsTalkInPart first)) (λ x z v. part got x z v w) h
      told-broken next (NoMemory no_memory) =
          tells-then a b c (HasCome first now got) (IsAnsweredInPart now got) (Gained (IsTalkInPart first)) (λ x z v. part got x z v w) h

-- ---- causes

pub faults-then : (a b c : ℕ) (fault : Fault Broken) → b ≡ a → faults_by {T = Bool} (Err fault) b c → faults_by {T = Unit {0}} (Err fault) a c
faults-then a b c (At broken) same f = subst (λ (n : ℕ). (n ≤ c) × Rose n c) same f
faults-then a b c (NoMemory no_memory) same f = f ∙ same

-- memory ran out before anything was received
pub not_begun : (a : Answers) (w : WireShown) (fault : Fault Broken) → IsOutOfMemory fault → Talks {T = Unit {0}} a w w (Err fault)
not_begun a w (At broken) out = absurd out
not_begun a w (NoMemory no_memory) out = record {
  told = told-stopped a a w.history w.history (tells-same w.history (StandsAt a a) (begins a));
  faults = refl;
}
