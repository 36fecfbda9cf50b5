-- The bytes that a read received, labelled one after another.
use Rattle.std.proofs.Common.{◌≡◌, ◌<◌, ◌≤◌, ◌+◌, ◌-◌, ◌^◌, nat_lt, ℕ, refl, arith, ap, sym, ◌∙◌, subst, Bool, true, false, if◌then◌else◌}
use Rattle.std.proofs.lemmas.Bool.{ltb-true, ltb-false}
use Rattle.flow_model.specs.declared.Loc.{Loc}
use Rattle.flow_model.specs.declared.Loc.TheVariants.{Reg, Mem}
use Rattle.flow_model.specs.declared.CallSeen.{CallSeen}
use Rattle.flow_model.specs.Flow.{distance}
use Rattle.flow_model.specs.Origins.{Policy, byte_at}
use Rattle.flow_model.specs.Ranges.{IsLocation}
use Rattle.taint_shadow.specs.declared.lanes.Lanes.{Lanes}
use Rattle.taint_shadow.specs.declared.places.Places.{Places}
use Rattle.taint_shadow.specs.Labels.{LabelWords, MakesLabel}
use Rattle.taint_shadow.specs.Lanes.{lane_at, MakesLanes}
use Rattle.taint_shadow.specs.Places.{kept, AreKept, with_word}
use Rattle.taint_shadow.specs.Steps.{AreStanding, Becomes, introduced, introduced_lane, received}
use Rattle.taint_shadow.proofs.Meaning.{keeps_itself, keeps_then}

module _ {A M : Type 0} (words : LabelWords A M) (policy : Policy) (call : CallSeen) where
  -- so many of them are labelled
  pub record IsReceived (a : A) (p : Places) (b : A) (q : Places) (n : ℕ) : Type 0 where
    pub within : n ≤ call.length
    pub becomes : Becomes words a p b q (received words policy call n)

  pub none_received : (a : A) (p : Places) → AreStanding words a p → Becomes words a p a p (received words policy call 0)
  none_received a p standing = record {
    holds = λ f h. record { at = λ l here. h.at l here ∙ none f l };
    standing = standing;
    keeps = keeps_itself words a;
  }
    where
      none : (f : Loc → M) (l : Loc) → f l ≡ received words policy call 0 f l
      none f (Reg r i) = refl
      none f (Mem m) = let no : nat_lt (distance call.place m) 0 ≡ false = grind arith in sym (ap (λ (o : Bool). if o then introduced words policy (byte_at call (Mem m)) else f (Mem m)) no)

  -- more of them, at most four
  pub word_received : (a b c : A) (p q r : Places) (i n : ℕ) (x : Lanes) → n ≤ 4 → i + n ≤ call.length → call.place + i + n ≤ 2 ^ 32
      → Becomes words a p b q (received words policy call i) → MakesLanes words b 4 (introduced_lane words policy call i) c x
      → AreKept r (with_word (call.place + i) n x (kept q)) → Becomes words a p c r (received words policy call (i + n))
  word_received a b c p q r i n x few more inside before made put = record {
    holds = λ f h. record { at = λ l here. means f l here ((before.holds f h).at l here) };
    standing = record { at = λ l here. stands l here };
    keeps = keeps_then words a b c before.keeps made.keeps;
  }
    where
      old : (l : Loc) → IsLocation l → MakesLabel words c (words.means b (kept q l)) (kept q l)
      old l here = made.keeps (kept q l) (before.standing.at l here)

      put_at : (m : ℕ) (o : Bool) → nat_lt (distance (call.place + i) m) n ≡ o → IsLocation (Mem m)
          → kept r (Mem m) ≡ (if o then lane_at x (distance (call.place + i) m) else kept q (Mem m))
      put_at m o e here = put.at (Mem m) here ∙ ap (λ (o : Bool). if o then lane_at x (distance (call.place + i) m) else kept q (Mem m)) e

      new_lane : (m : ℕ) → nat_lt (distance (call.place + i) m) n ≡ true
          → MakesLabel words c (introduced_lane words policy call i (distance (call.place + i) m)) (lane_at x (distance (call.place + i) m))
      new_lane m e = let near : distance (call.place + i) m < n = ltb-true _ _ e in made.made (distance (call.place + i) m) (omega (arith, near, few))

      stands : (l : Loc) → IsLocation l → words.stands c (kept r l)
      stands (Reg k j) here = subst (words.stands c) (sym (put.at (Reg k j) here)) (old (Reg k j) here).stands
      stands (Mem m) here = by (nat_lt (distance (call.place + i) m) n) refl where
        by : (o : Bool) → nat_lt (distance (call.place + i) m) n ≡ o → words.stands c (kept r (Mem m))
        by true e = subst (words.stands c) (sym (put_at m true e here)) (new_lane m e).stands
        by false e = subst (words.stands c) (sym (put_at m false e here)) (old (Mem m) here).stands

      means : (f : Loc → M) (l : Loc) → IsLocation l → words.means b (kept q l) ≡ received words policy call i f l → words.means c (kept r l) ≡ received words policy call (i + n) f l
      means f (Reg k j) here was = ap (words.means c) (put.at (Reg k j) here) ∙ (old (Reg k j) here).means ∙ was
      means f (Mem m) here was = by (nat_lt (distance (call.place + i) m) n) refl where
        by : (o : Bool) → nat_lt (distance (call.place + i) m) n ≡ o → words.means c (kept r (Mem m)) ≡ received words policy call (i + n) f (Mem m)
        by true e =
            let k = distance (call.place + i) m in
            let near : k < n = ltb-true _ _ e in
            let far : call.offset + i + k ≡ call.offset + distance call.place m = omega (arith, near, inside, here) in
            let last : nat_lt (distance call.place m) (i + n) ≡ true = grind arith in
            let some : nat_lt k (call.length - i) ≡ true = grind arith in
            ap (words.means c) (put_at m true e here) ∙ (new_lane m e).means
            ∙ ap (λ (o : Bool). if o then introduced words policy (record { channel = call.channel; offset = call.offset + i + k }) else words.nothing) some
            ∙ ap (λ (o : ℕ). introduced words policy (record { channel = call.channel; offset = o })) far
            ∙ sym (ap (λ (o : Bool). if o then introduced words policy (byte_at call (Mem m)) else f (Mem m)) last)
        by false e =
            let away : n ≤ distance (call.place + i) m = ltb-false _ _ e in
            let same : nat_lt (distance call.place m) i ≡ nat_lt (distance call.place m) (i + n) = grind arith in
            ap (words.means c) (put_at m false e here) ∙ (old (Mem m) here).means ∙ was
            ∙ ap (λ (o : Bool). if o then introduced words policy (byte_at call (Mem m)) else f (Mem m)) same
