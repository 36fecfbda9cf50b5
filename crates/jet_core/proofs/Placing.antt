-- A core and the links beside it, at their places of a line.
use Rattle.std.proofs.Common.{◌≡◌, ℕ, zero, suc, ◌+◌, ◌<◌, add-one, get_or-set_other, List, [], ◌∷◌, ◌++◌, map, length, set, get_or, refl, ap, sym, subst, subst₂, ◌∙◌, arith}
use Rattle.std.proofs.lemmas.List.{set-set, set_at, get_or_at, get_or_default}
use Rattle.run_board.specs.declared.task.Turn.{Turn}
use Rattle.epoch_node.specs.Cores.{CoreView}
use Rattle.epoch_node.specs.Keeping.{KeepsCore}
use Rattle.jet_core.specs.declared.joints.Joint.{Joint}
use Rattle.jet_core.specs.Joints.{no_joint, joint_at, traffic_between}
use Rattle.jet_core.specs.Turns.{TurnsBetween, TurnsOne, KeepsAt, TurnsAt}

-- what was taken out at two places is put back
pub put_back : {X : Type 0} (l : List X) (p : ℕ) (a b c d : X) → set (set (set (set l p a) (suc p) b) p c) (suc p) d ≡ set (set l p c) (suc p) d
put_back [] p a b c d = refl
put_back (x ∷ l) zero a b c d = ap (λ m. c ∷ m) (set-set l 0 b d)
put_back (x ∷ l) (suc p) a b c d = ap (λ m. x ∷ m) (put_back l p a b c d)

pub map_get : {X Y : Type 0} (f : X → Y) (l : List X) (p : ℕ) (x : X) → get_or l p x ≡ x → get_or (map f l) p (f x) ≡ f x
map_get f [] p x e = refl
map_get f (y ∷ l) zero x e = ap f e
map_get f (y ∷ l) (suc p) x e = map_get f l p x e

pub keeps_placed : (place : ℕ) (cs : List CoreView) (js : List Joint) (c : CoreView) (j i : Joint) → KeepsAt place cs js → get_or cs place c ≡ c → get_or js place j ≡ j → get_or js (suc place) i ≡ i
    → KeepsCore c (traffic_between j i)
keeps_placed zero (c₀ ∷ cs) (j₀ ∷ i₀ ∷ js) c j i k a b d =
    subst (λ (c : CoreView). KeepsCore c (traffic_between j i)) a (subst₂ (λ (j i : Joint). KeepsCore c₀ (traffic_between j i)) b d k)
keeps_placed (suc place) (c₀ ∷ cs) (j₀ ∷ i₀ ∷ js) c j i k a b d = keeps_placed place cs (i₀ ∷ js) c j i k a b d
keeps_placed place cs js c j i k a b d = absurd k

pub turns_placed : (place : ℕ) (cs : List CoreView) (js : List Joint) (c : CoreView) (j i : Joint) (c' : CoreView) (j' i' : Joint) (answer : Turn) → KeepsAt place cs js
    → get_or cs place c ≡ c → get_or js place j ≡ j → get_or js (suc place) i ≡ i → TurnsBetween c j i c' j' i' answer
    → TurnsAt place cs js (set cs place c') (set (set js place j') (suc place) i')
turns_placed zero (c₀ ∷ cs) (j₀ ∷ i₀ ∷ js) c j i c' j' i' answer k a b d t = record {
  core = c';
  previous = j';
  next = i';
  answer = answer;
  cores_are = refl;
  joints_are = refl;
  turns = subst (λ (c : CoreView). TurnsBetween c j₀ i₀ c' j' i' answer) (sym a) (subst₂ (λ (j i : Joint). TurnsBetween c j i c' j' i' answer) (sym b) (sym d) t);
}
turns_placed (suc place) (c₀ ∷ cs) (j₀ ∷ i₀ ∷ js) c j i c' j' i' answer k a b d t = record {
  cores = set cs place c';
  joints = set (set (i₀ ∷ js) place j') (suc place) i';
  cores_are = refl;
  joints_are = refl;
  later = turns_placed place cs (i₀ ∷ js) c j i c' j' i' answer k a b d t;
}
turns_placed place cs js c j i c' j' i' answer k a b d t = absurd k

pub turns_count : (place : ℕ) (cs : List CoreView) (js : List Joint) (cs' : List CoreView) (js' : List Joint) → TurnsAt place cs js cs' js' → length cs' ≡ length cs
turns_count zero (c ∷ cs) (j ∷ i ∷ js) cs' js' t = ap length t.cores_are
turns_count (suc place) (c ∷ cs) (j ∷ i ∷ js) cs' js' t = ap length t.cores_are ∙ ap suc (turns_count place cs (i ∷ js) t.cores t.joints t.later)
turns_count place cs js cs' js' t = absurd t

pub put_back_at : {X : Type 0} (l : List X) (p : ℕ) (a b c d : X) → set (set (set (set l p a) (p + 1) b) p c) (p + 1) d ≡ set (set l p c) (p + 1) d
put_back_at l p a b c d = subst (λ (q : ℕ). set (set (set (set l p a) q b) p c) q d ≡ set (set l p c) q d) (sym (add-one p)) (put_back l p a b c d)

-- an item that was looked up is that at its place
pub looked_up : {X : Type 0} (l : List X) (p : ℕ) (x y d : X) → x ≡ y → y ≡ get_or l p y → p < length l → x ≡ get_or l p d
looked_up l p x y d e v b = e ∙ v ∙ get_or_default l p y d b

-- also after that before it was changed
pub looked_next : {X : Type 0} (l : List X) (p : ℕ) (a x y d : X) → x ≡ y → y ≡ get_or (set l p a) (p + 1) y → p + 1 < length l → x ≡ get_or l (p + 1) d
looked_next l p a x y d e v b = e ∙ v ∙ get_or-set_other l p (p + 1) a y (λ h. omega (arith, h)) ∙ get_or_default l (p + 1) y d b

at_itself : {X : Type 0} (l : List X) (p : ℕ) (d : X) → get_or l p (get_or l p d) ≡ get_or l p d
at_itself [] p d = refl
at_itself (x ∷ l) zero d = refl
at_itself (x ∷ l) (suc p) d = at_itself l p d

pub keeps_one : (place : ℕ) (cs : List CoreView) (js : List Joint) (c : CoreView) → KeepsAt place cs js → get_or cs place c ≡ c → KeepsCore c (traffic_between (joint_at js place) (joint_at js (place + 1)))
keeps_one place cs js c k a =
    subst (λ (q : ℕ). KeepsCore c (traffic_between (joint_at js place) (joint_at js q))) (sym (add-one place))
    (keeps_placed place cs js c (joint_at js place) (joint_at js (suc place)) k a (at_itself js place no_joint) (at_itself js (suc place) no_joint))

pub turns_one : (place : ℕ) (cs : List CoreView) (js : List Joint) (c c' : CoreView) (js' : List Joint) → KeepsAt place cs js → get_or cs place c ≡ c → TurnsOne c js place c' js' → TurnsAt place cs js (set cs place c') js'
turns_one place cs js c c' js' k a t =
    subst (λ (ks : List Joint). TurnsAt place cs js (set cs place c') ks) (sym (t.joints_are ∙ ap (λ (q : ℕ). set (set js place t.previous) q t.next) (add-one place)))
    (turns_placed place cs js c (joint_at js place) (joint_at js (suc place)) c' t.previous t.next t.answer k a (at_itself js place no_joint) (at_itself js (suc place) no_joint)
    (subst (λ (q : ℕ). TurnsBetween c (joint_at js place) (joint_at js q) c' t.previous t.next t.answer) (add-one place) t.turns))

-- the core after these
module _ (front rest : List CoreView) (c : CoreView) (place : ℕ) (e : place ≡ length front) (js : List Joint) (k : KeepsAt (length front) (front ++ c ∷ rest) js) where
  pub keeps_next : KeepsCore c (traffic_between (joint_at js place) (joint_at js (place + 1)))
  keeps_next =
      subst (λ (n : ℕ). KeepsCore c (traffic_between (joint_at js n) (joint_at js (n + 1)))) (sym e)
      (keeps_one (length front) (front ++ c ∷ rest) js c k (get_or_at front c rest c (length front) refl))

  pub turns_next : (c' : CoreView) (js' : List Joint) → TurnsOne c js place c' js' → TurnsAt (length front) (front ++ c ∷ rest) js (front ++ c' ∷ rest) js'
  turns_next c' js' t =
      subst (λ (cs : List CoreView). TurnsAt (length front) (front ++ c ∷ rest) js cs js') (set_at front c rest c' (length front) refl)
      (turns_one (length front) (front ++ c ∷ rest) js c c' js' k (get_or_at front c rest c (length front) refl)
      (subst (λ (n : ℕ). TurnsOne c js n c' js') e t))
