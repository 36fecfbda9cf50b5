-- Labels that were made stand and mean the same, whatever is made after them; what locations have together is united as sets are.
use Rattle.std.proofs.Common.{◌≡◌, ◌<◌, ◌==◌, ℕ, zero, suc, List, [], ◌∷◌, refl, arith, ap, ap₂, sym, ◌∙◌, subst, Bool, true, false, if◌then◌else◌}
use Rattle.std.specs.List.{AllByRecursion}
use Rattle.std.specs.declared.cmp.Ordering.{Ordering}
use Rattle.std.specs.declared.cmp.Ordering.TheVariants.{Less, Equal, Greater}
use Rattle.flow_model.specs.declared.Loc.{Loc}
use Rattle.flow_model.specs.declared.Loc.TheVariants.{Reg}
use Rattle.flow_model.specs.Flow.{lane, lanes}
use Rattle.flow_model.specs.Orders.{loc_cmp}
use Rattle.flow_model.specs.Ranges.{IsLocation}
use Rattle.flow_model.proofs.Orders.{loc_same}
use Rattle.lists.specs.Sets.{union, inserted, placed}
use Rattle.lists.proofs.Algebra.{All-union}
use Rattle.taint_shadow.specs.declared.labels.Label.{Label}
use Rattle.taint_shadow.specs.declared.lanes.Lanes.{Lanes}
use Rattle.taint_shadow.specs.declared.places.Places.{Places}
use Rattle.taint_shadow.specs.Labels.{LabelWords, Laws, MakesLabel, KeepsLabels, Makes, mean_together, nothing_label}
use Rattle.taint_shadow.specs.Lanes.{lane_at, alike, all_mean, LanesStand}
use Rattle.taint_shadow.specs.Places.{kept, origin_lane, origin_lanes}
use Rattle.taint_shadow.specs.Steps.{meaning_at, AreStanding, Holds, united_over}

-- what holds of the first four numbers holds of each below 4
pub each_of_four : (P : ℕ → Type 0) → P 0 → P 1 → P 2 → P 3 → (i : ℕ) → i < 4 → P i
each_of_four P a b c d zero h = a
each_of_four P a b c d (suc zero) h = b
each_of_four P a b c d (suc (suc zero)) h = c
each_of_four P a b c d (suc (suc (suc zero))) h = d
each_of_four P a b c d (suc (suc (suc (suc i)))) h = absurd (omega (arith, h))

pub alike_at : (l : Label) (i : ℕ) → i < 4 → lane_at (alike l) i ≡ l
alike_at l = each_of_four (λ i. lane_at (alike l) i ≡ l) refl refl refl refl

pub origins_at : (p : Places) (r i : ℕ) → i < 4 → lane_at (origin_lanes p r) i ≡ origin_lane p r i
origins_at p r = each_of_four (λ i. lane_at (origin_lanes p r) i ≡ origin_lane p r i) refl refl refl refl

-- lanes are known by their labels
pub lanes_are : (x : Lanes) (p : Places) (r : ℕ) → ((i : ℕ) → i < 4 → lane_at x i ≡ origin_lane p r i) → x ≡ origin_lanes p r
lanes_are x p r is =
    ap₂ (λ (a b : Label). record { first = a; second = b; third = x.third; fourth = x.fourth }) (is 0 (omega arith)) (is 1 (omega arith))
    ∙ ap₂ (λ (a b : Label). record { first = origin_lane p r 0; second = origin_lane p r 1; third = a; fourth = b }) (is 2 (omega arith)) (is 3 (omega arith))

-- all of some locations are in range
abbrev pub AreHere : List Loc → Type 0
AreHere ls = AllByRecursion IsLocation ls

pub either_here : (b : Bool) (xs ys : List Loc) → AreHere xs → AreHere ys → AreHere (if b then xs else ys)
either_here true xs ys h k = h
either_here false xs ys h k = k

pub lane_here : (r i : ℕ) → r < 32 → i < 4 → AreHere (lane r i)
lane_here r i h k = either_here (r == 0) [] (Reg r i ∷ []) tt ((h, k), tt)

pub lanes_here : (r : ℕ) → r < 32 → AreHere (lanes r)
lanes_here r h = either_here (r == 0) [] (Reg r 0 ∷ Reg r 1 ∷ Reg r 2 ∷ Reg r 3 ∷ []) tt ((h, omega arith), ((h, omega arith), ((h, omega arith), ((h, omega arith), tt))))

pub union_here : (xs ys : List Loc) → AreHere xs → AreHere ys → AreHere (union loc_cmp xs ys)
union_here xs ys h k = All-union loc_cmp IsLocation xs ys h k

module _ {A M : Type 0} (words : LabelWords A M) where
  pub keeps_itself : (a : A) → KeepsLabels words a a
  keeps_itself a label was = record { stands = was; means = refl }

  pub made_kept : (a b : A) (m : M) (label : Label) → KeepsLabels words a b → MakesLabel words a m label → MakesLabel words b m label
  made_kept a b m label k made = let now = k label made.stands in record { stands = now.stands; means = now.means ∙ made.means }

  pub keeps_then : (a b c : A) → KeepsLabels words a b → KeepsLabels words b c → KeepsLabels words a c
  keeps_then a b c k h label was = made_kept b c (words.means a label) label h (k label was)

  pub makes_itself : (a : A) (m : M) (label : Label) → MakesLabel words a m label → Makes words a m a label
  makes_itself a m label made = record { made = made; keeps = keeps_itself a }

  -- a label is united with one that was made
  pub unite_more : (a b c : A) (l x y : Label) (m : M) → words.stands a l → Makes words a m b x → Makes words b (words.united (words.means b l) (words.means b x)) c y
      → Makes words a (words.united (words.means a l) m) c y
  unite_more a b c l x y m s first second = record {
    made = record { stands = second.made.stands; means = second.made.means ∙ ap₂ words.united (first.keeps l s).means first.made.means };
    keeps = keeps_then a b c first.keeps second.keeps;
  }

  -- two labels that were made one after the other are united
  pub unite_made : (a b c d : A) (x y z : Label) (m n : M) → Makes words a m b x → Makes words b n c y
      → Makes words c (words.united (words.means c x) (words.means c y)) d z → Makes words a (words.united m n) d z
  unite_made a b c d x y z m n first second third =
      let kept = second.keeps x first.made.stands in
      record {
        made = record { stands = third.made.stands; means = third.made.means ∙ ap₂ words.united (kept.means ∙ first.made.means) second.made.means };
        keeps = keeps_then a c d (keeps_then a b c first.keeps second.keeps) third.keeps;
      }

  pub alike_stand : (a : A) (l : Label) → words.stands a l → LanesStand words a (alike l)
  alike_stand a l s = record { at = λ i h. subst (words.stands a) (sym (alike_at l i h)) s }

  pub stand_kept : (a b : A) (x : Lanes) → KeepsLabels words a b → LanesStand words a x → LanesStand words b x
  stand_kept a b x k s = record { at = λ i h. (k (lane_at x i) (s.at i h)).stands }

  -- the labels of two lanes are united after others were made
  pub unite_later : (a b c : A) (l x y : Label) → KeepsLabels words a b → words.stands a l → words.stands a x → Makes words b (words.united (words.means b l) (words.means b x)) c y
      → Makes words a (words.united (words.means a l) (words.means a x)) c y
  unite_later a b c l x y k s t made = record {
    made = record { stands = made.made.stands; means = made.made.means ∙ ap₂ words.united (k l s).means (k x t).means };
    keeps = keeps_then a b c k made.keeps;
  }

  pub standing_kept : (a b : A) (p : Places) → KeepsLabels words a b → AreStanding words a p → AreStanding words b p
  standing_kept a b p k s = record { at = λ l here. (k (kept p l) (s.at l here)).stands }

  pub holds_kept : (a b : A) (p : Places) (f : Loc → M) → KeepsLabels words a b → AreStanding words a p → Holds words a p f → Holds words b p f
  holds_kept a b p f k s h = record { at = λ l here. (k (kept p l) (s.at l here)).means ∙ h.at l here }

  pub united_same : (f g : Loc → M) → ((l : Loc) → IsLocation l → f l ≡ g l) → (ls : List Loc) → AreHere ls → united_over words f ls ≡ united_over words g ls
  united_same f g same [] here = refl
  united_same f g same (l ∷ []) here = same l here.0
  united_same f g same (l ∷ m ∷ ls) here = ap₂ words.united (same l here.0) (united_same f g same (m ∷ ls) here.1)

  -- what locations have together stays, whatever labels are made
  pub over_kept : (a b : A) (p : Places) → KeepsLabels words a b → AreStanding words a p → (ls : List Loc) → AreHere ls
      → united_over words (meaning_at words b p) ls ≡ united_over words (meaning_at words a p) ls
  over_kept a b p k s = united_same (meaning_at words b p) (meaning_at words a p) (λ l here. (k (kept p l) (s.at l here)).means)

  module _ (laws : Laws words) where
    pub nothing_with : (m : M) → words.IsMeaning m → words.united words.nothing m ≡ m
    nothing_with m h = laws.swapped words.nothing m laws.of_none h ∙ laws.with_nothing m h

    again : (m n : M) → words.IsMeaning m → words.IsMeaning n → words.united m (words.united m n) ≡ words.united m n
    again m n h k = laws.grouped m m n h h k ∙ ap (λ (x : M). words.united x n) (laws.with_itself m h)

    across : (m n o : M) → words.IsMeaning m → words.IsMeaning n → words.IsMeaning o → words.united m (words.united n o) ≡ words.united n (words.united m o)
    across m n o h k j = laws.grouped m n o h k j ∙ ap (λ (x : M). words.united x o) (laws.swapped m n h k) ∙ sym (laws.grouped n m o k h j)

    module _ (f : Loc → M) (can : (l : Loc) → IsLocation l → words.IsMeaning (f l)) where
      over : List Loc → M
      over ls = united_over words f ls

      pub over_meaning : (ls : List Loc) → AreHere ls → words.IsMeaning (united_over words f ls)
      over_meaning [] here = laws.of_none
      over_meaning (l ∷ []) here = can l here.0
      over_meaning (l ∷ m ∷ ls) here = laws.of_both (f l) (united_over words f (m ∷ ls)) (can l here.0) (over_meaning (m ∷ ls) here.1)

      pub over_more : (l : Loc) (ls : List Loc) → AreHere (l ∷ ls) → united_over words f (l ∷ ls) ≡ words.united (f l) (united_over words f ls)
      over_more l [] here = sym (laws.with_nothing (f l) (can l here.0))
      over_more l (m ∷ ls) here = refl

      inserted_here : (l : Loc) (ls : List Loc) → IsLocation l → AreHere ls → AreHere (inserted loc_cmp l ls)
      inserted_here l ls h k = union_here (l ∷ []) ls (h, tt) k

      over_inserted : (l : Loc) (ls : List Loc) → IsLocation l → AreHere ls → united_over words f (inserted loc_cmp l ls) ≡ words.united (f l) (united_over words f ls)
      over_inserted l [] h here = sym (laws.with_nothing (f l) (can l h))
      over_inserted l (m ∷ ls) h here = by (loc_cmp l m) refl (over_inserted l ls h here.1) where
        rest : words.IsMeaning (united_over words f ls)
        rest = over_meaning ls here.1

        twice : words.united (f m) (united_over words f (m ∷ ls)) ≡ united_over words f (m ∷ ls)
        twice = ap (words.united (f m)) (over_more m ls here) ∙ again (f m) (united_over words f ls) (can m here.0) rest ∙ sym (over_more m ls here)

        by : (r : Ordering) → loc_cmp l m ≡ r → united_over words f (inserted loc_cmp l ls) ≡ words.united (f l) (united_over words f ls)
            → united_over words f (placed r l m ls (inserted loc_cmp l ls)) ≡ words.united (f l) (united_over words f (m ∷ ls))
        by Less e ih = refl
        by Equal e ih = sym twice ∙ ap (λ (q : Loc). words.united (f q) (united_over words f (m ∷ ls))) (sym (loc_same l m e))
        by Greater e ih =
            over_more m (inserted loc_cmp l ls) (here.0, inserted_here l ls h here.1) ∙ ap (words.united (f m)) ih
            ∙ across (f m) (f l) (united_over words f ls) (can m here.0) (can l h) rest ∙ ap (words.united (f l)) (sym (over_more m ls here))

      -- what the locations of both lists have together is what those of each have
      pub over_union : (xs ys : List Loc) → AreHere xs → AreHere ys → united_over words f (union loc_cmp xs ys) ≡ words.united (united_over words f xs) (united_over words f ys)
      over_union [] ys h k = sym (nothing_with (united_over words f ys) (over_meaning ys k))
      over_union (x ∷ xs) ys h k =
          over_inserted x (union loc_cmp xs ys) h.0 (union_here xs ys h.1 k) ∙ ap (words.united (f x)) (over_union xs ys h.1 k)
          ∙ laws.grouped (f x) (united_over words f xs) (united_over words f ys) (can x h.0) (over_meaning xs h.1) (over_meaning ys k)
          ∙ ap (λ (m : M). words.united m (united_over words f ys)) (sym (over_more x xs h))

    -- ---- lanes

    -- lanes that have one label mean together what it means
    pub alike_mean : (a : A) (l : Label) → words.stands a l → all_mean words a (alike l) ≡ words.means a l
    alike_mean a l s =
        let m = words.means a l in
        let once = laws.with_itself m (laws.of_label a l s) in
        ap (λ x. words.united m (words.united m x)) once ∙ ap (words.united m) once ∙ once

    pub all_alike : (a : A) (x : Lanes) → LanesStand words a x → x ≡ alike x.first → all_mean words a x ≡ words.means a x.first
    all_alike a x s is = ap (all_mean words a) is ∙ alike_mean a x.first (s.at 0 (omega arith))

    -- equal labels mean together what one means, and that of nothing adds nothing
    pub equal_mean : (a : A) (l k : Label) → words.stands a l → l ≡ k → MakesLabel words a (mean_together words a l k) l
    equal_mean a l k s e = record { stands = s; means = sym (ap (λ (j : Label). mean_together words a l j) (sym e) ∙ laws.with_itself (words.means a l) (laws.of_label a l s)) }

    pub nothing_right : (a : A) (l k : Label) → words.stands a l → k ≡ nothing_label → MakesLabel words a (mean_together words a l k) l
    nothing_right a l k s e = record {
      stands = s;
      means = sym (ap (λ (j : Label). mean_together words a l j) e ∙ ap (words.united (words.means a l)) (laws.of_nothing a).means ∙ laws.with_nothing (words.means a l) (laws.of_label a l s));
    }

    pub nothing_left : (a : A) (l k : Label) → words.stands a k → l ≡ nothing_label → MakesLabel words a (mean_together words a l k) k
    nothing_left a l k s e = record {
      stands = s;
      means = sym (ap (λ (j : Label). mean_together words a j k) e ∙ ap (λ (m : M). words.united m (words.means a k)) (laws.of_nothing a).means ∙ nothing_with (words.means a k) (laws.of_label a k s));
    }

    module _ (a : A) (p : Places) (standing : AreStanding words a p) where
      pub can_mean : (l : Loc) → IsLocation l → words.IsMeaning (meaning_at words a p l)
      can_mean l here = laws.of_label a (kept p l) (standing.at l here)

      -- the lanes of a register, as origins
      pub lane_made : (r i : ℕ) (label : Label) → r < 32 → i < 4 → label ≡ origin_lane p r i → MakesLabel words a (united_over words (meaning_at words a p) (lane r i)) label
      lane_made r i label h k is = subst (MakesLabel words a (united_over words (meaning_at words a p) (lane r i))) (sym is) (by (r == 0)) where
        by : (b : Bool) → MakesLabel words a (united_over words (meaning_at words a p) (if b then [] else Reg r i ∷ [])) (if b then nothing_label else kept p (Reg r i))
        by true = laws.of_nothing a
        by false = record { stands = standing.at (Reg r i) (h, k); means = refl }

      pub lanes_stand : (r : ℕ) (x : Lanes) → r < 32 → ((i : ℕ) → i < 4 → lane_at x i ≡ origin_lane p r i) → LanesStand words a x
      lanes_stand r x h is = record { at = λ i k. (lane_made r i (lane_at x i) h k (is i k)).stands }

      pub lanes_mean : (r : ℕ) (x : Lanes) → r < 32 → ((i : ℕ) → i < 4 → lane_at x i ≡ origin_lane p r i) → all_mean words a x ≡ united_over words (meaning_at words a p) (lanes r)
      lanes_mean r x h is =
          four (is 0 (omega arith)) (is 1 (omega arith)) (is 2 (omega arith)) (is 3 (omega arith)) ∙ by (r == 0) where
            lane_mean : ℕ → M
            lane_mean i = words.means a (origin_lane p r i)

            four : x.first ≡ origin_lane p r 0 → x.second ≡ origin_lane p r 1 → x.third ≡ origin_lane p r 2 → x.fourth ≡ origin_lane p r 3
                → all_mean words a x ≡ words.united (lane_mean 0) (words.united (lane_mean 1) (words.united (lane_mean 2) (lane_mean 3)))
            four e f g k = ap₂ words.united (ap (words.means a) e) (ap₂ words.united (ap (words.means a) f) (ap₂ words.united (ap (words.means a) g) (ap (words.means a) k)))

            by : (b : Bool) → words.united (words.means a (if b then nothing_label else kept p (Reg r 0)))
                (words.united (words.means a (if b then nothing_label else kept p (Reg r 1)))
                (words.united (words.means a (if b then nothing_label else kept p (Reg r 2))) (words.means a (if b then nothing_label else kept p (Reg r 3)))))
                ≡ united_over words (meaning_at words a p) (if b then [] else Reg r 0 ∷ Reg r 1 ∷ Reg r 2 ∷ Reg r 3 ∷ [])
            by true = let none = laws.of_nothing a in alike_mean a nothing_label none.stands ∙ none.means
            by false = refl

      -- the label that all lanes of a register have
      pub register_made : (r : ℕ) (label : Label) → r < 32 → ((i : ℕ) → i < 4 → origin_lane p r i ≡ label) → MakesLabel words a (united_over words (meaning_at words a p) (lanes r)) label
      register_made r label h is =
          let stands = (lane_made r 0 label h (omega arith) (sym (is 0 (omega arith)))).stands in
          record { stands = stands; means = sym (alike_mean a label stands) ∙ lanes_mean r (alike label) h (λ i low. alike_at label i low ∙ sym (is i low)) }

      -- a label of what two others meant together is one of what the locations of both have
      pub both_made : (b : A) (xs ys : List Loc) (m n : M) (label : Label) → AreHere xs → AreHere ys
          → m ≡ united_over words (meaning_at words a p) xs → n ≡ united_over words (meaning_at words a p) ys
          → MakesLabel words b (words.united m n) label → MakesLabel words b (united_over words (meaning_at words a p) (union loc_cmp xs ys)) label
      both_made b xs ys m n label h k is_left is_right made = record {
        stands = made.stands;
        means = made.means ∙ ap₂ words.united is_left is_right ∙ sym (over_union (meaning_at words a p) can_mean xs ys h k);
      }
