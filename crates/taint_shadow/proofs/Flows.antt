-- The labels of what flows into lanes.
use Rattle.std.proofs.Common.{◌≡◌, ◌<◌, ◌≤◌, ◌==◌, ◌-◌, ◌+◌, nat_lt, ℕ, List, [], refl, arith, ap, ap₂, sym, ◌∙◌, subst, Bool, true, false, if◌then◌else◌}
use Rattle.std.specs.Prelude.{Option, Some, None, IfSome}
use Rattle.std.specs.Option.{option_map_or}
use Rattle.std.proofs.lemmas.Bool.{ltb-true, lt-ltb}
use Rattle.flow_model.specs.declared.Loc.{Loc}
use Rattle.flow_model.specs.declared.Loc.TheVariants.{Mem}
use Rattle.flow_model.specs.declared.Rule.TheVariants.{Index}
use Rattle.isa.specs.Machine.{wrap}
use Rattle.flow_model.specs.Flow.{lane, lanes, each_lane, all_lanes, shifted_lanes, byte_of, with_base, in_first_lane}
use Rattle.flow_model.specs.Orders.{loc_cmp}
use Rattle.lists.specs.Sets.{union}
use Rattle.flow_rule.specs.declared.shape.Mixing.{Mixing}
use Rattle.flow_rule.specs.declared.shape.Mixing.TheVariants.{EachLane, AllLanes, ShiftedLanes, FirstLane}
use Rattle.flow_rule.specs.declared.shuffle.Shuffle.{Shuffle}
use Rattle.flow_rule.specs.Shuffles.{chosen_at, shuffled_lanes, AreLanes}
use Rattle.flow_rule.specs.Shapes.{loaded_lane, mixed_lanes}
use Rattle.taint_shadow.specs.declared.labels.Label.{Label}
use Rattle.taint_shadow.specs.declared.lanes.Lanes.{Lanes}
use Rattle.taint_shadow.specs.declared.places.Places.{Places}
use Rattle.taint_shadow.specs.Labels.{LabelWords, Laws, MakesLabel, Makes, nothing_label}
use Rattle.taint_shadow.specs.Lanes.{lane_at, alike, clean, chosen_label, shuffled, extended_lane, mixed_label, both_mean, LanesStand, MakesLanes}
use Rattle.taint_shadow.specs.Places.{kept, origin_lane, origin_lanes}
use Rattle.taint_shadow.specs.Steps.{meaning_at, AreStanding, united_over, based_mean}
use Rattle.taint_shadow.proofs.Meaning.{AreHere, either_here, lane_here, lane_made, register_made, alike_stand, lanes_here, union_here, each_of_four, alike_at, origins_at, keeps_itself, keeps_then, both_made, nothing_with}

-- ---- where origins lie

pub based_here : (base : ℕ) (ls : List Loc) → base < 32 → AreHere ls → AreHere (with_base Index base ls)
based_here base ls h k = union_here (lanes base) ls (lanes_here base h) k

byte_here : (place i : ℕ) → AreHere (byte_of place i)
byte_here place i = (omega arith, tt)

pub first_here : (ls : List Loc) (i : ℕ) → AreHere ls → AreHere (in_first_lane ls i)
first_here ls i h = either_here (i == 0) ls [] h tt

pub loaded_here : (fills : Bool) (base place size i : ℕ) → base < 32 → AreHere (loaded_lane fills base place size i)
loaded_here true base place size i h = based_here base (byte_of place (if nat_lt i size then i else size - 1)) h (byte_here place (if nat_lt i size then i else size - 1))
loaded_here false base place size i h = either_here (nat_lt i size) (with_base Index base (byte_of place i)) [] (based_here base (byte_of place i) h (byte_here place i)) tt

pub shuffled_here : (shuffle : Shuffle) (r i : ℕ) → r < 32 → AreLanes shuffle → AreHere (shuffled_lanes shuffle r i)
shuffled_here shuffle r i h few = by (chosen_at shuffle i) (few i) where
  by : (o : Option ℕ) → IfSome o (λ j. j < 4) → AreHere (option_map_or (lane r) o [])
  by None k = tt
  by (Some j) k = lane_here r j h k

pub mixed_here : (mixing : Mixing) (r s i : ℕ) → r < 32 → s < 32 → i < 4 → AreHere (mixed_lanes mixing r s i)
mixed_here EachLane r s i h k l = union_here (lane r i) (lane s i) (lane_here r i h l) (lane_here s i k l)
mixed_here AllLanes r s i h k l = union_here (lanes r) (lanes s) (lanes_here r h) (lanes_here s k)
mixed_here ShiftedLanes r s i h k l = union_here (lanes r) (lane s 0) (lanes_here r h) (lane_here s 0 k (omega arith))
mixed_here FirstLane r s i h k l = first_here (all_lanes r s 0) i (union_here (lanes r) (lanes s) (lanes_here r h) (lanes_here s k))

module _ {A M : Type 0} (words : LabelWords A M) (laws : Laws words) where
  -- one label in each lane
  pub alike_made : (b : A) (m : M) (label : Label) → MakesLabel words b m label → (i : ℕ) → i < 4 → MakesLabel words b m (lane_at (alike label) i)
  alike_made b m label made i h = subst (MakesLabel words b m) (sym (alike_at label i h)) made

  -- lanes that were cut off at a size stand
  pub cut_stand : (a : A) (x y : Lanes) (n : ℕ) → LanesStand words a x → ((i : ℕ) → i < 4 → lane_at y i ≡ extended_lane x n false i) → LanesStand words a y
  cut_stand a x y n s cut = record { at = λ i h. subst (words.stands a) (sym (cut i h)) (by i h (nat_lt i n)) } where
    by : (i : ℕ) → i < 4 → (b : Bool) → words.stands a (if b then lane_at x i else nothing_label)
    by i h true = s.at i h
    by i h false = (laws.of_nothing a).stands

  pub cut_at : (x y : Lanes) (n i : ℕ) (fills : Bool) → ((i : ℕ) → i < 4 → lane_at y i ≡ extended_lane x n fills i) → i < 4 → i < n → lane_at y i ≡ lane_at x i
  cut_at x y n i fills cut h k = let yes : nat_lt i n ≡ true = lt-ltb i n k in cut i h ∙ ap (λ (b : Bool). if b then lane_at x i else if fills then lane_at x (n - 1) else nothing_label) yes

  -- lanes without labels stay so
  pub clean_cut : (n : ℕ) (fills : Bool) → 1 ≤ n → n ≤ 4 → (i : ℕ) → i < 4 → lane_at clean i ≡ extended_lane clean n fills i
  clean_cut n fills some few i low = alike_at nothing_label i low ∙ by (nat_lt i n) fills where
    by : (o f : Bool) → nothing_label ≡ (if o then lane_at clean i else if f then lane_at clean (n - 1) else nothing_label)
    by true f = sym (alike_at nothing_label i low)
    by false true = sym (alike_at nothing_label (n - 1) (omega (arith, some, few)))
    by false false = refl

  -- one label in the first lane
  pub first_made : (b : A) (m : List Loc) (f : Loc → M) (label : Label) → MakesLabel words b (united_over words f m) label
      → (i : ℕ) → i < 4 → MakesLabel words b (united_over words f (in_first_lane m i)) (lane_at (mixed_label FirstLane label) i)
  first_made b m f label made =
      let none = laws.of_nothing b in
      each_of_four (λ i. MakesLabel words b (united_over words f (in_first_lane m i)) (lane_at (mixed_label FirstLane label) i)) made none none none

  module _ (a : A) (p : Places) (standing : AreStanding words a p) where
    abbrev over : List Loc → M
    over ls = united_over words (meaning_at words a p) ls

    -- the lanes of a register that are chosen
    chosen_made : (r : ℕ) (lane_chosen : Option ℕ) → r < 32 → IfSome lane_chosen (λ j. j < 4) → MakesLabel words a (over (option_map_or (lane r) lane_chosen [])) (chosen_label (origin_lanes p r) lane_chosen)
    chosen_made r None h k = laws.of_nothing a
    chosen_made r (Some j) h k = lane_made words laws a p standing r j _ h k (origins_at p r j k)

    pub shuffled_made : (shuffle : Shuffle) (r : ℕ) → r < 32 → AreLanes shuffle → (i : ℕ) → i < 4 → MakesLabel words a (over (shuffled_lanes shuffle r i)) (lane_at (shuffled (origin_lanes p r) shuffle) i)
    shuffled_made shuffle r h few = each_of_four (λ i. MakesLabel words a (over (shuffled_lanes shuffle r i)) (lane_at (shuffled (origin_lanes p r) shuffle) i))
        (chosen_made r shuffle.first h (few 0)) (chosen_made r shuffle.second h (few 1)) (chosen_made r shuffle.third h (few 2)) (chosen_made r shuffle.fourth h (few 3))

    -- the label of two registers, in each of which all lanes have one
    pub alike_mixed : (b : A) (m : Mixing) (r s : ℕ) (one other label : Label) → r < 32 → s < 32 → ((i : ℕ) → i < 4 → origin_lane p r i ≡ one) → ((i : ℕ) → i < 4 → origin_lane p s i ≡ other)
        → MakesLabel words b (words.united (words.means a one) (words.means a other)) label → (i : ℕ) → i < 4 → MakesLabel words b (over (mixed_lanes m r s i)) (lane_at (mixed_label m label) i)
    alike_mixed b m r s one other label h k is_one is_other made i low = by m where
      both : (xs ys : List Loc) → AreHere xs → AreHere ys → words.means a one ≡ over xs → words.means a other ≡ over ys → MakesLabel words b (over (union loc_cmp xs ys)) label
      both xs ys here there e f = both_made words laws a p standing b xs ys (words.means a one) (words.means a other) label here there e f made

      lane_mean : (t j : ℕ) (l : Label) → t < 32 → j < 4 → ((n : ℕ) → n < 4 → origin_lane p t n ≡ l) → words.means a l ≡ over (lane t j)
      lane_mean t j l small few is = (lane_made words laws a p standing t j l small few (sym (is j few))).means

      mean : (t : ℕ) (l : Label) → t < 32 → ((n : ℕ) → n < 4 → origin_lane p t n ≡ l) → words.means a l ≡ over (lanes t)
      mean t l small is = (register_made words laws a p standing t l small is).means

      all : MakesLabel words b (over (all_lanes r s 0)) label
      all = both (lanes r) (lanes s) (lanes_here r h) (lanes_here s k) (mean r one h is_one) (mean s other k is_other)

      by : (m : Mixing) → MakesLabel words b (over (mixed_lanes m r s i)) (lane_at (mixed_label m label) i)
      by EachLane = alike_made b (over (each_lane r s i)) label (both (lane r i) (lane s i) (lane_here r i h low) (lane_here s i k low) (lane_mean r i one h low is_one) (lane_mean s i other k low is_other)) i low
      by AllLanes = alike_made b (over (all_lanes r s 0)) label all i low
      by ShiftedLanes = alike_made b (over (shifted_lanes r s 0)) label (both (lanes r) (lane s 0) (lanes_here r h) (lane_here s 0 k (omega arith)) (mean r one h is_one) (lane_mean s 0 other k (omega arith) is_other)) i low
      by FirstLane = first_made b (all_lanes r s 0) (meaning_at words a p) label all i low

    -- a base without labels adds nothing
    pub no_base : (base n : ℕ) (x : Lanes) → base < 32 → ((i : ℕ) → i < 4 → origin_lane p base i ≡ nothing_label) → n ≤ 4 → LanesStand words a x → MakesLanes words a n (based_mean words a p base x) a x
    no_base base n x small none few s =
        let nothing = sym (register_made words laws a p standing base nothing_label small none).means ∙ (laws.of_nothing a).means in
        record {
          made = λ i h. let here = s.at i (omega (arith, h, few)) in record {
            stands = here;
            means = sym (ap (λ (m : M). words.united m (words.means a (lane_at x i))) nothing ∙ nothing_with words laws (words.means a (lane_at x i)) (laws.of_label a (lane_at x i) here));
          };
          keeps = keeps_itself words a;
        }

    -- where no lane has a label either
    pub no_labels : (base n : ℕ) → base < 32 → ((i : ℕ) → i < 4 → origin_lane p base i ≡ nothing_label) → n ≤ 4 → MakesLanes words a n (based_mean words a p base clean) a clean
    no_labels base n small none few = no_base base n clean small none few (alike_stand words a nothing_label (laws.of_nothing a).stands)

    -- the base's label is united with each lane
    pub with_label : (b c : A) (base : ℕ) (label : Label) (x z : Lanes) → LanesStand words a x → Makes words a (united_over words (meaning_at words a p) (lanes base)) b label
        → MakesLanes words b 4 (both_mean words b (alike label) x) c z → MakesLanes words a 4 (based_mean words a p base x) c z
    with_label b c base label x z s first second = record {
      made = λ i h. record {
        stands = (second.made i h).stands;
        means = (second.made i h).means ∙ ap₂ words.united (ap (words.means b) (alike_at label i h) ∙ first.made.means) (first.keeps (lane_at x i) (s.at i h)).means;
      };
      keeps = keeps_then words a b c first.keeps second.keeps;
    }

    -- lanes that were cut off are based as they were
    pub base_cut : (b : A) (base n : ℕ) (x y z : Lanes) → n ≤ 4 → ((i : ℕ) → i < 4 → lane_at y i ≡ extended_lane x n false i)
        → MakesLanes words a 4 (based_mean words a p base y) b z → MakesLanes words a n (based_mean words a p base x) b z
    base_cut b base n x y z few cut made = record {
      made = λ i h. let small : i < 4 = omega (arith, h, few) in record {
        stands = (made.made i small).stands;
        means = (made.made i small).means
            ∙ ap (λ l. words.united (united_over words (meaning_at words a p) (lanes base)) (words.means a l)) (cut_at x y n i false cut small h);
      };
      keeps = made.keeps;
    }

    -- the labels of a word's bytes stand
    pub word_stands : (place : ℕ) (w : Lanes) → ((i : ℕ) → i < 4 → lane_at w i ≡ kept p (Mem (wrap (place + i)))) → LanesStand words a w
    word_stands place w is = record { at = λ i h. subst (words.stands a) (sym (is i h)) (standing.at (Mem (wrap (place + i))) (omega arith)) }

    -- what is loaded
    pub loaded : (b : A) (fills : Bool) (base place n : ℕ) (w z y : Lanes) → base < 32 → 1 ≤ n → n ≤ 4 → ((i : ℕ) → i < 4 → lane_at w i ≡ kept p (Mem (wrap (place + i))))
        → MakesLanes words a n (based_mean words a p base w) b z → ((i : ℕ) → i < 4 → lane_at y i ≡ extended_lane z n fills i)
        → (i : ℕ) → i < 4 → MakesLabel words b (united_over words (meaning_at words a p) (loaded_lane fills base place n i)) (lane_at y i)
    loaded b fills base place n w z y small some few is made cut i h =
        subst (MakesLabel words b (united_over words (meaning_at words a p) (loaded_lane fills base place n i))) (sym (cut i h)) (by fills (nat_lt i n) refl) where
          byte : (j : ℕ) → j < n → MakesLabel words b (united_over words (meaning_at words a p) (with_base Index base (byte_of place j))) (lane_at z j)
          byte j k = both_made words laws a p standing b (lanes base) (byte_of place j) (united_over words (meaning_at words a p) (lanes base)) (words.means a (lane_at w j)) (lane_at z j)
              (lanes_here base small) (byte_here place j) refl (ap (words.means a) (is j (omega (arith, k, few)))) (made.made j k)

          by : (f o : Bool) → nat_lt i n ≡ o → MakesLabel words b (united_over words (meaning_at words a p) (loaded_lane f base place n i)) (extended_lane z n f i)
          by true true e = subst (λ (o : Bool). MakesLabel words b (united_over words (meaning_at words a p) (with_base Index base (byte_of place (if o then i else n - 1)))) (if o then lane_at z i else lane_at z (n - 1))) (sym e) (byte i (ltb-true i n e))
          by true false e = subst (λ (o : Bool). MakesLabel words b (united_over words (meaning_at words a p) (with_base Index base (byte_of place (if o then i else n - 1)))) (if o then lane_at z i else lane_at z (n - 1))) (sym e) (byte (n - 1) (omega (arith, some)))
          by false true e = subst (λ (o : Bool). MakesLabel words b (united_over words (meaning_at words a p) (if o then with_base Index base (byte_of place i) else [])) (if o then lane_at z i else nothing_label)) (sym e) (byte i (ltb-true i n e))
          by false false e = subst (λ (o : Bool). MakesLabel words b (united_over words (meaning_at words a p) (if o then with_base Index base (byte_of place i) else [])) (if o then lane_at z i else nothing_label)) (sym e) (laws.of_nothing b)

    -- what is stored
    pub stored : (b : A) (r base n : ℕ) (w z : Lanes) → r < 32 → base < 32 → n ≤ 4 → ((i : ℕ) → i < 4 → lane_at w i ≡ origin_lane p r i) → MakesLanes words a n (based_mean words a p base w) b z
        → (i : ℕ) → i < n → MakesLabel words b (united_over words (meaning_at words a p) (with_base Index base (lane r i))) (lane_at z i)
    stored b r base n w z h k few is made i low =
        let small : i < 4 = omega (arith, low, few) in
        both_made words laws a p standing b (lanes base) (lane r i) _ _ (lane_at z i) (lanes_here base k) (lane_here r i h small) refl
        (lane_made words laws a p standing r i (lane_at w i) h small (is i small)).means (made.made i low)
