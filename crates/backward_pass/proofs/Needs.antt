-- What start locations need, by one node and another, and when more is asked.
use Rattle.std.proofs.Common.{◌≡◌, ℕ, ◌+◌, ◌<◌, max, min, List, [], ◌∷◌, ◌++◌, refl, ap, ap₂, sym, ◌∙◌, subst, Bool, true, false, ◌||◌, ◌&&◌, cond, length, slice_index, ◌≤◌, inl, inr, arith}
use Rattle.std.specs.Prelude.{Some, Result, Ok, Err, OnOk, OnErr}
use Rattle.std.specs.List.{filter}
use Rattle.std.specs.Ordering.{eq_by_cmp}
use Rattle.std.specs.declared.cmp.Ordering.{Ordering}
use Rattle.std.specs.declared.cmp.Ordering.TheVariants.{Less, Equal, Greater}
use Rattle.std.proofs.lemmas.Bool.{and_parts, and_from, or_left, or_right, or_cases}
use Rattle.std.proofs.Math.Bool.{or-false}
use Rattle.std.proofs.lemmas.Cmp.{eq_by_cmp_equiv}
use Rattle.lists.specs.Sets.{Ascends, has, inserted, is_within, placed, union}
use Rattle.lists.proofs.Algebra.{same_list, tied_by}
use Rattle.lists.proofs.Filters.{Ascends-filter, has-filter}
use Rattle.lists.proofs.Tests.{same-tests, true-false}
use Rattle.flow_model.specs.declared.Loc.{Loc}
use Rattle.flow_model.specs.Orders.{loc_cmp}
use Rattle.flow_model.proofs.Orders.{loc_total, loc_same}
use Rattle.epoch_model.specs.Crossing.{added, added_all}
use Rattle.epoch_model.proofs.Adding.{any_added_all}
use Rattle.stream_model.specs.Streams.{places_up_to, places_needed}
use Rattle.stream_model.proofs.Growing.{added_all_keeps}
use Rattle.stream_model.proofs.Counting.{places_stay}
use Rattle.pass_parts.proofs.Counted.{within_more}
use Rattle.merge_log.specs.declared.nodes.Entry.{Entry}
use Rattle.merge_log.specs.declared.nodes.Entry.TheVariants.{Start, Union}
use Rattle.merge_log.specs.Log.{HasOperand, HasOperandsBefore, entry_at, entry_terms, terms}
use Rattle.merge_log.proofs.Terms.{terms_step}
use Rattle.backward_pass.specs.Needs.{AreNeeds, HasNeed, IsNeed}

-- ---- numbers

max_once : (a b : ℕ) → max a b ≡ max a (max a b)
max_once a b = grind arith

max_swapped : (a b c : ℕ) → max b (max a c) ≡ max a (max b c)
max_swapped a b c = grind arith

max_grouped : (a b c : ℕ) → max a (max b c) ≡ max (max a b) c
max_grouped a b c = grind arith

max_none : (a : ℕ) → a ≡ max 0 a
max_none a = grind arith

max_more : (a b : ℕ) → max (a + 1) (b + 1) ≡ max a b + 1
max_more a b = grind arith

-- ---- of a union

module _ (asked : List Loc) where
  needed_inserted : (x : Loc) (ys : List Loc) → places_needed asked (inserted loc_cmp x ys) ≡ max (places_up_to asked x) (places_needed asked ys)
  needed_inserted x [] = refl
  needed_inserted x (y ∷ ys) = by (needed_inserted x ys) (loc_cmp x y) refl where
    by : places_needed asked (inserted loc_cmp x ys) ≡ max (places_up_to asked x) (places_needed asked ys) → (r : Ordering) → loc_cmp x y ≡ r
        → places_needed asked (placed r x y ys (inserted loc_cmp x ys)) ≡ max (places_up_to asked x) (max (places_up_to asked y) (places_needed asked ys))
    by ih Less e = refl
    by ih Equal e =
        max_once (places_up_to asked y) (places_needed asked ys)
        ∙ ap (λ (z : Loc). max (places_up_to asked z) (max (places_up_to asked y) (places_needed asked ys))) (sym (loc_same x y e))
    by ih Greater e = ap (max (places_up_to asked y)) ih ∙ max_swapped (places_up_to asked x) (places_up_to asked y) (places_needed asked ys)

  needed_union : (xs ys : List Loc) → places_needed asked (union loc_cmp xs ys) ≡ max (places_needed asked xs) (places_needed asked ys)
  needed_union [] ys = max_none (places_needed asked ys)
  needed_union (x ∷ xs) ys =
      needed_inserted x (union loc_cmp xs ys) ∙ ap (max (places_up_to asked x)) (needed_union xs ys)
      ∙ max_grouped (places_up_to asked x) (places_needed asked xs) (places_needed asked ys)

  within_inserted : (x : Loc) (ys : List Loc) → has loc_cmp x asked ≡ true → is_within loc_cmp ys asked ≡ true → is_within loc_cmp (inserted loc_cmp x ys) asked ≡ true
  within_inserted x [] h k = and_from _ _ h refl
  within_inserted x (y ∷ ys) h k =
      let parts = and_parts (has loc_cmp y asked) (is_within loc_cmp ys asked) k in
      by parts.0 (within_inserted x ys h parts.1) (loc_cmp x y)
    where
      by : has loc_cmp y asked ≡ true → is_within loc_cmp (inserted loc_cmp x ys) asked ≡ true → (r : Ordering) → is_within loc_cmp (placed r x y ys (inserted loc_cmp x ys)) asked ≡ true
      by own ih Less = and_from _ _ h k
      by own ih Equal = k
      by own ih Greater = and_from _ _ own ih

  within_union : (xs ys : List Loc) → is_within loc_cmp xs asked ≡ true → is_within loc_cmp ys asked ≡ true → is_within loc_cmp (union loc_cmp xs ys) asked ≡ true
  within_union [] ys h k = k
  within_union (x ∷ xs) ys h k =
      let parts = and_parts (has loc_cmp x asked) (is_within loc_cmp xs asked) h in
      within_inserted x (union loc_cmp xs ys) parts.0 (within_union xs ys parts.1 k)

  pub need_none : IsNeed asked [] 1
  need_none = record { within = refl; count = refl }

  pub need_start : (l : Loc) → has loc_cmp l asked ≡ true → IsNeed asked (l ∷ []) (places_up_to asked l + 1)
  need_start l h = record { within = and_from _ _ h refl; count = grind arith }

  pub need_union : (xs ys : List Loc) (m n : ℕ) → IsNeed asked xs m → IsNeed asked ys n → IsNeed asked (union loc_cmp xs ys) (max m n)
  need_union xs ys m n h k = record {
    within = within_union xs ys h.within k.within;
    count = ap₂ max h.count k.count ∙ max_more (places_needed asked xs) (places_needed asked ys) ∙ ap (λ (i : ℕ). i + 1) (sym (needed_union xs ys));
  }

-- a place is no more than there are
pub up_to_within : (asked : List Loc) (l : Loc) → has loc_cmp l asked ≡ true → places_up_to asked l ≤ length asked
up_to_within [] l h = true-false (sym h)
up_to_within (m ∷ ms) l h = by (up_to_within ms l) (eq_by_cmp loc_cmp l m) h where
  by : (has loc_cmp l ms ≡ true → places_up_to ms l ≤ length ms) → (b : Bool) → (b || has loc_cmp l ms) ≡ true → cond b 1 (1 + places_up_to ms l) ≤ length (m ∷ ms)
  by ih true e = omega arith
  by ih false e = let rest = ih e in omega (arith, rest)

min_is : (a b : ℕ) → a ≤ b → min a b ≡ a
min_is a b h = grind (arith, h)

-- ---- of the entries of a log

module _ (log : List Entry) (asked : List Loc) (node : ℕ) where
  pub leaf_need : (e : Entry) → entry_at log node ≡ Some e → HasOperandsBefore node e → (entry_terms (terms log) e).starts ≡ [] → IsNeed asked (terms log node).starts 1
  leaf_need e at before none = subst (λ (ls : List Loc). IsNeed asked ls 1) (sym (ap (λ t. t.starts) (terms_step log node e at before) ∙ none)) (need_none asked)

  pub union_need : (needs : List ℕ) (a b : ℕ) → entry_at log node ≡ Some (Union a b) → HasOperandsBefore node (Union a b) → ((o : ℕ) → HasOperand log node o → HasNeed log asked needs o)
      → IsNeed asked (terms log node).starts (max (slice_index needs a) (slice_index needs b))
  union_need needs a b at before h =
      subst (λ (ls : List Loc). IsNeed asked ls (max (slice_index needs a) (slice_index needs b))) (sym (ap (λ t. t.starts) (terms_step log node (Union a b) at before)))
      (need_union asked (terms log a).starts (terms log b).starts (slice_index needs a) (slice_index needs b)
      (h a (record { left = a; right = b; entry = at; operand = inl refl })) (h b (record { left = a; right = b; entry = at; operand = inr refl })))

  pub start_need : (new : List Loc) (l : Loc) (n : ℕ) → entry_at log node ≡ Some (Start l) → has loc_cmp l asked ≡ true → new ≡ added asked l → n ≡ places_up_to new l
      → IsNeed new (terms log node).starts (n + 1)
  start_need new l n at h is up_to =
      let same : new ≡ asked = is ∙ ap (λ (b : Bool). cond b asked (asked ++ l ∷ [])) h in
      subst (λ (ls : List Loc). IsNeed new ls (n + 1)) (sym (ap (λ t. t.starts) (terms_step log node (Start l) at tt)))
      (subst (λ (i : ℕ). IsNeed new (l ∷ []) (i + 1)) (sym up_to) (need_start new l (ap (has loc_cmp l) same ∙ h)))

  pub start_least : (new : List Loc) (l : Loc) (n r : ℕ) → entry_at log node ≡ Some (Start l) → has loc_cmp l asked ≡ true → new ≡ added asked l → n ≡ places_up_to new l
      → r ≡ min n (length new) → IsNeed new (terms log node).starts (r + 1)
  start_least new l n r at h is up_to least =
      let same : new ≡ asked = is ∙ ap (λ (b : Bool). cond b asked (asked ++ l ∷ [])) h in
      let within = up_to_within new l (ap (has loc_cmp l) same ∙ h) in
      subst (λ (i : ℕ). IsNeed new (terms log node).starts (i + 1)) (sym (least ∙ min_is n (length new) (subst (λ (i : ℕ). i ≤ length new) (sym up_to) within))) (start_need new l n at h is up_to)

-- ---- when more is asked

pub need_stays : (asked ls starts : List Loc) (n : ℕ) → IsNeed asked starts n → IsNeed (added_all asked ls) starts n
need_stays asked ls starts n h =
    let more = added_all_keeps asked ls in
    subst (λ (now : List Loc). IsNeed now starts n) more.1
    (record {
      within = within_more starts asked more.0 h.within;
      count = h.count ∙ ap (λ (i : ℕ). i + 1) (sym (places_stay asked more.0 starts h.within));
    })

pub needs_stay : (log : List Entry) (asked ls : List Loc) (needs : List ℕ) → AreNeeds log asked needs → AreNeeds log (added_all asked ls) needs
needs_stay log asked ls needs h n some = need_stays asked ls (terms log n).starts (slice_index needs n) (h n some)

pub needs_same : (log : List Entry) (asked : List Loc) (old new : List ℕ) → ((n : ℕ) → slice_index new n ≡ slice_index old n) → AreNeeds log asked old → AreNeeds log asked new
needs_same log asked old new same h n some =
    subst (λ (v : ℕ). IsNeed asked (terms log n).starts v) (sym (same n)) (h n (subst (λ (v : ℕ). 0 < v) (same n) some))

-- one location was asked, or a growth was refused
pub start_asked : {E : Type 0} (r : Result ℕ E) (log : List Entry) (asked new : List Loc) (l : Loc) (needs : List ℕ) → OnOk r (new ≡ added asked l) → OnErr r (new ≡ asked)
    → AreNeeds log asked needs → AreNeeds log new needs
start_asked (Ok n) log asked new l needs is err h = subst (λ (ls : List Loc). AreNeeds log ls needs) (sym is) (needs_stay log asked (l ∷ []) needs h)
start_asked (Err e) log asked new l needs is err h = subst (λ (ls : List Loc). AreNeeds log ls needs) (sym err) h

pub none_noted : (log : List Entry) (asked : List Loc) → AreNeeds log asked []
none_noted log asked n some = absurd (omega (arith, some))

-- ---- only what isn't asked has to be added

-- one of the list is one of what has all of it
pub within_at : (ls asked : List Loc) (l : Loc) → is_within loc_cmp ls asked ≡ true → has loc_cmp l ls ≡ true → has loc_cmp l asked ≡ true
within_at [] asked l h k = true-false (sym k)
within_at (m ∷ ms) asked l h k =
    let parts = and_parts (has loc_cmp m asked) (is_within loc_cmp ms asked) h in
    elim (or_cases (eq_by_cmp loc_cmp l m) (has loc_cmp l ms) k) [
      | inl e ↦ subst (λ (p : Loc). has loc_cmp p asked ≡ true) (sym (loc_same l m (tied_by (loc_cmp l m) e))) parts.0
      | inr e ↦ within_at ms asked l parts.1 e
    ]

-- those that are left out are asked
added_kept : (keeps : Loc → Bool) (asked ys : List Loc) → ((l : Loc) → has loc_cmp l ys ≡ true → keeps l ≡ false → has loc_cmp l asked ≡ true)
    → added_all asked (filter keeps ys) ≡ added_all asked ys
added_kept keeps asked [] h = refl
added_kept keeps asked (y ∷ ys) h =
    let own = or_left (eq_by_cmp loc_cmp y y) (has loc_cmp y ys) ((eq_by_cmp_equiv loc_total).refl y) in
    let later : (l : Loc) → has loc_cmp l ys ≡ true → has loc_cmp l (y ∷ ys) ≡ true = λ l e. or_right (eq_by_cmp loc_cmp l y) (has loc_cmp l ys) e in
    by (h y own)
    (added_kept keeps (added asked y) ys (λ l in_ys out. any_added_all (eq_by_cmp loc_cmp l) asked (y ∷ []) ∙ or_left (has loc_cmp l asked) (has loc_cmp l (y ∷ [])) (h l (later l in_ys) out)))
    (added_kept keeps asked ys (λ l in_ys out. h l (later l in_ys) out)) (keeps y) refl
  where
    by : (keeps y ≡ false → has loc_cmp y asked ≡ true) → added_all (added asked y) (filter keeps ys) ≡ added_all (added asked y) ys → added_all asked (filter keeps ys) ≡ added_all asked ys
        → (b : Bool) → keeps y ≡ b → added_all asked (cond b (y ∷ filter keeps ys) (filter keeps ys)) ≡ added_all (added asked y) ys
    by own one other true e = one
    by own one other false e = other ∙ ap (λ (b : Bool). added_all (cond b asked (asked ++ y ∷ [])) ys) (sym (own e))

-- sets of which one is within the other are added alike, where all of the other are asked then
pub added_alike : (asked xs ys : List Loc) → Ascends loc_cmp xs → Ascends loc_cmp ys → ((l : Loc) → has loc_cmp l xs ≡ true → has loc_cmp l ys ≡ true)
    → is_within loc_cmp ys (added_all asked xs) ≡ true → added_all asked xs ≡ added_all asked ys
added_alike asked xs ys a b inside all =
    let keeps : Loc → Bool = λ l. has loc_cmp l xs in
    let is : xs ≡ filter keeps ys =
    same_list loc_total loc_same xs (filter keeps ys) a (Ascends-filter loc_cmp keeps ys b)
    (λ q.
    same-tests (has loc_cmp q xs) (has loc_cmp q xs && has loc_cmp q ys) (λ h. and_from _ _ h (inside q h)) (λ h. (and_parts _ _ h).0)
    ∙ sym (has-filter loc_total keeps (λ x y e. ap keeps (loc_same x y e)) ys q)) in
    ap (added_all asked) is ∙ added_kept keeps asked ys (λ l in_ys out.
    sym (or-false (has loc_cmp l asked)) ∙ ap (λ (b : Bool). has loc_cmp l asked || b) (sym out) ∙ sym (any_added_all (eq_by_cmp loc_cmp l) asked xs) ∙ within_at ys (added_all asked xs) l all in_ys)
