-- A walk to nodes whose operands are known.
use Rattle.std.proofs.Common.{◌≡◌, ℕ, zero, suc, ◌+◌, ◌*◌, ◌<◌, ◌≤◌, ◌==◌, ◌⊎◌, inl, inr, List, [], ◌∷◌, ◌++◌, length, take, refl, ap, sym, ◌∙◌, subst, Bool, true, false, nat_eq, cond, arith, slice_index, append_assoc, append-nil, length-set}
use Rattle.std.specs.Prelude.{Some}
use Rattle.std.specs.List.{AllByRecursion, count_by, list_any}
use Rattle.std.specs.Ordering.{eq_by_cmp}
use Rattle.std.proofs.Math.ListN.{set}
use Rattle.std.proofs.lemmas.Grind.{common_steps, get_or-set_at}
use Rattle.std.proofs.lemmas.List.{get_or-set_other}
use Rattle.std.proofs.lemmas.List.Folds.{list_any-append}
use Rattle.std.proofs.lemmas.List.Sums.{sum_by-set}
use Rattle.std.proofs.lemmas.Bool.{or_left, or_right, or_cases}
use Rattle.lists.specs.Sets.{has, union}
use Rattle.lists.proofs.Algebra.{has-union}
use Rattle.lists.proofs.Lists.{all-append, all-parts, all-weaken}
use Rattle.lists.proofs.Tests.{true-false}
use Rattle.flow_model.specs.declared.Loc.{Loc}
use Rattle.flow_model.specs.Orders.{loc_cmp}
use Rattle.flow_model.proofs.Orders.{loc_total}
use Rattle.merge_log.specs.declared.nodes.Entry.{Entry}
use Rattle.merge_log.specs.declared.nodes.Entry.TheVariants.{Start, Union}
use Rattle.merge_log.specs.Log.{HasOperand, AreOrdered, IsNode, entry_at, terms}
use Rattle.merge_log.proofs.Terms.{entry_before, terms_step}
use Rattle.backward_pass.specs.Needs.{AreInOrder, AreWalked, HasStart, IsAmong, IsUnder}

-- ---- nodes of a list

pub among_kept : (ns : List ℕ) (a m : ℕ) → IsAmong ns m → IsAmong (ns ++ a ∷ []) m
among_kept ns a m h = list_any-append (nat_eq m) ns (a ∷ []) ∙ or_left (list_any (nat_eq m) ns) (list_any (nat_eq m) (a ∷ [])) h

pub among_last : (ns : List ℕ) (a : ℕ) → IsAmong (ns ++ a ∷ []) a
among_last ns a = list_any-append (nat_eq a) ns (a ∷ []) ∙ or_right (list_any (nat_eq a) ns) (list_any (nat_eq a) (a ∷ [])) (grind (arith, common_steps))

pub among_back : (ns : List ℕ) (a m : ℕ) → IsAmong (ns ++ a ∷ []) m → IsAmong ns m ⊎ (m ≡ a)
among_back ns a m h = elim (or_cases (list_any (nat_eq m) ns) (list_any (nat_eq m) (a ∷ [])) (sym (list_any-append (nat_eq m) ns (a ∷ [])) ∙ h)) [ inl p ↦ inl p | inr p ↦ inr (grind (arith, common_steps)) ]

-- ---- the order

module _ (log : List Entry) where
  order_more : (are_known : ℕ → Type 0) (before ns : List ℕ) (n : ℕ) → AreInOrder log are_known before ns → ((o : ℕ) → HasOperand log n o → are_known o ⊎ IsAmong (before ++ ns) o)
      → AreInOrder log are_known before (ns ++ n ∷ [])
  order_more are_known before [] n h k = (λ o p. subst (λ (ms : List ℕ). are_known o ⊎ IsAmong ms o) (append-nil before) (k o p), tt)
  order_more are_known before (m ∷ ms) n h k =
      (h.0, order_more are_known (before ++ m ∷ []) ms n h.1 (λ o p. subst (λ (ls : List ℕ). are_known o ⊎ IsAmong ls o) (sym (append_assoc before (m ∷ []) ms)) (k o p)))

  pub order_at : (are_known : ℕ → Type 0) (before ns : List ℕ) (i : ℕ) → AreInOrder log are_known before ns → i < length ns → (o : ℕ) → HasOperand log (slice_index ns i) o
      → are_known o ⊎ IsAmong (before ++ take i ns) o
  order_at are_known before [] i h less o p = absurd (omega (arith, less))
  order_at are_known before (m ∷ ms) zero h less o p = subst (λ (ls : List ℕ). are_known o ⊎ IsAmong ls o) (sym (append-nil before)) (h.0 o p)
  order_at are_known before (m ∷ ms) (suc i) h less o p =
      subst (λ (ls : List ℕ). are_known o ⊎ IsAmong ls o) (append_assoc before (m ∷ []) (take i ms)) (order_at are_known (before ++ m ∷ []) ms i h.1 (omega (arith, less)) o p)

  pub order_weaker : (one other : ℕ → Type 0) → ((o : ℕ) → one o → other o) → (before ns : List ℕ) → AreInOrder log one before ns → AreInOrder log other before ns
  order_weaker one other f before [] h = tt
  order_weaker one other f before (m ∷ ms) h = (λ o p. elim (h.0 o p) [ inl q ↦ inl (f o q) | inr q ↦ inr q ], order_weaker one other f (before ++ m ∷ []) ms h.1)

-- ---- the stack

-- each node is below those that stand before it
abbrev pub Descends : List ℕ → Type 0
Descends [] = Unit {0}
Descends (n ∷ ns) = AllByRecursion (λ m. m < n) ns × Descends ns

descends_push : (ns : List ℕ) (n : ℕ) → Descends ns → AllByRecursion (λ m. n < m) ns → Descends (ns ++ n ∷ [])
descends_push [] n h k = (tt, tt)
descends_push (m ∷ ms) n h k = (all-append (λ (o : ℕ). o < m) ms (n ∷ []) h.0 (k.0, tt), descends_push ms n h.1 k.1)

descends_pop : (ns : List ℕ) (n : ℕ) → Descends (ns ++ n ∷ []) → Descends ns × AllByRecursion (λ m. n < m) ns
descends_pop [] n h = (tt, tt)
descends_pop (m ∷ ms) n h =
    let rest = descends_pop ms n h.1 in
    let parts = all-parts (λ (o : ℕ). o < m) ms (n ∷ []) h.0 in
    ((parts.0, rest.0), (parts.1.0, rest.1))

all_both : (P Q : ℕ → Type 0) (ns : List ℕ) → AllByRecursion P ns → AllByRecursion Q ns → AllByRecursion (λ n. P n × Q n) ns
all_both P Q [] h k = tt
all_both P Q (n ∷ ns) h k = ((h.0, k.0), all_both P Q ns h.1 k.1)

-- the last node, or 0
abbrev pub top : List ℕ → ℕ
top [] = 0
top (n ∷ []) = n
top (n ∷ m ∷ ns) = top (m ∷ ns)

top_last : (ns : List ℕ) (n : ℕ) → top (ns ++ n ∷ []) ≡ n
top_last [] n = refl
top_last (m ∷ []) n = refl
top_last (m ∷ k ∷ ns) n = top_last (k ∷ ns) n

top_below : (b : ℕ) (ns : List ℕ) → AllByRecursion (λ n. n < b) ns → top ns ≤ b
top_below b [] h = omega arith
top_below b (n ∷ []) h = let less = h.0 in omega (arith, less)
top_below b (n ∷ m ∷ ns) h = top_below b (m ∷ ns) h.1

-- ---- marks

pub set_case : (needs : List ℕ) (a v m : ℕ) → a < length needs → ((m ≡ a) × (slice_index (set needs a v) m ≡ v)) ⊎ ((m ≡ a → ⊥) × (slice_index (set needs a v) m ≡ slice_index needs m))
set_case needs a v m h = by (m == a) refl where
  by : (b : Bool) → (m == a) ≡ b → ((m ≡ a) × (slice_index (set needs a v) m ≡ v)) ⊎ ((m ≡ a → ⊥) × (slice_index (set needs a v) m ≡ slice_index needs m))
  by true p = let same : m ≡ a = grind (arith, common_steps) in inl (same, get_or-set_at needs a m v 0 same h)
  by false p = let other : m ≡ a → ⊥ = λ e. absurd (grind (arith, common_steps)) in inr (other, get_or-set_other needs a m v 0 other)

-- the steps that are left: for each node for which nothing is noted as many as there are nodes, and those to the node on top
abbrev pub cost : List ℕ → List ℕ → ℕ
cost needs stack = count_by (λ m. m == 0) needs * (length needs + 1) + top stack

later_times : (c k : ℕ) → (c + 1) * k ≡ c * k + k
later_times c k = grind arith

cost_less : (few many room size t s : ℕ) → few + 1 ≡ many → room ≡ size → t ≤ size → few * (room + 1) + t < many * (size + 1) + s
cost_less few many room size t s e r h =
    let times = later_times few (size + 1) in
    subst (λ (m : ℕ). few * (room + 1) + t < m * (size + 1) + s) e (subst (λ (k : ℕ). few * (k + 1) + t < (few + 1) * (size + 1) + s) (sym r) (omega (arith, times, h)))

by_counts : (few many need : ℕ) → need ≡ 0 → few + cond (need == 0) 1 0 ≡ many + 0 → few + 1 ≡ many
by_counts few many need none e = let counted : few + cond (0 == 0) 1 0 ≡ many + 0 = subst (λ (n : ℕ). few + cond (n == 0) 1 0 ≡ many + 0) none e in omega (arith, counted)

-- ---- a walk

-- a walk that goes on: the nodes on the stack are under the root, and nothing is noted for them
pub record IsWalking (log : List Entry) (root : ℕ) (old needs stack order : List ℕ) (starts : List Loc) : Type 0 where
  pub walked : AreWalked log root old needs order starts
  pub begun : IsAmong stack root ⊎ IsAmong order root
  pub under : AllByRecursion (IsUnder log root) stack
  pub new : AllByRecursion (λ n. slice_index needs n ≡ 0) stack
  pub descends : Descends stack

has_union : (xs ys : List Loc) (l : Loc) → (has loc_cmp l xs ≡ true) ⊎ (has loc_cmp l ys ≡ true) → has loc_cmp l (union loc_cmp xs ys) ≡ true
has_union xs ys l (inl h) = has-union loc_total xs ys l ∙ or_left (has loc_cmp l xs) (has loc_cmp l ys) h
has_union xs ys l (inr h) = has-union loc_total xs ys l ∙ or_right (has loc_cmp l xs) (has loc_cmp l ys) h

-- the start location of a node is noted, and no other
pub start_only : (log : List Entry) (node : ℕ) (m : Loc) (starts more : List Loc) → entry_at log node ≡ Some (Start m) → more ≡ starts ++ m ∷ []
    → (l : Loc) → has loc_cmp l more ≡ true → (has loc_cmp l starts ≡ true) ⊎ (has loc_cmp l (terms log node).starts ≡ true)
start_only log node m starts more at is l h =
    elim (or_cases (has loc_cmp l starts) (has loc_cmp l (m ∷ [])) (sym (list_any-append (eq_by_cmp loc_cmp l) starts (m ∷ [])) ∙ sym (ap (has loc_cmp l) is) ∙ h)) [
      | inl p ↦ inl p
      | inr p ↦ inr (ap (λ t. has loc_cmp l t.starts) (terms_step log node (Start m) at tt) ∙ p)
    ]

module _ (log : List Entry) (ordered : AreOrdered 1 log) (root : ℕ) where
  pub root_under : 0 < root → IsNode log root → IsUnder log root root
  root_under some stands = record { above_0 = some; stands = stands; starts = λ l h. h }

  -- an operand of a node under the root is under it too
  operand_under : (n o : ℕ) → IsUnder log root n → HasOperand log n o → 0 < o → o < n → IsUnder log root o
  operand_under n o u h some less = record {
    above_0 = some;
    stands = let stands = u.stands in omega (arith, stands, less);
    starts = λ l k. u.starts l
        (subst (λ ls. has loc_cmp l ls ≡ true) (sym (ap (λ t. t.starts) (terms_step log n (Union h.left h.right) h.entry (entry_before log n (Union h.left h.right) ordered h.entry))))
        (has_union (terms log h.left).starts (terms log h.right).starts l (elim h.operand [
          | inl e ↦ inl (subst (λ (i : ℕ). has loc_cmp l (terms log i).starts ≡ true) e k)
          | inr e ↦ inr (subst (λ (i : ℕ). has loc_cmp l (terms log i).starts ≡ true) e k)
        ])));
  }

  module _ (old needs order : List ℕ) (starts : List Loc) (rest stack : List ℕ) (node : ℕ) (is : stack ≡ rest ++ node ∷ []) (w : IsWalking log root old needs stack order starts) where
    parts_under : AllByRecursion (IsUnder log root) rest × AllByRecursion (IsUnder log root) (node ∷ [])
    parts_under = all-parts (IsUnder log root) rest (node ∷ []) (subst (AllByRecursion (IsUnder log root)) is w.under)

    parts_new : AllByRecursion (λ n. slice_index needs n ≡ 0) rest × AllByRecursion (λ n. slice_index needs n ≡ 0) (node ∷ [])
    parts_new = all-parts (λ (n : ℕ). slice_index needs n ≡ 0) rest (node ∷ []) (subst (AllByRecursion (λ n. slice_index needs n ≡ 0)) is w.new)

    parts_descend : Descends rest × AllByRecursion (λ m. node < m) rest
    parts_descend = descends_pop rest node (subst Descends is w.descends)

    pub popped : IsUnder log root node
    popped = parts_under.1.0

    pub popped_new : slice_index needs node ≡ 0
    popped_new = parts_new.1.0

    -- an operand is put on top
    pub pushed : (o : ℕ) → HasOperand log node o → 0 < o → o < node → slice_index needs o ≡ 0 → IsWalking log root old needs ((rest ++ node ∷ []) ++ o ∷ []) order starts
    pushed o h some less none = record {
      walked = w.walked;
      begun = elim w.begun [ inl p ↦ inl (among_kept (rest ++ node ∷ []) o root (subst (λ (ns : List ℕ). IsAmong ns root) is p)) | inr p ↦ inr p ];
      under = all-append (IsUnder log root) (rest ++ node ∷ []) (o ∷ []) (subst (AllByRecursion (IsUnder log root)) is w.under) (operand_under node o popped h some less, tt);
      new = all-append (λ (n : ℕ). slice_index needs n ≡ 0) (rest ++ node ∷ []) (o ∷ []) (subst (AllByRecursion (λ n. slice_index needs n ≡ 0)) is w.new) (none, tt);
      descends =
          let above = parts_descend.1 in
          descends_push (rest ++ node ∷ []) o (subst Descends is w.descends)
          (all-append (λ (m : ℕ). o < m) rest (node ∷ []) (all-weaken (λ (m : ℕ). node < m) (λ m. o < m) (λ m k. omega (arith, k, less)) rest above) (less, tt));
    }

    pub push_cost : (o : ℕ) → o < node → cost needs ((rest ++ node ∷ []) ++ o ∷ []) < cost needs stack
    push_cost o less =
        let one = top_last (rest ++ node ∷ []) o in
        let two = ap top is ∙ top_last rest node in
        omega (arith, one, two, less)

    -- the node is noted
    module _ (inside : length log < length needs) where
      in_needs : node < length needs
      in_needs = let u = popped.stands in omega (arith, u, inside)

      case_of : (m : ℕ) → ((m ≡ node) × (slice_index (set needs node 1) m ≡ 1)) ⊎ ((m ≡ node → ⊥) × (slice_index (set needs node 1) m ≡ slice_index needs m))
      case_of m = set_case needs node 1 m in_needs

      pub noted : (more : List Loc) → ((o : ℕ) → HasOperand log node o → 0 < slice_index needs o) → HasStart log more node
          → ((l : Loc) → has loc_cmp l starts ≡ true → has loc_cmp l more ≡ true)
          → ((l : Loc) → has loc_cmp l more ≡ true → (has loc_cmp l starts ≡ true) ⊎ (has loc_cmp l (terms log node).starts ≡ true))
          → IsWalking log root old (set needs node 1) rest (order ++ node ∷ []) more
      noted more operands found kept only = record {
        walked = record {
          room = length-set needs node 1 ∙ w.walked.room;
          kept = λ n some. elim (case_of n) [
            | inl p ↦ let was = w.walked.kept n some in let now = popped_new in let same = ap (slice_index needs) p.0 in absurd (omega (arith, some, was, now, same))
            | inr p ↦ p.1 ∙ w.walked.kept n some
          ];
          only = λ n some. elim (case_of n) [
            | inl p ↦ inr (subst (IsAmong (order ++ node ∷ [])) (sym p.0) (among_last order node))
            | inr p ↦ elim (w.walked.only n (subst (λ (i : ℕ). 0 < i) p.1 some)) [ inl q ↦ inl q | inr q ↦ inr (among_kept order node n q) ]
          ];
          nodes = λ n h. elim (among_back order node n h) [ inl q ↦ w.walked.nodes n q | inr q ↦ subst (IsUnder log root) (sym q) popped ];
          ordered = order_more log (λ o. 0 < slice_index old o) [] order node w.walked.ordered (λ o h. w.walked.only o (operands o h));
          found = λ n h. elim (among_back order node n h) [ inl q ↦ λ l e. kept l (w.walked.found n q l e) | inr q ↦ subst (HasStart log more) (sym q) found ];
          within = λ l h. elim (only l h) [ inl q ↦ w.walked.within l q | inr q ↦ popped.starts l q ];
        };
        begun = elim w.begun [
          | inl p ↦ elim (among_back rest node root (subst (λ (ns : List ℕ). IsAmong ns root) is p)) [ inl q ↦ inl q | inr q ↦ inr (subst (IsAmong (order ++ node ∷ [])) (sym q) (among_last order node)) ]
          | inr p ↦ inr (among_kept order node root p)
        ];
        under = parts_under.0;
        new = all-weaken (λ (n : ℕ). (node < n) × (slice_index needs n ≡ 0)) (λ n. slice_index (set needs node 1) n ≡ 0)
            (λ n k. elim (case_of n) [ inl p ↦ let less = k.0 in let same = p.0 in absurd (omega (arith, less, same)) | inr p ↦ p.1 ∙ k.1 ]) rest
            (all_both (λ n. node < n) (λ n. slice_index needs n ≡ 0) rest parts_descend.1 parts_new.0);
        descends = parts_descend.0;
      }

      pub note_cost : cost (set needs node 1) rest < cost needs stack
      note_cost =
          let counts = sum_by-set (λ m. cond (m == 0) 1 0) needs node 1 0 in_needs in
          let none = popped_new in
          let below = top_below (length needs) rest (all-weaken (IsUnder log root) (λ n. n < length needs) (λ n u. let stands = u.stands in omega (arith, stands, inside)) rest parts_under.0) in
          let room = length-set needs node 1 in
          let fewer : count_by (λ m. m == 0) (set needs node 1) + 1 ≡ count_by (λ m. m == 0) needs =
          by_counts (count_by (λ m. m == 0) (set needs node 1)) (count_by (λ m. m == 0) needs) (slice_index needs node) none counts in
          cost_less (count_by (λ m. m == 0) (set needs node 1)) (count_by (λ m. m == 0) needs) (length (set needs node 1)) (length needs) (top rest) (top stack) fewer room below

  pub walk_begins : (old : List ℕ) → 0 < root → IsNode log root → slice_index old root ≡ 0 → IsWalking log root old old (root ∷ []) [] []
  walk_begins old some stands none = record {
    walked = record {
      room = refl;
      kept = λ n k. refl;
      only = λ n k. inl k;
      nodes = λ n h. true-false (sym h);
      ordered = tt;
      found = λ n h. true-false (sym h);
      within = λ l h. true-false (sym h);
    };
    begun = inl (among_last [] root);
    under = (root_under some stands, tt);
    new = (none, tt);
    descends = (tt, tt);
  }
