-- A walk goes on, and ends with the leaves under its root.
use Rattle.std.proofs.Common.{◌≡◌, ℕ, zero, suc, ◌+◌, ◌<◌, ◌≤◌, ◌-◌, ◌==◌, List, [], ◌∷◌, ◌++◌, length, refl, ap, sym, ◌∙◌, subst, Bool, true, false, ◌||◌, if◌then◌else◌, arith, get_or, slice_index, ◌⊎◌, inl, inr, length-append}
use Rattle.std.specs.Prelude.{Some}
use Rattle.std.proofs.Math.ListN.{set}
use Rattle.std.proofs.lemmas.Grind.{common_steps}
use Rattle.std.proofs.lemmas.Option.{slice_get-get_or}
use Rattle.std.proofs.lemmas.Bool.{or_left, or_right, or_cases}
use Rattle.lists.proofs.Tests.{true-false, same-tests}
use Rattle.flow_model.specs.declared.SourceByte.{SourceByte}
use Rattle.merge_log.specs.declared.nodes.Entry.{Entry}
use Rattle.merge_log.specs.declared.nodes.Entry.TheVariants.{Source, Union}
use Rattle.merge_log.specs.declared.reader.Leaf.{Leaf}
use Rattle.source_runs.specs.declared.runs.SourceRun.{SourceRun}
use Rattle.source_runs.specs.Runs.{bytes_of}
use Rattle.merge_log.specs.declared.finding.Leaves.{Leaves}
use Rattle.merge_log.specs.Masks.{and_leaves}
use Rattle.merge_log.specs.Log.{Terms, no_terms, run_term, entry_terms, terms, IsNode, HasOperandsBefore, AreOrdered, IsLog, entry_at}
use Rattle.merge_log.specs.Walk.{has_leaf, visited}
use Rattle.merge_log.proofs.Leaves.{leaves_terms, has-joined, has-more}
use Rattle.merge_log.proofs.Marks.{IsMarked, IsOn, IsVisit, cost, marked_more, marked_back, on_pushed, on_top, on_back, on_visited, visit_length, visit_marks, visit_marked, visit_cost}
use Rattle.merge_log.proofs.Terms.{terms_step, entry_before}

-- ---- what is true of a walk

-- what is asked of a marked node that is not on the stack: its leaf is found, and its operands are marked
abbrev pub IsDone : List ℕ → ℕ → Terms → Entry → Type 0
IsDone marks round found (Union a b) = IsMarked marks round a × IsMarked marks round b
IsDone marks round found e = (q : Leaf) → has_leaf q (entry_terms (λ i. no_terms) e) ≡ true → has_leaf q found ≡ true

-- the entry is a leaf
abbrev pub IsLeaf : Entry → Type 0
IsLeaf (Union a b) = ⊥
IsLeaf e = Unit {0}

-- the node stands in the log, and its leaves are among those of the root
pub record IsUnder (log : List Entry) (root m : ℕ) : Type 0 where
  pub above_0 : 0 < m
  pub stands : IsNode log m
  pub leaves : (q : Leaf) → has_leaf q (terms log m) ≡ true → has_leaf q (terms log root) ≡ true

-- a walk in which a marked node that is open may be neither done nor on the stack
pub record IsWalk (log : List Entry) (root round : ℕ) (marks stack : List ℕ) (found : Terms) (is_open : ℕ → Type 0) : Type 0 where
  pub stacked : (m : ℕ) → IsOn stack m → IsUnder log root m
  pub begun : IsMarked marks round root
  pub settled : (m : ℕ) → IsMarked marks round m → IsOn stack m ⊎ ((e : Entry) × (entry_at log m ≡ Some e) × IsDone marks round found e) ⊎ is_open m
  pub within : (q : Leaf) → has_leaf q found ≡ true → has_leaf q (terms log root) ≡ true

-- each marked node is done or on the stack
abbrev pub none_open : ℕ → Type 0
none_open m = ⊥

pub entry_there : (log : List Entry) (n : ℕ) (d : Entry) → 0 < n → n ≤ length log → entry_at log n ≡ Some (get_or log (n - 1) d)
entry_there log zero d h k = absurd (omega arith)
entry_there log (suc i) d h k =
    let less : i < length log = omega arith in
    let one : i ≡ suc i - 1 = omega arith in
    slice_get-get_or log i d less ∙ ap (λ (j : ℕ). Some (get_or log j d)) one

done_more : (marks : List ℕ) (round a : ℕ) (found : Terms) (e : Entry) → a < length marks → IsDone marks round found e → IsDone (set marks a round) round found e
done_more marks round a found (Union p q) h d = (marked_more marks round a p h d.0, marked_more marks round a q h d.1)
done_more marks round a found e h d = d

-- ---- a walk goes on

-- the node on top is taken from the stack
pub popped : (log : List Entry) (root round : ℕ) (marks stack rest : List ℕ) (next : ℕ) (found : Terms) → stack ≡ rest ++ next ∷ [] → IsWalk log root round marks stack found none_open
    → IsUnder log root next × IsWalk log root round marks rest found (λ m. m ≡ next)
popped log root round marks stack rest next found is w =
    let on : (m : ℕ) → IsOn rest m → IsOn stack m = λ m h. subst (λ (s : List ℕ). IsOn s m) (sym is) (on_pushed rest next m h) in (
      w.stacked next (subst (λ (s : List ℕ). IsOn s next) (sym is) (on_top rest next)),
      record {
        stacked = λ m h. w.stacked m (on m h);
        begun = w.begun;
        settled = λ m h. elim (w.settled m h) [
          | inl p ↦ elim (on_back rest next m (subst (λ (s : List ℕ). IsOn s m) is p)) [ inl q ↦ inl q | inr q ↦ inr (inr q) ]
          | inr (inl p) ↦ inr (inl p)
          | inr (inr p) ↦ absurd p
        ];
        within = w.within;
      },
    )

visited_walk : (log : List Entry) (root round : ℕ) (marks stack : List ℕ) (found : Terms) (is_open : ℕ → Type 0) (a : ℕ) → a < length marks → IsUnder log root a
    → IsWalk log root round marks stack found is_open → IsWalk log root round (set marks a round) (visited marks round a stack) found is_open
visited_walk log root round marks stack found is_open a h u w = record {
  stacked = λ m k. stacked (slice_index marks a == round) m k;
  begun = marked_more marks round a root h w.begun;
  settled = λ m k. elim (marked_back marks round a m h k) [ inl p ↦ moved m p | inr p ↦ subst (λ (i : ℕ). IsSettled i) (sym p) (at_a (slice_index marks a == round) refl) ];
  within = w.within;
} where
  IsSettled : ℕ → Type 0
  IsSettled m = IsOn (visited marks round a stack) m ⊎ ((e : Entry) × (entry_at log m ≡ Some e) × IsDone (set marks a round) round found e) ⊎ is_open m

  moved : (m : ℕ) → IsMarked marks round m → IsSettled m
  moved m p = elim (w.settled m p) [
    | inl q ↦ inl (on_visited marks round a stack m q)
    | inr (inl q) ↦ inr (inl (q.0, q.1, done_more marks round a found q.0 h q.2))
    | inr (inr q) ↦ inr (inr q)
  ]

  at_a : (b : Bool) → (slice_index marks a == round) ≡ b → IsSettled a
  at_a true p = let marked : IsMarked marks round a = grind (arith, common_steps) in moved a marked
  at_a false p = inl (subst (λ (b : Bool). IsOn (if b then stack else stack ++ a ∷ []) a) (sym p) (on_top stack a))

  stacked : (b : Bool) (m : ℕ) → IsOn (if b then stack else stack ++ a ∷ []) m → IsUnder log root m
  stacked true m k = w.stacked m k
  stacked false m k = elim (on_back stack a m k) [ inl p ↦ w.stacked m p | inr p ↦ subst (IsUnder log root) (sym p) u ]

pub visit_walk : {marks : List ℕ} {round : ℕ} {stack : List ℕ} {a : ℕ} {marks1 : List ℕ} {round1 : ℕ} {stack1 : List ℕ} → IsVisit marks round stack a marks1 round1 stack1
    → (log : List Entry) (root : ℕ) (found : Terms) (is_open : ℕ → Type 0) → a < length marks → IsUnder log root a
    → IsWalk log root round marks stack found is_open → IsWalk log root round1 marks1 stack1 found is_open
visit_walk {marks = marks} {round = round} {stack = stack} {a = a} v log root found is_open h u w =
    rw (v.stacked, v.marked, v.same_round) (visited_walk log root round marks stack found is_open a h u w)

-- the node that was taken is done
pub closed : (log : List Entry) (root round : ℕ) (marks stack : List ℕ) (found : Terms) (next : ℕ) (e : Entry) → entry_at log next ≡ Some e → IsDone marks round found e
    → IsWalk log root round marks stack found (λ m. m ≡ next) → IsWalk log root round marks stack found none_open
closed log root round marks stack found next e at d w = record {
  stacked = w.stacked;
  begun = w.begun;
  settled = λ m h. elim (w.settled m h) [
    | inl p ↦ inl p
    | inr (inl p) ↦ inr (inl p)
    | inr (inr p) ↦ inr (inl (e, ap (entry_at log) p ∙ at, d))
  ];
  within = w.within;
}

done_found : (marks : List ℕ) (round : ℕ) (found more : Terms) (e : Entry) → ((q : Leaf) → has_leaf q found ≡ true → has_leaf q more ≡ true) → IsDone marks round found e → IsDone marks round more e
done_found marks round found more (Union p q) h d = d
done_found marks round found more e h d = λ q k. h q (d q k)

-- a leaf under the root is found
pub found_more : (log : List Entry) (root round : ℕ) (marks stack : List ℕ) (found more : Terms) (is_open : ℕ → Type 0)
    → ((q : Leaf) → has_leaf q found ≡ true → has_leaf q more ≡ true) → ((q : Leaf) → has_leaf q more ≡ true → has_leaf q (terms log root) ≡ true)
    → IsWalk log root round marks stack found is_open → IsWalk log root round marks stack more is_open
found_more log root round marks stack found more is_open h k w = record {
  stacked = w.stacked;
  begun = w.begun;
  settled = λ m p. elim (w.settled m p) [
    | inl q ↦ inl q
    | inr (inl q) ↦ inr (inl (q.0, q.1, done_found marks round found more q.0 h q.2))
    | inr (inr q) ↦ inr (inr q)
  ];
  within = k;
}

-- ---- the end

all_found : (log : List Entry) (root round : ℕ) (marks : List ℕ) (found : Terms) → AreOrdered 1 log → IsWalk log root round marks [] found none_open
    → (n m : ℕ) → m < n → IsMarked marks round m → (q : Leaf) → has_leaf q (terms log m) ≡ true → has_leaf q found ≡ true
all_found log root round marks found o w zero m h k q t = absurd (omega arith)
all_found log root round marks found o w (suc n) m h k q t = elim (w.settled m k) [
  | inl p ↦ true-false (sym p)
  | inr (inl p) ↦ by (λ i l j u. all_found log root round marks found o w n i l j q u) p.0 p.1 p.2 (entry_before log m p.0 o p.1)
  | inr (inr p) ↦ absurd p
] where
  by : ((i : ℕ) → i < n → IsMarked marks round i → has_leaf q (terms log i) ≡ true → has_leaf q found ≡ true) → (e : Entry) → entry_at log m ≡ Some e → IsDone marks round found e → HasOperandsBefore m e → has_leaf q found ≡ true
  by ih (Union x y) at d before =
      let either = or_cases (has_leaf q (terms log x)) (has_leaf q (terms log y)) (sym (has-joined q (terms log x) (terms log y)) ∙ sym (ap (has_leaf q) (terms_step log m (Union x y) at before)) ∙ t) in
      let x_less : x < n = omega arith in
      let y_less : y < n = omega arith in
      elim either [ inl p ↦ ih x x_less d.0 p | inr p ↦ ih y y_less d.1 p ]
  by ih e at d before = d q (sym (ap (has_leaf q) (terms_step log m e at before)) ∙ t)

pub walk_ends : (log : List Entry) (root round : ℕ) (marks : List ℕ) (found : Terms) → IsLog log → IsWalk log root round marks [] found none_open → (q : Leaf) → has_leaf q found ≡ has_leaf q (terms log root)
walk_ends log root round marks found form w q =
    same-tests (has_leaf q found) (has_leaf q (terms log root)) (w.within q) (all_found log root round marks found form.ordered w (suc root) root (omega arith) w.begun q)

-- ---- operands

under_operands : (log : List Entry) (root next a b : ℕ) → entry_at log next ≡ Some (Union a b) → HasOperandsBefore next (Union a b) → IsUnder log root next
    → IsUnder log root a × IsUnder log root b
under_operands log root next a b at before u =
    let either = λ (q : Leaf). ap (has_leaf q) (terms_step log next (Union a b) at before) ∙ has-joined q (terms log a) (terms log b) in (
      record { above_0 = before.0; stands = omega (arith, before, u.stands); leaves = λ q h. u.leaves q (either q ∙ or_left _ _ h) },
      record { above_0 = omega (arith, before); stands = omega (arith, before, u.stands); leaves = λ q h. u.leaves q (either q ∙ or_right _ _ h) },
    )

-- ---- one turn of the loop

-- leaves that were added are those under the node
pub leaves_added : (log : List Entry) (n : ℕ) (u : Leaves) (found more : Terms) → terms log n ≡ leaves_terms u → more ≡ and_leaves u found
    → (q : Leaf) → has_leaf q more ≡ (has_leaf q found || has_leaf q (terms log n))
leaves_added log n u found more under is q = ap (has_leaf q) is ∙ has-more q u found ∙ ap (λ (t : Terms). has_leaf q found || has_leaf q t) (sym under)

leaf_done : (log : List Entry) (marks : List ℕ) (round n : ℕ) (e : Entry) → entry_at log n ≡ Some e → IsLeaf e → IsDone marks round (terms log n) e
leaf_done log marks round n (Union a b) at leaf = absurd leaf
leaf_done log marks round n e at leaf = λ q h. ap (has_leaf q) (terms_step log n e at tt) ∙ h

-- the leaves of a node that is no union are found
pub leaf_step : (log : List Entry) (root round : ℕ) (marks stack rest : List ℕ) (next : ℕ) (found more : Terms) (e : Entry) (u : Leaves)
    → stack ≡ rest ++ next ∷ [] → entry_at log next ≡ Some e → IsLeaf e → terms log next ≡ leaves_terms u → more ≡ and_leaves u found
    → IsWalk log root round marks stack found none_open
    → IsWalk log root round marks rest more none_open
leaf_step log root round marks stack rest next found more e u is at leaf under grown w =
    let p = popped log root round marks stack rest next found is w in
    let has = leaves_added log next u found more under grown in
    closed log root round marks rest more next e at
    (done_found marks round (terms log next) more e (λ q h. has q ∙ or_right (has_leaf q found) (has_leaf q (terms log next)) h)
    (leaf_done log marks round next e at leaf))
    (found_more log root round marks rest found more (λ m. m ≡ next)
    (λ q h. has q ∙ or_left (has_leaf q found) (has_leaf q (terms log next)) h)
    (λ q h. elim (or_cases (has_leaf q found) (has_leaf q (terms log next)) (sym (has q) ∙ h)) [ inl k ↦ w.within q k | inr k ↦ p.0.leaves q k ])
    p.1)

-- a source byte is a run of one
pub source_under : (log : List Entry) (n : ℕ) (b : SourceByte) (r : SourceRun) → entry_at log n ≡ Some (Source b) → bytes_of r ≡ b ∷ [] → terms log n ≡ run_term r
source_under log n b r at is = terms_step log n (Source b) at tt ∙ ap (λ (bs : List SourceByte). record { sources = bs; starts = [] }) (sym is)

-- the union that was taken is done, when both operands were visited
pub union_step : (log : List Entry) (root round round1 round2 : ℕ) (marks marks1 marks2 stack rest stack1 stack2 : List ℕ) (next : ℕ) (found : Terms) (a b : ℕ)
    → stack ≡ rest ++ next ∷ [] → length log < length marks → entry_at log next ≡ Some (Union a b) → HasOperandsBefore next (Union a b)
    → IsVisit marks round rest a marks1 round1 stack1 → IsVisit marks1 round1 stack1 b marks2 round2 stack2
    → IsWalk log root round marks stack found none_open
    → IsWalk log root round2 marks2 stack2 found none_open
union_step log root round round1 round2 marks marks1 marks2 stack rest stack1 stack2 next found a b is room at before one two w =
    let p = popped log root round marks stack rest next found is w in
    let u = under_operands log root next a b at before p.0 in
    let a_in : a < length marks = (let stands = u.0.stands in omega (arith, stands, room)) in
    let b_in : b < length marks1 = (let stands = u.1.stands in omega (arith, stands, room, visit_length one)) in
    let first = visit_walk one log root found (λ m. m ≡ next) a_in u.0 p.1 in
    let second = visit_walk two log root found (λ m. m ≡ next) b_in u.1 first in
    closed log root round2 marks2 stack2 found next (Union a b) at (visit_marked two b_in a (visit_marks one a_in), visit_marks two b_in) second

-- and then fewer steps are left
pub union_cost : (round round1 round2 : ℕ) (marks marks1 marks2 stack rest stack1 stack2 : List ℕ) (next a b : ℕ)
    → stack ≡ rest ++ next ∷ [] → a < length marks → b < length marks1
    → IsVisit marks round rest a marks1 round1 stack1 → IsVisit marks1 round1 stack1 b marks2 round2 stack2
    → cost marks2 round2 stack2 < cost marks round stack
union_cost round round1 round2 marks marks1 marks2 stack rest stack1 stack2 next a b is a_in b_in one two =
    let top : length stack ≡ length rest + 1 = ap length is ∙ length-append rest (next ∷ []) in
    omega (arith, visit_cost one a_in, visit_cost two b_in, top)
