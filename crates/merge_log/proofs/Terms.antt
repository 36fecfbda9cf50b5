-- The terms of nodes, and what a growing log keeps.
use Rattle.std.proofs.Common.{◌≡◌, ℕ, zero, suc, ◌+◌, ◌<◌, ◌≤◌, ◌==◌, List, [], ◌∷◌, ◌++◌, length, refl, ap, ap₂, sym, ◌∙◌, Bool, true, false, ◌||◌, if◌then◌else◌, arith, slice_get, subst}
use Rattle.std.specs.Prelude.{Some}
use Rattle.std.proofs.lemmas.Grind.{common_steps}
use Rattle.std.specs.Cmp.{IsTotalOrder}
use Rattle.std.specs.FinMap.{IsAntisymmetric}
use Rattle.std.specs.declared.cmp.Ordering.{Ordering}
use Rattle.std.proofs.Math.Bool.{or_self_left}
use Rattle.std.proofs.lemmas.Bool.{eq-eqb}
use Rattle.lists.specs.Sets.{union, Ascends, has}
use Rattle.lists.proofs.Algebra.{Ascends-union, same_list, union_assoc, union_comm, union-nil, has-union}
use Rattle.flow_model.proofs.Orders.{loc_total, loc_same, source_total, source_same}
use Rattle.flow_model.specs.declared.Loc.{Loc}
use Rattle.flow_model.specs.declared.SourceByte.{SourceByte}
use Rattle.merge_log.specs.declared.nodes.Entry.{Entry}
use Rattle.source_runs.specs.declared.runs.SourceRun.{SourceRun}
use Rattle.source_runs.proofs.Bytes.{run_ascends}
use Rattle.merge_log.specs.declared.nodes.Entry.TheVariants.{Source, Run, Start, Union}
use Rattle.merge_log.specs.Log.{Terms, AreSets, no_terms, run_term, joined, entry_terms, with_node, terms_from, terms, HasOperandsBefore, AreOrdered, entry_at}

-- ---- one more node

at_other : (before : ℕ → Terms) (n : ℕ) (e : Entry) (i : ℕ) → i < n → with_node before n e i ≡ before i
at_other before n e i h =
    let other : (i == n) ≡ false = grind (arith, common_steps, h) in
    ap (λ (b : Bool). if b then entry_terms before e else before i) other

at_itself : (before : ℕ → Terms) (n : ℕ) (e : Entry) (i : ℕ) → i ≡ n → with_node before n e i ≡ entry_terms before e
at_itself before n e i h = ap (λ (b : Bool). if b then entry_terms before e else before i) (eq-eqb i n h)

below : (before : ℕ → Terms) (n : ℕ) (es : List Entry) (i : ℕ) → i < n → terms_from before n es i ≡ before i
below before n [] i h = refl
below before n (e ∷ es) i h =
    let more : i < suc n = omega arith in
    below (with_node before n e) (suc n) es i more ∙ at_other before n e i h

appended : (before : ℕ → Terms) (n : ℕ) (xs ys : List Entry) (i : ℕ) → terms_from before n (xs ++ ys) i ≡ terms_from (terms_from before n xs) (n + length xs) ys i
appended before n [] ys i =
    let none : n ≡ n + 0 = omega arith in
    ap (λ (k : ℕ). terms_from before k ys i) none
appended before n (x ∷ xs) ys i =
    let later : suc n + length xs ≡ n + suc (length xs) = omega arith in
    appended (with_node before n x) (suc n) xs ys i ∙ ap (λ (k : ℕ). terms_from (terms_from (with_node before n x) (suc n) xs) k ys i) later

-- a node keeps its terms when the log grows
pub kept : (log more : List Entry) (n : ℕ) → n ≤ length log → terms (log ++ more) n ≡ terms log n
kept log more n h =
    let small : n < 1 + length log = omega arith in
    appended (λ i. no_terms) 1 log more n ∙ below (terms log) (1 + length log) more n small

-- ---- what a node is

same_operands : (f g : ℕ → Terms) (n : ℕ) (e : Entry) → ((i : ℕ) → i < n → f i ≡ g i) → HasOperandsBefore n e → entry_terms f e ≡ entry_terms g e
same_operands f g n (Source b) h k = refl
same_operands f g n (Run c a b) h k = refl
same_operands f g n (Start l) h k = refl
same_operands f g n (Union a b) h k =
    let lower : a < n = omega arith in
    ap₂ joined (h a lower) (h b k.2)

unfolds : (before : ℕ → Terms) (n : ℕ) (es : List Entry) (k : ℕ) (e : Entry) → slice_get es k ≡ Some e → HasOperandsBefore (n + k) e → terms_from before n es (n + k) ≡ entry_terms (terms_from before n es) e
unfolds before n [] k e h b = cc
unfolds before n (x ∷ es) zero e h b =
    let none : n + 0 ≡ n = omega arith in
    let more : n + 0 < suc n = omega arith in
    let same : x ≡ e = cc in
    below (with_node before n x) (suc n) es (n + 0) more
    ∙ at_itself before n x (n + 0) none
    ∙ ap (entry_terms before) same
    ∙ sym (same_operands (terms_from before n (x ∷ es)) before (n + 0) e (λ i l. let lower : i < n = omega arith in below before n (x ∷ es) i lower) b)
unfolds before n (x ∷ es) (suc k) e h b =
    let later : n + suc k ≡ suc n + k = omega arith in
    ap (λ (i : ℕ). terms_from before n (x ∷ es) i) later
    ∙ unfolds (with_node before n x) (suc n) es k e h (subst (λ (i : ℕ). HasOperandsBefore i e) later b)

-- the terms of a node are those of its entry
pub terms_step : (log : List Entry) (n : ℕ) (e : Entry) → entry_at log n ≡ Some e → HasOperandsBefore n e → terms log n ≡ entry_terms (terms log) e
terms_step log zero e h b = cc
terms_step log (suc k) e h b =
    let later : suc k ≡ 1 + k = omega arith in
    ap (terms log) later ∙ unfolds (λ i. no_terms) 1 log k e h (subst (λ (i : ℕ). HasOperandsBefore i e) later b)

ordered_at : (n : ℕ) (es : List Entry) (k : ℕ) (e : Entry) → AreOrdered n es → slice_get es k ≡ Some e → HasOperandsBefore (n + k) e
ordered_at n [] k e o h = cc
ordered_at n (x ∷ es) zero e o h =
    let none : n ≡ n + 0 = omega arith in
    let same : x ≡ e = cc in
    subst (λ (i : ℕ). HasOperandsBefore i e) none (subst (HasOperandsBefore n) same o.0)
ordered_at n (x ∷ es) (suc k) e o h =
    let later : suc n + k ≡ n + suc k = omega arith in
    subst (λ (i : ℕ). HasOperandsBefore i e) later (ordered_at (suc n) es k e o.1 h)

-- the operands of a node stand before it
pub entry_before : (log : List Entry) (n : ℕ) (e : Entry) → AreOrdered 1 log → entry_at log n ≡ Some e → HasOperandsBefore n e
entry_before log zero e o h = cc
entry_before log (suc k) e o h =
    let later : 1 + k ≡ suc k = omega arith in
    subst (λ (i : ℕ). HasOperandsBefore i e) later (ordered_at 1 log k e o h)

pub ordered_more : (n : ℕ) (es : List Entry) (e : Entry) → AreOrdered n es → HasOperandsBefore (n + length es) e → AreOrdered n (es ++ e ∷ [])
ordered_more n [] e o b =
    let none : n + 0 ≡ n = omega arith in
    (subst (λ (i : ℕ). HasOperandsBefore i e) none b, tt)
ordered_more n (x ∷ es) e o b =
    let later : n + suc (length es) ≡ suc n + length es = omega arith in
    (o.0, ordered_more (suc n) es e o.1 (subst (λ (i : ℕ). HasOperandsBefore i e) later b))

-- ---- sets

pub ascend-joined : (a b : Terms) → AreSets b → AreSets (joined a b)
ascend-joined a b h = record { sources = Ascends-union source_total a.sources b.sources h.sources; starts = Ascends-union loc_total a.starts b.starts h.starts }

pub ascend-run : (r : SourceRun) → AreSets (run_term r)
ascend-run r = record { sources = run_ascends r; starts = tt }

ascend-entry : (f : ℕ → Terms) → ((i : ℕ) → AreSets (f i)) → (e : Entry) → AreSets (entry_terms f e)
ascend-entry f h (Source b) = record { sources = (tt, tt); starts = tt }
ascend-entry f h (Run c a b) = ascend-run (record { channel = c; first = a; last = b })
ascend-entry f h (Start l) = record { sources = tt; starts = (tt, tt) }
ascend-entry f h (Union a b) = ascend-joined (f a) (f b) (h b)

ascend-node : (f : ℕ → Terms) (n : ℕ) (e : Entry) → ((i : ℕ) → AreSets (f i)) → (i : ℕ) → AreSets (with_node f n e i)
ascend-node f n e h i = by (i == n) where
  by : (b : Bool) → AreSets (if b then entry_terms f e else f i)
  by true = ascend-entry f h e
  by false = h i

ascend-from : (f : ℕ → Terms) (n : ℕ) (es : List Entry) → ((i : ℕ) → AreSets (f i)) → (i : ℕ) → AreSets (terms_from f n es i)
ascend-from f n [] h i = h i
ascend-from f n (e ∷ es) h i = ascend-from (with_node f n e) (suc n) es (ascend-node f n e h) i

pub ascend-terms : (log : List Entry) (i : ℕ) → AreSets (terms log i)
ascend-terms log i = ascend-from (λ i. no_terms) 1 log (λ i. record { sources = tt; starts = tt }) i

pub joined_comm : (a b : Terms) → AreSets a → AreSets b → joined a b ≡ joined b a
joined_comm a b h k =
    let make : List SourceByte → List Loc → Terms = λ s l. record { sources = s; starts = l } in
    ap₂ make (union_comm source_total source_same a.sources b.sources h.sources k.sources) (union_comm loc_total loc_same a.starts b.starts h.starts k.starts)

pub joined_assoc : (a b c : Terms) → AreSets b → AreSets c → joined a (joined b c) ≡ joined (joined a b) c
joined_assoc a b c h k =
    let make : List SourceByte → List Loc → Terms = λ s l. record { sources = s; starts = l } in
    ap₂ make (union_assoc source_total source_same a.sources b.sources c.sources h.sources k.sources)
    (union_assoc loc_total loc_same a.starts b.starts c.starts h.starts k.starts)

union_again : {K : Type 0} {R : K → K → Ordering} → IsTotalOrder R → IsAntisymmetric R → (xs ys : List K) → Ascends R ys
    → union R xs (union R xs ys) ≡ union R xs ys
union_again {K = K} {R = R} o same xs ys a = same_list o same _ _ (Ascends-union o xs (union R xs ys) (Ascends-union o xs ys a)) (Ascends-union o xs ys a)
    (λ q. has-union o xs (union R xs ys) q ∙ ap (λ (b : Bool). has R q xs || b) (has-union o xs ys q) ∙ or_self_left (has R q xs) (has R q ys) ∙ sym
    (has-union o xs ys q))

pub joined_again : (a b : Terms) → AreSets b → joined a (joined a b) ≡ joined a b
joined_again a b h =
    let make : List SourceByte → List Loc → Terms = λ s l. record { sources = s; starts = l } in
    ap₂ make (union_again source_total source_same a.sources b.sources h.sources) (union_again loc_total loc_same a.starts b.starts h.starts)

pub joined_nothing : (a : Terms) → AreSets a → joined a no_terms ≡ a
joined_nothing a h =
    let make : List SourceByte → List Loc → Terms = λ s l. record { sources = s; starts = l } in
    ap₂ make (union-nil source_total a.sources h.sources) (union-nil loc_total a.starts h.starts)

pub joined_itself : (a : Terms) → AreSets a → joined a a ≡ a
joined_itself a h = ap (joined a) (sym (joined_nothing a h)) ∙ joined_again a no_terms (record { sources = tt; starts = tt }) ∙ joined_nothing a h

pub nothing_under_0 : (log : List Entry) → terms log 0 ≡ no_terms
nothing_under_0 log = below (λ i. no_terms) 1 log 0 (omega arith)

-- ---- unions of nodes

pub with_itself : (log : List Entry) (a b : ℕ) → a ≡ b → terms log a ≡ joined (terms log a) (terms log b)
with_itself log a b h = sym (ap (λ (i : ℕ). joined (terms log a) (terms log i)) (sym h) ∙ joined_itself (terms log a) (ascend-terms log a))

pub with_nothing : (log : List Entry) (a b : ℕ) → b ≡ 0 → terms log a ≡ joined (terms log a) (terms log b)
with_nothing log a b h = sym (ap (joined (terms log a)) (ap (terms log) h ∙ nothing_under_0 log) ∙ joined_nothing (terms log a) (ascend-terms log a))

pub nothing_with : (log : List Entry) (a b : ℕ) → a ≡ 0 → terms log b ≡ joined (terms log a) (terms log b)
nothing_with log a b h = sym (ap (λ (t : Terms). joined t (terms log b)) (ap (terms log) h ∙ nothing_under_0 log))
