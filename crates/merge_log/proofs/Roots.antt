-- What was found of each root, as one of them changes.
use Rattle.std.proofs.Common.{◌≡◌, ◌≢◌, ℕ, zero, suc, ◌+◌, ◌<◌, ◌≤◌, ◌==◌, List, [], ◌∷◌, ◌++◌, length, refl, ap, ap₂, sym, ◌∙◌, subst, Bool, true, false, arith, slice_index, slice_set, map, ◌⊎◌, inl, inr, if◌then◌else◌}
use Rattle.std.specs.Prelude.{slice_index_or}
use Rattle.std.proofs.lemmas.Grind.{common_steps}
use Rattle.std.proofs.lemmas.Bool.{cases_lt}
use Rattle.std.proofs.lemmas.List.{length-set}
use Rattle.flow_model.specs.declared.Loc.{Loc}
use Rattle.source_runs.specs.declared.runs.SourceRun.{SourceRun}
use Rattle.source_runs.specs.Runs.{all_bytes}
use Rattle.merge_log.specs.declared.finding.FoundLeaves.{FoundLeaves}
use Rattle.merge_log.specs.declared.finding.Leaves.{Leaves}
use Rattle.merge_log.specs.Log.{Terms, no_terms}
use Rattle.merge_log.specs.Walk.{terms_of}
use Rattle.merge_log.specs.Masks.{found_at, and_leaves, with_leaves}

-- ---- one of the sets

pub empty_terms : (f : FoundLeaves) → f.runs.items ≡ [] → f.starts.items ≡ [] → terms_of f ≡ no_terms
empty_terms f h k = ap₂ (λ (rs : List SourceRun) (ls : List Loc). record { sources = all_bytes rs; starts = ls }) h k

pub set_same : (fs : List FoundLeaves) (i : ℕ) (f : FoundLeaves) → i < length fs → found_at (slice_set fs i f) i ≡ terms_of f
set_same [] i f h = absurd (omega arith)
set_same (g ∷ fs) zero f h = refl
set_same (g ∷ fs) (suc i) f h = set_same fs i f (omega arith)

pub set_other : (fs : List FoundLeaves) (i : ℕ) (f : FoundLeaves) (j : ℕ) → i ≢ j → found_at (slice_set fs i f) j ≡ found_at fs j
set_other [] i f j h = refl
set_other (g ∷ fs) zero f zero h = absurd (h refl)
set_other (g ∷ fs) zero f (suc j) h = refl
set_other (g ∷ fs) (suc i) f zero h = refl
set_other (g ∷ fs) (suc i) f (suc j) h = set_other fs i f j (λ e. h (ap suc e))

found_read : (fs : List FoundLeaves) (i : ℕ) (d : FoundLeaves) → i < length fs → found_at fs i ≡ terms_of (slice_index_or fs i d)
found_read [] i d h = absurd (omega arith)
found_read (g ∷ fs) zero d h = refl
found_read (g ∷ fs) (suc i) d h = found_read fs i d (omega arith)

-- the set that is lent is that of the root
pub found_lent : (fs : List FoundLeaves) (i : ℕ) (f : FoundLeaves) → i < length fs → f ≡ slice_index_or fs i f → terms_of f ≡ found_at fs i
found_lent fs i f h is = ap terms_of is ∙ sym (found_read fs i f h)

pub found_beyond : (fs : List FoundLeaves) (r : ℕ) → length fs ≤ r → found_at fs r ≡ no_terms
found_beyond [] r h = refl
found_beyond (g ∷ fs) zero h = absurd (omega arith)
found_beyond (g ∷ fs) (suc r) h = found_beyond fs r (omega arith)

-- an empty set at the end
pub empty_more : (fs : List FoundLeaves) (f : FoundLeaves) → terms_of f ≡ no_terms → ((r : ℕ) → found_at fs r ≡ no_terms) → (r : ℕ) → found_at (fs ++ f ∷ []) r ≡ no_terms
empty_more [] f is h zero = is
empty_more [] f is h (suc r) = refl
empty_more (g ∷ fs) f is h zero = h zero
empty_more (g ∷ fs) f is h (suc r) = empty_more fs f is (λ i. h (suc i)) r

-- each set is what a root has
pub map_found : (fs : List FoundLeaves) (roots : List ℕ) (G : ℕ → Terms) → length fs ≡ length roots → ((r : ℕ) → r < length roots → found_at fs r ≡ G (slice_index roots r)) → map terms_of fs ≡ map G roots
map_found [] [] G e h = refl
map_found [] (n ∷ roots) G e h = absurd (omega (arith, e))
map_found (f ∷ fs) [] G e h = absurd (omega (arith, e))
map_found (f ∷ fs) (n ∷ roots) G e h =
    let cons : Terms → List Terms → List Terms = λ t ts. t ∷ ts in
    ap₂ cons (h zero (omega arith)) (map_found fs roots G (omega (arith, e)) (λ r l. h (suc r) (omega (arith, l))))

-- ---- one turn over the roots

pub number_case : (m n : ℕ) → (m ≡ n) ⊎ (m ≢ n)
number_case m n = by (m == n) refl where
  by : (b : Bool) → (m == n) ≡ b → (m ≡ n) ⊎ (m ≢ n)
  by true p = inl (grind (arith, common_steps))
  by false p = inr (λ e. absurd (grind (arith, common_steps)))

-- the roots before this one have what they are to have, by what each had, and the others are as they were
pub record AreGiven (Q : ℕ → Terms → Terms → Type 0) (old now : List FoundLeaves) (root : ℕ) : Type 0 where
  pub sets : length now ≡ length old
  pub given : (r : ℕ) → r < root → Q r (found_at old r) (found_at now r)
  pub rest : (r : ℕ) → root ≤ r → found_at now r ≡ found_at old r

module _ (Q : ℕ → Terms → Terms → Type 0) (old now : List FoundLeaves) (root : ℕ) (a : AreGiven Q old now root) where
  given_step : (new : List FoundLeaves) → length new ≡ length now → ((r : ℕ) → root ≢ r → found_at new r ≡ found_at now r)
      → Q root (found_at now root) (found_at new root) → AreGiven Q old new (root + 1)
  given_step new sets others is = record {
    sets = sets ∙ a.sets;
    given = λ r l. elim (number_case root r) [
      | inl e ↦ subst (λ (i : ℕ). Q i (found_at old i) (found_at new i)) e (subst (λ (t : Terms). Q root t (found_at new root)) (a.rest root (omega arith)) is)
      | inr e ↦ subst (Q r (found_at old r)) (sym (others r e)) (a.given r (omega (arith, l, e)))
    ];
    rest = λ r l. others r (omega (arith, l)) ∙ a.rest r (omega (arith, l));
  }

  pub given_next : (f : FoundLeaves) → root < length now → Q root (found_at now root) (terms_of f) → AreGiven Q old (slice_set now root f) (root + 1)
  given_next f h is =
      given_step (slice_set now root f) (length-set now root f) (set_other now root f) (subst (Q root (found_at now root)) (sym (set_same now root f h)) is)

  pub given_none : Q root (found_at now root) (found_at now root) → AreGiven Q old now (root + 1)
  given_none is = given_step now refl (λ r e. refl) is

  -- beyond the last one none has any
  pub given_all : length now ≤ root → ((r : ℕ) → Q r no_terms no_terms) → (r : ℕ) → Q r (found_at old r) (found_at now r)
  given_all h none r = elim (cases_lt r root) [
    | inl l ↦ a.given r l
    | inr g ↦
        subst (λ (t : Terms). Q r t (found_at now r)) (a.rest r g) (subst (λ (t : Terms). Q r t t) (sym (found_beyond now r (omega (arith, h, g)))) (none r))
  ]

-- ---- a bit

pub leaves_kept : (bit : ℕ) (u : Leaves) (t : Terms) → bit ≢ 1 → with_leaves bit u t ≡ t
leaves_kept bit u t h = by (bit == 1) refl where
  by : (x : Bool) → (bit == 1) ≡ x → (if x then and_leaves u t else t) ≡ t
  by true p = absurd (h (grind (arith, common_steps)))
  by false p = refl
