-- The paths of nodes, one by one.
use Rattle.std.proofs.Common.{◌≡◌, ℕ, zero, suc, ◌+◌, ◌<◌, ◌≤◌, List, [], ◌∷◌, ◌++◌, length, get_or, refl, ap, sym, ◌∙◌, subst, arith, add-one, append_assoc}
use Rattle.std.specs.Prelude.{Option, Some, None}
use Rattle.std.proofs.lemmas.List.{get_or_append_left, get_or_push, length_push}
use Rattle.path_find.specs.declared.Arrival.{Arrival}
use Rattle.path_find.specs.Paths.{arrived}
use Rattle.path_find.specs.declared.nodes.Node.{Node}
use Rattle.path_find.specs.declared.nodes.Label.{Label}
use Rattle.path_find.specs.declared.nodes.Label.TheVariants.{Nothing, Read, At}
use Rattle.path_find.specs.Nodes.{previous_path, path_of_node, paths_from, paths_of, IsEarlier, AreEarlier}
use Rattle.path_find.specs.Labels.{StandsIn, path_at, MakesLabel, KeepsLabels}

-- a path that is there stays
kept_path : (ns : List Node) (paths : List (List Arrival)) (i : ℕ) → i < length paths → get_or (paths_from paths ns) i [] ≡ get_or paths i []
kept_path [] paths i h = refl
kept_path (n ∷ ns) paths i h =
    kept_path ns (paths ++ path_of_node paths n ∷ []) i (omega (arith, length_push paths (path_of_node paths n))) ∙ get_or_append_left paths (path_of_node paths n ∷ []) [] i h

kept_previous : (ns : List Node) (paths : List (List Arrival)) (b : Option ℕ) → IsEarlier (length paths) b → previous_path (paths_from paths ns) b ≡ previous_path paths b
kept_previous ns paths None h = refl
kept_previous ns paths (Some i) h = kept_path ns paths i h

-- each node's path is its arrival, and the path of the previous node
path_is : (ns : List Node) (paths : List (List Arrival)) (n i : ℕ) (d : Node) → length paths ≡ n → AreEarlier n ns → i < length ns
    → get_or (paths_from paths ns) (n + i) [] ≡ path_of_node (paths_from paths ns) (get_or ns i d)
path_is [] paths n i d e a h = absurd (omega arith)
path_is (x ∷ ns) paths n zero d e a h =
    let more = paths ++ path_of_node paths x ∷ [] in
    let here : n + 0 ≡ n = omega arith in
    let inside : n < length more = omega (arith, length_push paths (path_of_node paths x), e) in
    let low : IsEarlier (length paths) x.previous = subst (λ (m : ℕ). IsEarlier m x.previous) (sym e) a.0 in
    ap (λ (m : ℕ). get_or (paths_from more ns) m []) here ∙ kept_path ns more n inside ∙ get_or_push paths (path_of_node paths x) [] n e
    ∙ ap (λ (p : List Arrival). x.arrival ∷ p) (sym (kept_previous (x ∷ ns) paths x.previous low))
path_is (x ∷ ns) paths n (suc i) d e a h =
    let more = paths ++ path_of_node paths x ∷ [] in
    let place : n + suc i ≡ suc n + i = omega arith in
    ap (λ (m : ℕ). get_or (paths_from more ns) m []) place
    ∙ path_is ns more (suc n) i d (length_push paths (path_of_node paths x) ∙ ap (λ (m : ℕ). m + 1) e ∙ add-one n) a.1 (omega (arith, h))

pub node_path : (ns : List Node) (i : ℕ) (d : Node) → AreEarlier 0 ns → i < length ns → get_or (paths_of ns) i [] ≡ path_of_node (paths_of ns) (get_or ns i d)
node_path ns i d a h = let here : 0 + i ≡ i = omega arith in ap (λ (m : ℕ). get_or (paths_of ns) m []) (sym here) ∙ path_is ns [] 0 i d refl a h

pub earlier_node : (ns : List Node) (n i : ℕ) (d : Node) → AreEarlier n ns → i < length ns → IsEarlier (n + i) (get_or ns i d).previous
earlier_node [] n i d a h = absurd (omega arith)
earlier_node (x ∷ ns) n zero d a h = let here : n ≡ n + 0 = omega arith in subst (λ (m : ℕ). IsEarlier m x.previous) here a.0
earlier_node (x ∷ ns) n (suc i) d a h = let place : suc n + i ≡ n + suc i = omega arith in subst (λ (m : ℕ). IsEarlier m (get_or ns i d).previous) place (earlier_node ns (suc n) i d a.1 (omega (arith, h)))

-- ---- one node more

paths_push : (ns : List Node) (paths : List (List Arrival)) (x : Node) → paths_from paths (ns ++ x ∷ []) ≡ paths_from paths ns ++ path_of_node (paths_from paths ns) x ∷ []
paths_push [] paths x = refl
paths_push (n ∷ ns) paths x = paths_push ns (paths ++ path_of_node paths n ∷ []) x

length_paths : (ns : List Node) (paths : List (List Arrival)) → length (paths_from paths ns) ≡ length paths + length ns
length_paths [] paths = omega arith
length_paths (n ∷ ns) paths = let one = length_push paths (path_of_node paths n) in let rest = length_paths ns (paths ++ path_of_node paths n ∷ []) in omega arith

pub earlier_push : (ns : List Node) (n : ℕ) (x : Node) → AreEarlier n ns → IsEarlier (n + length ns) x.previous → AreEarlier n (ns ++ x ∷ [])
earlier_push [] n x a h = let here : n + 0 ≡ n = omega arith in (subst (λ (m : ℕ). IsEarlier m x.previous) here h, tt)
earlier_push (y ∷ ns) n x a h = let place : n + suc (length ns) ≡ suc n + length ns = omega arith in (a.0, earlier_push ns (suc n) x a.1 (subst (λ (m : ℕ). IsEarlier m x.previous) place h))

-- what stood stands, and means the same
pub push_keeps : (ns : List Node) (x : Node) → KeepsLabels ns (ns ++ x ∷ [])
push_keeps ns x Nothing h = record { stands = tt; means = refl }
push_keeps ns x Read h = record { stands = tt; means = refl }
push_keeps ns x (At i) h =
    let size = length_push ns x in
    let low : i < length (paths_of ns) = omega (arith, length_paths ns []) in
    record {
      stands = omega (arith, h);
      means = ap Some (ap (λ (ps : List (List Arrival)). get_or ps i []) (paths_push ns [] x) ∙ get_or_append_left (paths_of ns) (path_of_node (paths_of ns) x ∷ []) [] i low);
    }

-- the previous node, by a label
pub previous_of : Label → Option ℕ
previous_of Nothing = None
previous_of Read = None
previous_of (At i) = Some i

pub pushed : (ns : List Node) (x : Node) (rest : Option (List Arrival)) (size : ℕ) → size ≡ length ns → rest ≡ Some (previous_path (paths_of ns) x.previous)
    → MakesLabel (ns ++ x ∷ []) (arrived x.arrival.number x.arrival.loc rest) (At size)
pushed ns x rest size e is = record {
  stands = omega (arith, length_push ns x);
  means =
      let many : length (paths_of ns) ≡ size = omega (arith, length_paths ns []) in
      ap Some (ap (λ (ps : List (List Arrival)). get_or ps size []) (paths_push ns [] x) ∙ get_or_push (paths_of ns) (path_of_node (paths_of ns) x) [] size many)
      ∙ ap (arrived x.arrival.number x.arrival.loc) (sym is);
}

-- ---- a walk

-- how many nodes may be left to walk
abbrev pub count_left : Option ℕ → ℕ
count_left None = 0
count_left (Some i) = i + 1

pub left_falls : (i : ℕ) (b : Option ℕ) → IsEarlier i b → count_left b < i + 1
left_falls i None h = omega arith
left_falls i (Some j) h = omega (arith, h)

pub earlier_weaker : (m n : ℕ) (b : Option ℕ) → m ≤ n → IsEarlier m b → IsEarlier n b
earlier_weaker m n None le h = tt
earlier_weaker m n (Some j) le h = omega (arith, h)

-- ---- an arrival by a label

-- the previous node of an arrival where this label came
pub record IsPreviousOf (ns : List Node) (label : Label) (previous : Option ℕ) : Type 0 where
  pub inside : IsEarlier (length ns) previous
  pub rest : path_at ns label ≡ Some (previous_path (paths_of ns) previous)

pub of_read : (ns : List Node) (label : Label) (b : Option ℕ) → label ≡ Read → b ≡ None → IsPreviousOf ns label b
of_read ns label b e f = record {
  inside = subst (IsEarlier (length ns)) (sym f) tt;
  rest = ap (path_at ns) e ∙ ap (λ (o : Option ℕ). Some (previous_path (paths_of ns) o)) (sym f);
}

pub of_node : (ns : List Node) (label : Label) (b : Option ℕ) (i : ℕ) → label ≡ At i → b ≡ Some i → StandsIn ns label → IsPreviousOf ns label b
of_node ns label b i e f h = record {
  inside = subst (IsEarlier (length ns)) (sym f) (subst (StandsIn ns) e h);
  rest = ap (path_at ns) e ∙ ap (λ (o : Option ℕ). Some (previous_path (paths_of ns) o)) (sym f);
}

pub ordered : (items ns new : List Node) (x : Node) (label : Label) → items ≡ ns → new ≡ items ++ x ∷ [] → AreEarlier 0 items → IsPreviousOf ns label x.previous → AreEarlier 0 new
ordered items ns new x label v p a b =
    let low : IsEarlier (0 + length items) x.previous = subst (λ (n : ℕ). IsEarlier n x.previous) (ap length (sym v) ∙ zero_more (length items)) b.inside in
    subst (AreEarlier 0) (sym p) (earlier_push items 0 x a low)
  where
    zero_more : (n : ℕ) → n ≡ 0 + n
    zero_more n = omega arith

pub made_by : (items ns new : List Node) (x : Node) (label : Label) (size : ℕ) → items ≡ ns → new ≡ items ++ x ∷ [] → size ≡ length items → IsPreviousOf ns label x.previous
    → MakesLabel new (arrived x.arrival.number x.arrival.loc (path_at ns label)) (At size)
made_by items ns new x label size v p e b =
    subst (λ (ms : List Node). MakesLabel ms (arrived x.arrival.number x.arrival.loc (path_at ns label)) (At size)) (sym (p ∙ ap (λ (ms : List Node). ms ++ x ∷ []) v))
    (pushed ns x (path_at ns label) size (e ∙ ap length v) b.rest)

pub kept_by : (items ns new : List Node) (x : Node) → items ≡ ns → new ≡ items ++ x ∷ [] → KeepsLabels ns new
kept_by items ns new x v p = subst (KeepsLabels ns) (sym (p ∙ ap (λ (ms : List Node). ms ++ x ∷ []) v)) (push_keeps ns x)

-- ---- one node of a walk

pub one_walked : (items ns : List Node) (i : ℕ) (next : Option ℕ) (node : Node) (before after : List Arrival) (all : List Arrival) → items ≡ ns → AreEarlier 0 items
    → next ≡ Some i → IsEarlier (length ns) next → node ≡ get_or items i node → after ≡ before ++ node.arrival ∷ []
    → before ++ previous_path (paths_of ns) next ≡ all
    → (after ++ previous_path (paths_of ns) node.previous ≡ all) × IsEarlier (length ns) node.previous × IsEarlier i node.previous
one_walked items ns i next node before after all v a e h n p so =
    let low : i < length ns = subst (IsEarlier (length ns)) e h in
    let inside : i < length items = omega (arith, ap length v) in
    let b : IsEarlier (0 + i) node.previous = subst (λ (x : Node). IsEarlier (0 + i) x.previous) (sym n) (earlier_node items 0 i node a inside) in
    let zero_more : 0 + i ≡ i = omega arith in
    let under : IsEarlier i node.previous = subst (λ (k : ℕ). IsEarlier k node.previous) zero_more b in
    let here : get_or (paths_of ns) i [] ≡ node.arrival ∷ previous_path (paths_of ns) node.previous =
    ap (λ (ms : List Node). get_or (paths_of ms) i []) (sym v) ∙ node_path items i node a inside
    ∙ ap (λ (x : Node). path_of_node (paths_of items) x) (sym n) ∙ ap (λ (ms : List Node). path_of_node (paths_of ms) node) v in (
      ap (λ (xs : List Arrival). xs ++ previous_path (paths_of ns) node.previous) p ∙ append_assoc before (node.arrival ∷ []) (previous_path (paths_of ns) node.previous)
          ∙ ap (λ (xs : List Arrival). before ++ xs) (sym here) ∙ ap (λ (o : Option ℕ). before ++ previous_path (paths_of ns) o) (sym e) ∙ so,
      earlier_weaker i (length ns) node.previous (omega arith) under,
      under,
    )
