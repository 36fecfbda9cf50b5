-- What of the rows of a query is another's own, and queries taken together.
use Rattle.std.proofs.Common.{◌≡◌, ℕ, ◌+◌, ◌==◌, List, [], ◌∷◌, ◌++◌, Bool, true, false, cond, refl, ap, ap₂, sym, ◌∙◌, subst, map, inl, inr}
use Rattle.std.specs.Prelude.{Option, Some, None, Ok, ◌||◌, ◌&&◌, Contains}
use Rattle.std.specs.List.{filter, flat_map, list_any, AllByRecursion}
use Rattle.std.specs.Ordering.{eq_by_cmp}
use Rattle.std.proofs.lemmas.Bool.{or_left, or_right}
use Rattle.std.proofs.lemmas.List.Concat.{flat_map-cons}
use Rattle.std.proofs.lemmas.List.Elements.{filter-append, recursion_from_All, All-from_recursion, All-contains_itself}
use Rattle.std.proofs.lemmas.List.Folds.{list_any-append}
use Rattle.flow_model.specs.declared.InnerSink.{InnerSink}
use Rattle.flow_model.specs.declared.Rule.{Rule}
use Rattle.flow_model.specs.declared.Rule.TheVariants.{Copy, Keep, Compute, Index}
use Rattle.flow_model.specs.declared.SinkPoint.{SinkPoint}
use Rattle.flow_model.specs.declared.SinkPoint.TheVariants.{Out, At}
use Rattle.flow_model.specs.declared.SourceByte.{SourceByte}
use Rattle.flow_model.specs.declared.StepSeen.{StepSeen}
use Rattle.flow_model.specs.Orders.{inner_cmp}
use Rattle.flow_model.proofs.Orders.{inner_total, inner_same, point_same}
use Rattle.flow_model.proofs.Narrowed.{narrowed-origins}
use Rattle.lists.specs.Sets.{set_of, has, Ascends}
use Rattle.lists.proofs.Algebra.{Ascends-set_of, has-set_of, same_list}
use Rattle.lists.proofs.Filters.{IsAlikeWhereTied, Ascends-filter, has-filter, filter-set_of, map-set_of}
use Rattle.lists.proofs.Lists.{all-weaken}
use Rattle.report_model.specs.declared.QueryKind.{QueryKind}
use Rattle.report_model.specs.Query.{Query, has_source, has_sink, policy_of}
use Rattle.report_model.specs.Grammar.{query_of, read_lines, first_fault, unless, points_in}
use Rattle.report_model.specs.Rows.{Sink, Row, row, rows, point_sink, points_at, sinks_of_step, sinks_from, chosen_sinks, row_cmp}
use Rattle.report_model.specs.Together.{Covers, only, together, first_rule, is_same_rule, other_rule, first_other_rule}
use Rattle.report_model.specs.TogetherLaws.{PointsAscend, OnlyIsOwn, TogetherCovers, TogetherAscends, EachIsOwn}
use Rattle.report_model.proofs.Each.{each-both}
use Rattle.report_model.proofs.Members.{Some_in, some-Contains}
use Rattle.report_model.proofs.RowLemmas.{row_total}

-- ---- filters

module _ {X Y : Type 0} where
  filter-map : (t : Y → Bool) (f : X → Y) (xs : List X) → filter t (map f xs) ≡ map f (filter (λ x. t (f x)) xs)
  filter-map t f [] = refl
  filter-map t f (x ∷ xs) = by (filter-map t f xs) (t (f x)) where
    by : filter t (map f xs) ≡ map f (filter (λ y. t (f y)) xs) → (b : Bool) → cond b (f x ∷ filter t (map f xs)) (filter t (map f xs)) ≡ map f (cond b (x ∷ filter (λ y. t (f y)) xs) (filter (λ y. t (f y)) xs))
    by ih true = ap (λ (ys : List Y). f x ∷ ys) ih
    by ih false = ih

module _ {X : Type 0} (t s : X → Bool) where
  filter-swap : (xs : List X) → filter t (filter s xs) ≡ filter s (filter t xs)
  filter-swap [] = refl
  filter-swap (x ∷ xs) = by (filter-swap xs) (s x) refl (t x) refl where
    by : filter t (filter s xs) ≡ filter s (filter t xs) → (b : Bool) → s x ≡ b → (c : Bool) → t x ≡ c
        → filter t (cond b (x ∷ filter s xs) (filter s xs)) ≡ filter s (cond c (x ∷ filter t xs) (filter t xs))
    by ih true e true f = ap₂ (λ (c : Bool) (ys : List X). cond c (x ∷ ys) ys) f ih ∙ sym (ap (λ (b : Bool). cond b (x ∷ filter s (filter t xs)) (filter s (filter t xs))) e)
    by ih true e false f = ap (λ (c : Bool). cond c (x ∷ filter t (filter s xs)) (filter t (filter s xs))) f ∙ ih
    by ih false e true f = ih ∙ sym (ap (λ (b : Bool). cond b (x ∷ filter s (filter t xs)) (filter s (filter t xs))) e)
    by ih false e false f = ih

  -- what t keeps of what s keeps is what t keeps, where s keeps all that t does
  filter-within : ((x : X) → t x ≡ true → s x ≡ true) → (xs : List X) → filter t (filter s xs) ≡ filter t xs
  filter-within w [] = refl
  filter-within w (x ∷ xs) = by (filter-within w xs) (s x) refl (t x) refl where
    by : filter t (filter s xs) ≡ filter t xs → (b : Bool) → s x ≡ b → (c : Bool) → t x ≡ c → filter t (cond b (x ∷ filter s xs) (filter s xs)) ≡ cond c (x ∷ filter t xs) (filter t xs)
    by ih true e c f = ap₂ (λ (d : Bool) (ys : List X). cond d (x ∷ ys) ys) f ih
    by ih false e true f = let g = w x f in cc
    by ih false e false f = ih

-- ---- what of the rows of u is q's own

module _ (u q : Query) (covers : Covers u q) (q_ascends : Ascends inner_cmp q.points) (u_ascends : Ascends inner_cmp u.points) where
  has_own : InnerSink → Bool
  has_own p = has inner_cmp p q.points

  alike_points : IsAlikeWhereTied inner_cmp has_own
  alike_points a b e = ap has_own (inner_same a b e)

  both_points : (p : InnerSink) → has inner_cmp p (filter has_own u.points) ≡ has inner_cmp p q.points
  unfolding has_own
  both_points p = has-filter inner_total has_own alike_points u.points p ∙ by (has_own p) refl where
    by : (b : Bool) → has inner_cmp p q.points ≡ b → (b && has inner_cmp p u.points) ≡ b
    by true e = covers.points p e
    by false e = refl

  kept_points : filter has_own u.points ≡ q.points
  kept_points = same_list inner_total inner_same (filter has_own u.points) q.points (Ascends-filter inner_cmp has_own u.points u_ascends) q_ascends both_points

  is_chosen : Sink → Bool
  is_chosen x = has_sink q x.name

  own_at : (t : ℕ) → filter is_chosen (points_at u t) ≡ points_at q t
  unfolding has_own is_chosen
  own_at t =
      filter-map is_chosen point_sink (filter (λ p. p.time == t) u.points)
      ∙ ap (map point_sink) (filter-swap has_own (λ p. p.time == t) u.points ∙ ap (filter (λ p. p.time == t)) kept_points)

  within : (x : Sink) → is_chosen x ≡ true → has_sink u x.name ≡ true
  unfolding is_chosen
  within x e = by x.name e where
    by : (s : SinkPoint) → has_sink q s ≡ true → has_sink u s ≡ true
    by (Out b) f = covers.sinks b.channel b.offset f
    by (At p) f = covers.points p f

  own_from : (t : ℕ) (trace : List StepSeen) → filter is_chosen (sinks_from u t trace) ≡ sinks_from q t trace
  unfolding is_chosen
  own_from t [] = own_at t
  own_from t (s ∷ ss) =
      let written = sinks_of_step t s.call in
      filter-append is_chosen (points_at u t ++ filter (λ x. has_sink u x.name) written) (sinks_from u (t + 1) ss)
      ∙ ap₂ (λ (xs ys : List Sink). xs ++ ys)
      (filter-append is_chosen (points_at u t) (filter (λ x. has_sink u x.name) written)
      ∙ ap₂ (λ (xs ys : List Sink). xs ++ ys) (own_at t) (filter-within is_chosen (λ x. has_sink u x.name) within written))
      (own_from (t + 1) ss)

  module _ (trace : List StepSeen) where
    own : Row → Row
    own r = record { sink = r.sink; sources = filter (has_source q) r.sources }

    is_own : Row → Bool
    is_own r = has_sink q r.sink

    alike_rows : IsAlikeWhereTied row_cmp is_own
    unfolding is_own
    alike_rows a b e = ap (has_sink q) (point_same a.sink b.sink e)

    own_row : (x : Sink) → own (row u trace x) ≡ row q trace x
    unfolding own
    own_row x = ap (λ (xs : List SourceByte). record { sink = x.name; sources = xs })
        (sym (narrowed-origins (policy_of q) (policy_of u) covers.rule (λ b. covers.sources b.channel b.offset) trace x.time x.loc))

    own_rows : (xs : List Sink) → map own (map (row u trace) xs) ≡ map (row q trace) xs
    own_rows [] = refl
    own_rows (x ∷ xs) = ap₂ (λ (r : Row) (rs : List Row). r ∷ rs) (own_row x) (own_rows xs)

    rows_are_own : rows q trace ≡ only q (rows u trace)
    unfolding own is_own is_chosen
    rows_are_own =
        let sinks = chosen_sinks u trace in
        sym (ap (map own) (filter-set_of row_total is_own alike_rows (map (row u trace) sinks) ∙ ap (set_of row_cmp) (filter-map is_own (row u trace) sinks))
        ∙ map-set_of row_cmp row_cmp own (λ a b. refl) (map (row u trace) (filter is_chosen sinks))
        ∙ ap (set_of row_cmp) (own_rows (filter is_chosen sinks) ∙ ap (map (row q trace)) (own_from 0 trace)))

pub only_is_own : OnlyIsOwn
only_is_own u q trace covers q_ascends u_ascends = rows_are_own u q covers q_ascends u_ascends trace

-- ---- queries taken together

-- what one of several has, all of them together have
any_flat : {X Y : Type 0} (t : Y → Bool) (f : X → List Y) (x : X) (xs : List X) → Some_in (λ y. y ≡ x) xs → list_any t (f x) ≡ true → list_any t (flat_map f xs) ≡ true
any_flat t f x [] h e = absurd h
any_flat {X} {Y} t f x (y ∷ ys) h e = ap (list_any t) (flat_map-cons f y ys) ∙ list_any-append t (f y) (flat_map f ys) ∙ by (any_flat t f x ys) h where
  by : (Some_in (λ z. z ≡ x) ys → list_any t (f x) ≡ true → list_any t (flat_map f ys) ≡ true) → Some_in (λ z. z ≡ x) (y ∷ ys) → (list_any t (f y) || list_any t (flat_map f ys)) ≡ true
  by rest (inl g) = or_left _ _ (ap (λ (z : X). list_any t (f z)) g ∙ e)
  by rest (inr g) = or_right _ _ (rest g e)

same_rule : (a b : Rule) → is_same_rule a b ≡ true → a ≡ b
same_rule Copy Copy e = refl
same_rule Keep Keep e = refl
same_rule Compute Compute e = refl
same_rule Index Index e = refl
same_rule a b e = cc

none_differs : (rule : Rule) (n : ℕ) (qs : List Query) → other_rule rule n qs ≡ None → AllByRecursion (λ q. rule ≡ q.rule) qs
none_differs rule n [] e = tt
none_differs rule n (q ∷ qs) e = by (none_differs rule (n + 1) qs) (is_same_rule rule q.rule) refl e where
  by : (other_rule rule (n + 1) qs ≡ None → AllByRecursion (λ r. rule ≡ r.rule) qs) → (b : Bool) → is_same_rule rule q.rule ≡ b
      → cond b (other_rule rule (n + 1) qs) (Some (rule, n, q.rule)) ≡ None → AllByRecursion (λ r. rule ≡ r.rule) (q ∷ qs)
  by rest true s f = (same_rule rule q.rule s, rest f)
  by rest false s f = cc

same_rules : (qs : List Query) → first_other_rule qs ≡ None → AllByRecursion (λ q. first_rule qs ≡ q.rule) qs
same_rules [] e = tt
same_rules (q ∷ qs) e = (refl, none_differs q.rule 2 qs e)

covers_one : (qs : List Query) (q : Query) → Contains qs q → first_rule qs ≡ q.rule → Covers (together qs) q
covers_one qs q c rule =
    let there = some-Contains qs q c in
    record {
      rule = rule;
      sources = λ c o. any_flat _ (λ (p : Query). p.sources) q qs there;
      sinks = λ c o. any_flat _ (λ (p : Query). p.sinks) q qs there;
      points = λ p e. has-set_of inner_total (flat_map (λ (r : Query). r.points) qs) p ∙ any_flat (eq_by_cmp inner_cmp p) (λ (r : Query). r.points) q qs there e;
    }

covers_each : (qs : List Query) → first_other_rule qs ≡ None → AllByRecursion (Covers (together qs)) qs
covers_each qs e =
    let own = recursion_from_All (Contains qs) qs (All-contains_itself qs) in
    all-weaken _ (Covers (together qs)) (λ (q : Query) h. covers_one qs q h.0 h.1) qs (each-both (Contains qs) (λ (q : Query). first_rule qs ≡ q.rule) qs own (same_rules qs e))

pub together_covers : TogetherCovers
together_covers qs e = All-from_recursion (Covers (together qs)) qs (covers_each qs e)

pub together_ascends : TogetherAscends
together_ascends qs = Ascends-set_of inner_total (flat_map (λ q. q.points) qs)

pub each_is_own : EachIsOwn
each_is_own qs trace e a =
    let ascending = recursion_from_All (λ (q : Query). Ascends inner_cmp q.points) qs a in
    All-from_recursion (λ (q : Query). rows q trace ≡ only q (rows (together qs) trace)) qs
    (all-weaken _ (λ (q : Query). rows q trace ≡ only q (rows (together qs) trace)) (λ (q : Query) h. only_is_own (together qs) q trace h.0 h.1 (together_ascends qs)) qs
    (each-both (Covers (together qs)) (λ (q : Query). Ascends inner_cmp q.points) qs (covers_each qs e) ascending))

-- ---- the points of a text's query

pub query-points-ascend : PointsAscend
query-points-ascend text q e = by (first_fault 1 false (read_lines text)) e where
  by : (fault : Option (ℕ × QueryKind)) → unless fault (query_of (read_lines text)) ≡ Ok q → Ascends inner_cmp q.points
  by None f =
      let same : query_of (read_lines text) ≡ q = cc in
      subst (λ (p : Query). Ascends inner_cmp p.points) same (Ascends-set_of inner_total (flat_map points_in (read_lines text)))
  by (Some fault) f = cc
