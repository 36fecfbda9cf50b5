-- A path is told exactly where the report lists the source byte. Crates above cite the first of these lemmas.
use Rattle.std.proofs.Common.{◌≡◌, ℕ, ◌+◌, ◌≤◌, Bool, true, false, ◌&&◌, if◌then◌else◌, List, [], ◌∷◌, ◌++◌, length, refl, ap, ap₂, sym, ◌∙◌, subst, arith, inl, inr, suc}
use Rattle.std.specs.Prelude.{Option, Some, None, ◌⊎◌, nat_le, Contains, All}
use Rattle.std.specs.List.{find, filter}
use Rattle.std.specs.Ordering.{is_eq}
use Rattle.std.specs.Cmp.{tied_itself}
use Rattle.std.proofs.lemmas.Bool.Decides.{nat_tests}
use Rattle.std.proofs.lemmas.List.Elements.{All-contains, All-nil, All-cons, All-head, All-tail}
use Rattle.std.proofs.lemmas.List.Folds.{Any-from_list_any, list_any-from_Any}
use Rattle.std.proofs.lemmas.Option.{same_Some}
use Rattle.lists.proofs.Algebra.{tied_by, has-Contains, Contains-has}
use Rattle.flow_model.specs.declared.InnerSink.{InnerSink}
use Rattle.flow_model.specs.declared.SinkByte.{SinkByte}
use Rattle.flow_model.specs.declared.SinkPoint.{SinkPoint}
use Rattle.flow_model.specs.declared.SinkPoint.TheVariants.{Out, At}
use Rattle.flow_model.specs.declared.SourceByte.{SourceByte}
use Rattle.flow_model.specs.declared.StepSeen.{StepSeen}
use Rattle.flow_model.specs.Orders.{point_cmp}
use Rattle.flow_model.specs.Origins.{origins}
use Rattle.flow_model.specs.OriginLaws.{WasRead}
use Rattle.flow_model.proofs.Orders.{point_total, point_same, inner_total, inner_same}
use Rattle.flow_model.proofs.OriginsRead.{origins_were_read}
use Rattle.report_model.specs.Query.{Query, has_source, has_sink, policy_of}
use Rattle.report_model.specs.Rows.{Sink, Row, row, sinks_of_step, point_sink, points_at, sinks_from, chosen_sinks, rows_as_written, rows}
use Rattle.report_model.specs.RowLaws.{has_row, sources_at, IsRowOfPoint}
use Rattle.report_model.proofs.Members.{Some_in, Any-some, some-Contains, Contains-some, some-each, some-gives, some-left, some-right, filter-some, some-filter, map-some, some-map, some-append}
use Rattle.report_model.proofs.RowLemmas.{all_written, same_sinks}
use Rattle.report_model.proofs.PointRows.{points_have_rows}
use Rattle.path_find.specs.declared.Arrival.{Arrival}
use Rattle.path_find.specs.Paths.{path}
use Rattle.path_find.specs.FirstPair.{written_from, sink_of, PathTo, ended_in, path_to_sink, path_to, IsWrittenOnce, PathsAreListed, pair_or, first_pair, NoneIsListed, FirstPairHasPath}
use Rattle.path_find.proofs.One.{one_path_is_origin}
use Rattle.path_find.specs.declared.Pair.{Pair}

-- ---- lists

pub found_in : {X : Type 0} (t : X → Bool) (xs : List X) (y : X) → find t xs ≡ Some y → Some_in (λ x. x ≡ y) xs × (t y ≡ true)
found_in t [] y e = absurd cc
found_in {X} t (x ∷ xs) y e = by (found_in t xs y) (t x) refl e where
  by : (find t xs ≡ Some y → Some_in (λ x. x ≡ y) xs × (t y ≡ true)) → (b : Bool) → t x ≡ b → (if b then Some x else find t xs) ≡ Some y → Some_in (λ z. z ≡ y) (x ∷ xs) × (t y ≡ true)
  by ih true is e = let same = same_Some x y e in (inl same, ap t (sym same) ∙ is)
  by ih false is e = let rest = ih e in (inr rest.0, rest.1)

there_found : {X : Type 0} (t : X → Bool) (xs : List X) (y : X) → Some_in (λ x. x ≡ y) xs → t y ≡ true → (z : X) × (find t xs ≡ Some z)
there_found t [] y h e = absurd h
there_found {X} t (x ∷ xs) y h e = by (there_found t xs y) (t x) refl h where
  by : (Some_in (λ x. x ≡ y) xs → t y ≡ true → (z : X) × (find t xs ≡ Some z)) → (b : Bool) → t x ≡ b → Some_in (λ z. z ≡ y) (x ∷ xs) → (z : X) × ((if b then Some x else find t xs) ≡ Some z)
  by ih true is h = (x, refl)
  by ih false is (inl same) = let yes : t x ≡ true = ap t same ∙ e in absurd cc
  by ih false is (inr more) = ih more e

-- ---- names

pub named : (a b : SinkPoint) → is_eq (point_cmp a b) ≡ true → a ≡ b
named a b e = point_same a b (tied_by (point_cmp a b) e)

same_name : (a b : SinkPoint) → a ≡ b → is_eq (point_cmp a b) ≡ true
same_name a b e = ap (λ (c : SinkPoint). is_eq (point_cmp a c)) (sym e) ∙ ap is_eq (tied_itself point_total a)

no_point : (p : InnerSink) (b : SinkByte) → At p ≡ Out b → ⊥
no_point p b e = cc

-- ---- the output bytes of a trace that the query chooses

module _ (q : Query) (b : SinkByte) (y : Sink) (is : y.name ≡ Out b) where
  none_at : (t : ℕ) → Some_in (λ x. x ≡ y) (points_at q t) → ⊥
  none_at t h = some-gives (λ p. point_sink p ≡ y) ⊥ (λ p e. no_point p b (ap (λ (x : Sink). x.name) e ∙ is)) _ (map-some (λ x. x ≡ y) point_sink _ h)

  chosen_written : (t : ℕ) (trace : List StepSeen) → Some_in (λ x. x ≡ y) (sinks_from q t trace) → Some_in (λ x. x ≡ y) (written_from t trace)
  chosen_written t [] h = absurd (none_at t h)
  chosen_written t (s ∷ ss) h =
      by (chosen_written (t + 1) ss) (some-append (λ x. x ≡ y) (points_at q t ++ filter (λ x. has_sink q x.name) (sinks_of_step t s.call)) (sinks_from q (t + 1) ss) h)
    where
      of_step : Some_in (λ x. x ≡ y) (points_at q t) ⊎ Some_in (λ x. x ≡ y) (filter (λ x. has_sink q x.name) (sinks_of_step t s.call)) → Some_in (λ x. x ≡ y) (sinks_of_step t s.call)
      of_step (inl h) = absurd (none_at t h)
      of_step (inr h) = some-each _ (λ x. x ≡ y) (λ x k. k.1) (sinks_of_step t s.call) (filter-some (λ x. x ≡ y) (λ x. has_sink q x.name) (sinks_of_step t s.call) h)

      by : (Some_in (λ x. x ≡ y) (sinks_from q (t + 1) ss) → Some_in (λ x. x ≡ y) (written_from (t + 1) ss))
          → Some_in (λ x. x ≡ y) (points_at q t ++ filter (λ x. has_sink q x.name) (sinks_of_step t s.call)) ⊎ Some_in (λ x. x ≡ y) (sinks_from q (t + 1) ss)
          → Some_in (λ x. x ≡ y) (written_from t (s ∷ ss))
      by ih (inl h) = some-left (λ x. x ≡ y) (sinks_of_step t s.call) (written_from (t + 1) ss) (of_step (some-append (λ x. x ≡ y) (points_at q t) _ h))
      by ih (inr h) = some-right (λ x. x ≡ y) (sinks_of_step t s.call) (written_from (t + 1) ss) (ih h)

  pub written_chosen : has_sink q (Out b) ≡ true → (t : ℕ) (trace : List StepSeen) → Some_in (λ x. x ≡ y) (written_from t trace) → Some_in (λ x. x ≡ y) (sinks_from q t trace)
  written_chosen c t [] h = absurd h
  written_chosen c t (s ∷ ss) h = by (written_chosen c (t + 1) ss) (some-append (λ x. x ≡ y) (sinks_of_step t s.call) (written_from (t + 1) ss) h) where
    by : (Some_in (λ x. x ≡ y) (written_from (t + 1) ss) → Some_in (λ x. x ≡ y) (sinks_from q (t + 1) ss))
        → Some_in (λ x. x ≡ y) (sinks_of_step t s.call) ⊎ Some_in (λ x. x ≡ y) (written_from (t + 1) ss) → Some_in (λ x. x ≡ y) (sinks_from q t (s ∷ ss))
    by ih (inl h) =
        let kept = some-each _ (λ (x : Sink). (has_sink q x.name ≡ true) × (x ≡ y)) (λ x e. (ap (λ (z : Sink). has_sink q z.name) e ∙ ap (has_sink q) is ∙ c, e)) (sinks_of_step t s.call) h in
        some-left (λ x. x ≡ y) (points_at q t ++ filter (λ x. has_sink q x.name) (sinks_of_step t s.call)) (sinks_from q (t + 1) ss)
        (some-right (λ x. x ≡ y) (points_at q t) _ (some-filter (λ x. x ≡ y) (λ x. has_sink q x.name) (sinks_of_step t s.call) kept))
    by ih (inr h) = some-right (λ x. x ≡ y) (points_at q t ++ filter (λ x. has_sink q x.name) (sinks_of_step t s.call)) (sinks_from q (t + 1) ss) (ih h)

-- ---- the row of an output byte

-- a sink of the run that an output byte's row is of
record IsRowOf (q : Query) (trace : List StepSeen) (b : SinkByte) (r : Row) : Type 0 where
  sink : Sink
  name : sink.name ≡ Out b
  written : Contains (written_from 0 trace) sink
  sources : r.sources ≡ origins (policy_of q) trace sink.time sink.loc
  chosen : has_sink q (Out b) ≡ true

row_of : (q : Query) (trace : List StepSeen) (b : SinkByte) (r : Row) → Contains (rows q trace) r → r.sink ≡ Out b → IsRowOf q trace b r
row_of q trace b r c e =
    let was = All-contains (λ (z : Row). Contains (rows_as_written q trace) z × (has_sink q z.sink ≡ true)) (rows q trace) r (all_written q trace) c in
    let some = Any-some (λ (x : Sink). row q trace x ≡ r) (chosen_sinks q trace) (map-some (λ x. x ≡ r) (row q trace) (chosen_sinks q trace) (some-Contains (rows_as_written q trace) r was.0)) in
    let x = some.1 in
    let name : x.name ≡ Out b = ap (λ (z : Row). z.sink) some.4 ∙ e in
    record {
      sink = x;
      name = name;
      written = Contains-some (written_from 0 trace) x (chosen_written q b x name 0 trace (some-Contains (chosen_sinks q trace) x (some.0, some.2, some.3)));
      sources = ap (λ (z : Row). z.sources) (sym some.4);
      chosen = ap (has_sink q) (sym e) ∙ was.1;
    }

-- each output byte that the query chooses has a row
has_one : (q : Query) (trace : List StepSeen) (b : SinkByte) (y : Sink) → y.name ≡ Out b → has_sink q (Out b) ≡ true → Some_in (λ x. x ≡ y) (written_from 0 trace)
    → (r : Row) × Contains (rows q trace) r × (r.sink ≡ Out b)
has_one q trace b y is c h =
    let there = written_chosen q b y is c 0 trace h in
    let as_row = some-each _ (λ (x : Sink). is_eq (point_cmp (Out b) (row q trace x).sink) ≡ true) (λ x e. same_name (Out b) x.name (sym (ap (λ (z : Sink). z.name) e ∙ is))) (chosen_sinks q trace) there in
    let some : has_row (Out b) (rows_as_written q trace) ≡ true =
    list_any-from_Any (λ r. is_eq (point_cmp (Out b) r.sink)) (rows_as_written q trace) (Any-some (λ (r : Row). is_eq (point_cmp (Out b) r.sink) ≡ true) (rows_as_written q trace) (some-map (λ r. is_eq (point_cmp (Out b) r.sink) ≡ true) (row q trace) (chosen_sinks q trace) as_row)) in
    let one = Any-from_list_any (λ r. is_eq (point_cmp (Out b) r.sink)) (rows q trace) (same_sinks q trace (Out b) ∙ some) in
    (one.1, (one.0, one.2, one.3), sym (named (Out b) one.1.sink one.4))

-- ---- what is told

-- the query chooses the source byte and the sink, and this is the path to it
pub record IsTold (q : Query) (trace : List StepSeen) (name : SinkPoint) (s : SourceByte) (p : PathTo) : Type 0 where
  pub source : has_source q s ≡ true
  pub chosen : has_sink q name ≡ true
  pub is_sink : sink_of trace name ≡ Some p.sink
  pub is_path : path q.rule s trace p.sink.time p.sink.loc ≡ Some p.arrivals

pub is_told : (q : Query) (trace : List StepSeen) (name : SinkPoint) (s : SourceByte) (p : PathTo) → path_to q trace name s ≡ Some p → IsTold q trace name s p
is_told q trace name s p e = by (has_source q s) refl (has_sink q name) refl e where
  ended : (x : Sink) (o : Option (List Arrival)) → ended_in x o ≡ Some p → (x ≡ p.sink) × (o ≡ Some p.arrivals)
  ended x None e = absurd cc
  ended x (Some a) e = let same : record { sink = x; arrivals = a } ≡ p = cc in (ap (λ (z : PathTo). z.sink) same, ap (λ (z : PathTo). Some z.arrivals) same)

  to_sink : has_source q s ≡ true → has_sink q name ≡ true → (o : Option Sink) → sink_of trace name ≡ o → path_to_sink q.rule s trace o ≡ Some p → IsTold q trace name s p
  to_sink a b None is e = absurd cc
  to_sink a b (Some x) is e =
      let one = ended x (path q.rule s trace x.time x.loc) e in
      record { source = a; chosen = b; is_sink = is ∙ ap Some one.0; is_path = ap (λ (z : Sink). path q.rule s trace z.time z.loc) (sym one.0) ∙ one.1 }

  by : (a : Bool) → has_source q s ≡ a → (b : Bool) → has_sink q name ≡ b → (if a && b then path_to_sink q.rule s trace (sink_of trace name) else None) ≡ Some p → IsTold q trace name s p
  by true x true y e = to_sink x y (sink_of trace name) refl e
  by true x false y e = absurd cc
  by false x b y e = absurd cc

told_is : (q : Query) (trace : List StepSeen) (name : SinkPoint) (s : SourceByte) (p : PathTo) → IsTold q trace name s p → path_to q trace name s ≡ Some p
told_is q trace name s p h =
    ap₂ (λ (a b : Bool). if a && b then path_to_sink q.rule s trace (sink_of trace name) else None) h.source h.chosen
    ∙ ap (path_to_sink q.rule s trace) h.is_sink ∙ ap (ended_in p.sink) h.is_path

-- ---- both ways

was_chosen : (q : Query) (trace : List StepSeen) (t : ℕ) (x : Sink) (s : SourceByte) → Contains (origins (policy_of q) trace x.time x.loc) s → has_source q s ≡ true
was_chosen q trace t x s c = (All-contains (WasRead (policy_of q) trace x.time) (origins (policy_of q) trace x.time x.loc) s (origins_were_read (policy_of q) trace x.time x.loc) c).is_introduced

module _ (q : Query) (trace : List StepSeen) (s : SourceByte) where
  abbrev Told : SinkPoint → Type 0
  Told name = (p : PathTo) × IsTold q trace name s p

  -- a row that lists s
  abbrev Listed : SinkPoint → Type 0
  Listed name = (r : Row) × Contains (rows q trace) r × (r.sink ≡ name) × Contains r.sources s

  module _ (once : IsWrittenOnce trace) (b : SinkByte) where
    out_listed : Told (Out b) → Listed (Out b)
    out_listed (p, h) =
        let y = p.sink in
        let found = found_in (λ x. is_eq (point_cmp (Out b) x.name)) (written_from 0 trace) y h.is_sink in
        let name : y.name ≡ Out b = sym (named (Out b) y.name found.1) in
        let one = has_one q trace b y name h.chosen found.0 in
        let r = one.0 in
        let of = row_of q trace b r one.1 one.2 in
        let same : of.sink ≡ y = once of.sink y of.written (Contains-some (written_from 0 trace) y found.0) (of.name ∙ sym name) in
        let sources : r.sources ≡ origins (policy_of q) trace y.time y.loc = of.sources ∙ ap (λ (x : Sink). origins (policy_of q) trace x.time x.loc) same in
        (r, one.1, one.2, subst (λ (xs : List SourceByte). Contains xs s) (sym sources) ((one_path_is_origin (policy_of q) s trace y.time y.loc h.source).1 (p.arrivals, h.is_path)))

    out_told : Listed (Out b) → Told (Out b)
    out_told h =
        let of = row_of q trace b h.0 h.1 h.2 in
        let x = of.sink in
        let among : Contains (origins (policy_of q) trace x.time x.loc) s = subst (λ (xs : List SourceByte). Contains xs s) of.sources h.3 in
        let source = was_chosen q trace 0 x s among in
        let there = there_found (λ z. is_eq (point_cmp (Out b) z.name)) (written_from 0 trace) x (some-Contains (written_from 0 trace) x of.written) (same_name (Out b) x.name (sym of.name)) in
        let y = there.0 in
        let found = found_in (λ z. is_eq (point_cmp (Out b) z.name)) (written_from 0 trace) y there.1 in
        let same : x ≡ y = once x y of.written (Contains-some (written_from 0 trace) y found.0) (of.name ∙ named (Out b) y.name found.1) in
        let p = (one_path_is_origin (policy_of q) s trace x.time x.loc source).0 among in
        let is_path = ap (λ (z : Sink). path q.rule s trace z.time z.loc) (sym same) ∙ p.1 in
        (record { sink = y; arrivals = p.0 }, record { source = source; chosen = of.chosen; is_sink = there.1; is_path = is_path })

  module _ (p : InnerSink) where
    at_listed : Told (At p) → Listed (At p)
    at_listed (to, h) = by (nat_le p.time (length trace)) refl h.is_sink where
      here : p.time ≤ length trace → point_sink p ≡ to.sink → Listed (At p)
      here le same =
          let path_there = ap (λ (x : Sink). path q.rule s trace x.time x.loc) same ∙ h.is_path in (
            record { sink = At p; sources = sources_at q trace p },
            (points_have_rows q trace p).0 (Contains-has inner_total inner_same q.points p h.chosen) le,
            refl,
            (one_path_is_origin (policy_of q) s trace p.time p.loc h.source).1 (to.arrivals, path_there),
          )

      by : (c : Bool) → nat_le p.time (length trace) ≡ c → (if c then Some (point_sink p) else None) ≡ Some to.sink → Listed (At p)
      by true e f = here (grind (arith, nat_tests)) (same_Some (point_sink p) to.sink f)
      by false e f = absurd cc

    at_told : Listed (At p) → Told (At p)
    at_told h =
        let of = All-contains (λ (r : Row). r.sink ≡ At p → IsRowOfPoint q trace p r) (rows q trace) h.0 (points_have_rows q trace p).1 h.1 h.2 in
        let among : Contains (origins (policy_of q) trace p.time p.loc) s = subst (λ (xs : List SourceByte). Contains xs s) of.sources h.3 in
        let source = was_chosen q trace 0 (point_sink p) s among in
        let one = (one_path_is_origin (policy_of q) s trace p.time p.loc source).0 among in
        let low : nat_le p.time (length trace) ≡ true = grind (arith, nat_tests, of.inside) in
        let is_sink = ap (λ (c : Bool). if c then Some (point_sink p) else None) low in (
          record { sink = point_sink p; arrivals = one.0 },
          record { source = source; chosen = has-Contains inner_total q.points p of.chosen; is_sink = is_sink; is_path = one.1 },
        )

pub paths_are_listed : PathsAreListed
paths_are_listed q trace name s once = (λ p. listed name (p.0, is_told q trace name s p.0 p.1), λ h. let p = told name h in (p.0, told_is q trace name s p.0 p.1)) where
  listed : (name : SinkPoint) → Told q trace s name → Listed q trace s name
  listed (Out b) h = out_listed q trace s once b h
  listed (At p) h = at_listed q trace s p h

  told : (name : SinkPoint) → Listed q trace s name → Told q trace s name
  told (Out b) h = out_told q trace s once b h
  told (At p) h = at_told q trace s p h

-- ---- the first pair of rows

-- one of the rows is of the pair's sink, and lists its source byte
HasPair : (rs : List Row) (pair : Pair) → Type 0
HasPair rs pair = (r : Row) × Contains rs r × (r.sink ≡ pair.sink) × Contains r.sources pair.source

has_pair : (rs : List Row) (pair : Pair) → first_pair rs ≡ Some pair → HasPair rs pair
unfolding HasPair
has_pair [] pair e = absurd cc
has_pair (r ∷ rs) pair e = by r.sources refl e (has_pair rs pair) where
  by : (ss : List SourceByte) → r.sources ≡ ss → pair_or r.sink ss (first_pair rs) ≡ Some pair → (first_pair rs ≡ Some pair → HasPair rs pair)
      → HasPair (r ∷ rs) pair
  by [] is e ih = let more = ih e in (more.0, (suc more.1.0, omega (arith, more.1.1), more.1.2), more.2, more.3)
  by (s ∷ ss) is e ih =
      let same = same_Some _ pair e in
      let lists = subst (λ (xs : List SourceByte). Contains xs pair.source) (sym is) (0, omega arith, ap (λ (p : Pair). p.source) same) in
      (r, (0, omega arith, refl), ap (λ (p : Pair). p.sink) same, lists)

pub first_pair_has_path : FirstPairHasPath
unfolding HasPair
first_pair_has_path q trace pair once e = (paths_are_listed q trace pair.sink pair.source once).1 (has_pair (rows q trace) pair e)

-- ---- rows that list nothing

none : (rs : List Row) → first_pair rs ≡ None → All (λ r. r.sources ≡ []) rs
none [] e = All-nil (λ (r : Row). r.sources ≡ [])
none (r ∷ rs) e = by (none rs) r.sources refl e where
  by : (first_pair rs ≡ None → All (λ r. r.sources ≡ []) rs) → (ss : List SourceByte) → r.sources ≡ ss → pair_or r.sink ss (first_pair rs) ≡ None → All (λ r. r.sources ≡ []) (r ∷ rs)
  by ih [] is e = All-cons (λ (r : Row). r.sources ≡ []) r rs is (ih e)
  by ih (s ∷ ss) is e = absurd cc

no_pair : (rs : List Row) → All (λ r. r.sources ≡ []) rs → first_pair rs ≡ None
no_pair [] h = refl
no_pair (r ∷ rs) h =
    ap (λ (ss : List SourceByte). pair_or r.sink ss (first_pair rs)) (All-head (λ (r : Row). r.sources ≡ []) r rs h)
    ∙ no_pair rs (All-tail (λ (r : Row). r.sources ≡ []) r rs h)

pub none_is_listed : NoneIsListed
none_is_listed rs = (none rs, no_pair rs)
