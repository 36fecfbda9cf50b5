-- The points that have a row are those of the query up to the end of the run.
use Rattle.std.proofs.Common.{◌≡◌, ℕ, nat_eq, ◌+◌, ◌==◌, ◌≤◌, List, [], ◌∷◌, Bool, true, false, refl, ap, ap₂, sym, ◌∙◌, subst, arith, length}
use Rattle.std.specs.Prelude.{Some, None, Option, Contains}
use Rattle.std.specs.List.{filter, range_with_len, AllByRecursion}
use Rattle.std.specs.Ordering.{eq_by_cmp}
use Rattle.std.proofs.lemmas.Bool.{eq-eqb, eqb-true, eqb-false}
use Rattle.std.proofs.lemmas.List.Elements.{recursion_from_All, All-from_recursion, All-contains_itself}
use Rattle.std.proofs.lemmas.List.Folds.{Any-from_list_any}
use Rattle.isa.specs.declared.CallKind.{CallKind}
use Rattle.isa.specs.declared.CallKind.TheVariants as kind
use Rattle.flow_model.specs.declared.InnerSink.{InnerSink}
use Rattle.flow_model.specs.declared.SinkPoint.{SinkPoint}
use Rattle.flow_model.specs.declared.SinkPoint.TheVariants.{At}
use Rattle.flow_model.specs.declared.SourceByte.{SourceByte}
use Rattle.flow_model.specs.declared.StepSeen.{StepSeen}
use Rattle.flow_model.specs.declared.CallSeen.{CallSeen}
use Rattle.flow_model.proofs.Orders.{point_same}
use Rattle.lists.proofs.Algebra.{has-set_of, has-Contains, All-set_of, tied_by}
use Rattle.lists.proofs.Lists.{all-append, all-weaken, all-filter, all-map}
use Rattle.report_model.specs.Query.{Query, has_sink}
use Rattle.report_model.specs.Rows.{Sink, Row, row, rows, rows_as_written, point_sink, points_at, sink_at, sinks_of_call, sinks_of_step, sinks_from, chosen_sinks, row_cmp}
use Rattle.report_model.specs.RowLaws.{sources_at, PointHasRow, IsRowOfPoint, RowIsOfPoint, PointsHaveRows}
use Rattle.report_model.proofs.Each.{each-trivial}
use Rattle.report_model.proofs.Members.{Some_in, some-Any, some-Contains, Contains-some, some-each, some-each-too, some-left, some-right, some-map, some-filter}
use Rattle.report_model.proofs.RowLemmas.{row_total}

module _ (q : Query) (p : InnerSink) where
  -- ---- a point of the query has its turn

  IsOfPoint : Sink → Type 0
  IsOfPoint x = x ≡ point_sink p

  turn_at : (t : ℕ) → Contains q.points p → p.time ≡ t → Some_in IsOfPoint (points_at q t)
  unfolding IsOfPoint
  turn_at t c e =
      let now : (x : InnerSink) → x ≡ p → ((x.time == t) ≡ true) × (point_sink x ≡ point_sink p) = λ (x : InnerSink) f. (ap (λ (y : InnerSink). y.time == t) f ∙ eq-eqb p.time t e, ap point_sink f) in
      let there = some-each _ (λ (x : InnerSink). ((x.time == t) ≡ true) × (point_sink x ≡ point_sink p)) now q.points (some-Contains q.points p c) in
      some-map (λ (x : Sink). x ≡ point_sink p) point_sink (filter (λ x. x.time == t) q.points) (some-filter (λ (x : InnerSink). point_sink x ≡ point_sink p) (λ x. x.time == t) q.points there)

  turn_from : (t : ℕ) (trace : List StepSeen) → Contains q.points p → t ≤ p.time → p.time ≤ t + length trace → Some_in IsOfPoint (sinks_from q t trace)
  turn_from t [] c low high = turn_at t c (omega (arith, low, high))
  turn_from t (s ∷ ss) c low high = by (turn_from (t + 1) ss c) (nat_eq p.time t) refl where
    by : (t + 1 ≤ p.time → p.time ≤ t + 1 + length ss → Some_in IsOfPoint (sinks_from q (t + 1) ss)) → (b : Bool) → nat_eq p.time t ≡ b → Some_in IsOfPoint (sinks_from q t (s ∷ ss))
    by rest true e = some-left IsOfPoint _ (sinks_from q (t + 1) ss) (some-left IsOfPoint (points_at q t) _ (turn_at t c (eqb-true p.time t e)))
    by rest false e = let other = eqb-false p.time t e in some-right IsOfPoint _ (sinks_from q (t + 1) ss) (rest (omega (arith, low, other)) (omega (arith, high)))

  -- ---- and no other sink has the point's name

  record IsOwn (until : ℕ) (x : Sink) : Type 0 where
    chosen : Contains q.points p
    inside : p.time ≤ until
    same : x ≡ point_sink p

  own_at : (t until : ℕ) → t ≤ until → AllByRecursion (λ x. x.name ≡ At p → IsOwn until x) (points_at q t)
  own_at t until le =
      let points = q.points in
      let own = recursion_from_All (Contains points) points (All-contains_itself points) in
      let kept = filter (λ y. y.time == t) points in
      all-map (λ (x : Sink). x.name ≡ At p → IsOwn until x) point_sink kept
      (all-weaken _ (λ (y : InnerSink). At y ≡ At p → IsOwn until (point_sink y)) (λ (y : InnerSink) h e. this y h.0 h.1 e) kept (all-filter (Contains points) (λ y. y.time == t) points own)) where
        this : (y : InnerSink) → (y.time == t) ≡ true → Contains q.points y → At y ≡ At p → IsOwn until (point_sink y)
        this y now c e =
            let f : y ≡ p = cc in
            let is_now : y.time ≡ t = eqb-true y.time t now in
            let times : y.time ≡ p.time = ap (λ (z : InnerSink). z.time) f in
            record { chosen = subst (Contains q.points) f c; inside = omega (arith, is_now, times, le); same = ap point_sink f }

  none_in_call : (t until : ℕ) (call : CallSeen) (k : CallKind) → AllByRecursion (λ x. x.name ≡ At p → IsOwn until x) (sinks_of_call t call k)
  none_in_call t until call kind.Write = all-map (λ (x : Sink). x.name ≡ At p → IsOwn until x) (sink_at t call) (range_with_len 0 call.length)
      (all-weaken _ (λ i. (sink_at t call i).name ≡ At p → IsOwn until (sink_at t call i)) (λ i u e. cc) (range_with_len 0 call.length) (each-trivial (range_with_len 0 call.length)))
  none_in_call t until call k = tt

  none_in_step : (t until : ℕ) (call : Option CallSeen) → AllByRecursion (λ x. x.name ≡ At p → IsOwn until x) (sinks_of_step t call)
  none_in_step t until None = tt
  none_in_step t until (Some call) = none_in_call t until call call.kind

  none_chosen : (t until : ℕ) (call : Option CallSeen) → AllByRecursion (λ x. x.name ≡ At p → IsOwn until x) (filter (λ x. has_sink q x.name) (sinks_of_step t call))
  none_chosen t until call = all-weaken _ (λ (x : Sink). x.name ≡ At p → IsOwn until x) (λ (x : Sink) h. h.1) _
      (all-filter (λ (x : Sink). x.name ≡ At p → IsOwn until x) (λ x. has_sink q x.name) (sinks_of_step t call) (none_in_step t until call))

  own_from : (t until : ℕ) (trace : List StepSeen) → t + length trace ≤ until → AllByRecursion (λ x. x.name ≡ At p → IsOwn until x) (sinks_from q t trace)
  own_from t until [] le = own_at t until (omega (arith, le))
  own_from t until (s ∷ ss) le = all-append (λ (x : Sink). x.name ≡ At p → IsOwn until x) _ _
      (all-append (λ (x : Sink). x.name ≡ At p → IsOwn until x) (points_at q t) _ (own_at t until (omega (arith, le))) (none_chosen t until s.call))
      (own_from (t + 1) until ss (omega (arith, le)))

  -- ---- the law

  module _ (trace : List StepSeen) where
    IsOwnRow : Row → Type 0
    IsOwnRow r = r.sink ≡ At p → IsRowOfPoint q trace p r

    of_sink : (x : Sink) → (x.name ≡ At p → IsOwn (length trace) x) → (row q trace x).sink ≡ At p → IsRowOfPoint q trace p (row q trace x)
    of_sink x h e = let own = h e in record { chosen = own.chosen; inside = own.inside; sources = ap (λ (y : Sink). (row q trace y).sources) own.same }

    own_rows : AllByRecursion IsOwnRow (rows q trace)
    unfolding IsOwnRow
    own_rows =
        let sinks = chosen_sinks q trace in
        let raw = all-map IsOwnRow (row q trace) sinks (all-weaken _ (λ (x : Sink). IsOwnRow (row q trace x)) of_sink sinks (own_from 0 (length trace) trace (omega arith))) in
        All-set_of row_cmp IsOwnRow (rows_as_written q trace) raw

    row_is_of_point : RowIsOfPoint q trace p
    unfolding IsOwnRow
    row_is_of_point = All-from_recursion IsOwnRow (rows q trace) own_rows

    its_row : Row
    its_row = record { sink = At p; sources = sources_at q trace p }

    point_has_row : PointHasRow q trace p
    unfolding IsOfPoint IsOwnRow its_row
    point_has_row c le =
        let all = rows q trace in
        let raw = rows_as_written q trace in
        let written = some-map (λ (r : Row). r ≡ its_row) (row q trace) (chosen_sinks q trace) (some-each IsOfPoint (λ (x : Sink). row q trace x ≡ its_row) (λ (x : Sink) e. ap (row q trace) e) _ (turn_from 0 trace c (omega arith) (omega (arith, le)))) in
        let found = has-set_of row_total raw its_row ∙ has-Contains row_total raw its_row (Contains-some raw its_row written) in
        let some = some-Any _ all (Any-from_list_any (eq_by_cmp row_cmp its_row) all found) in
        Contains-some all its_row (some-each _ (λ (r : Row). r ≡ its_row) (λ (r : Row) h. this r h.0 h.1) all (some-each-too _ IsOwnRow all some own_rows)) where
          this : (r : Row) → eq_by_cmp row_cmp its_row r ≡ true → IsOwnRow r → r ≡ its_row
          this r e own =
              let named : r.sink ≡ At p = sym (point_same (At p) r.sink (tied_by (row_cmp its_row r) e)) in
              let make : SinkPoint → List SourceByte → Row = λ s xs. record { sink = s; sources = xs } in
              ap₂ make named (own named).sources

pub points_have_rows : PointsHaveRows
points_have_rows q trace p = (point_has_row q p trace, row_is_of_point q p trace)
