use Rattle.std.proofs.Common.{◌≡◌, ◌∙◌, ap, sym, subst, ℕ, ◌+◌, List, [], ◌∷◌, ◌++◌, length, map, take, drop}
use Rattle.std.specs.Prelude.{All}
use Rattle.std.specs.List.{flat_map}
use Rattle.std.specs.List.Sorted.{IsNonDecreasing}
use Rattle.std.proofs.Math.Seq.{take-append_seam}
use Rattle.std.proofs.lemmas.List.{length-map, take_all, take_more}
use Rattle.std.proofs.lemmas.List.Elements.{All-weaker}
use Rattle.flow_model.specs.declared.SourceByte.{SourceByte}
use Rattle.flow_model.specs.Orders.{source_cmp}
use Rattle.lists.specs.Sets.{Ascends}
use Rattle.report_model.specs.Rows.{Row}
use Rattle.report_model.specs.Influence.{reached, turned}
use Rattle.source_ranges.specs.declared.SourceRange.{SourceRange}
use Rattle.source_ranges.specs.Kept.{IsRange}
use Rattle.source_ranges.specs.Ranges.{bytes_of}
use Rattle.sink_collect.specs.Places.{start_of, IsAlike}
use Rattle.sink_collect.specs.Reaching.{Stretch, reach_of, reaches_in, stretches, with_row}
use Rattle.sink_collect.proofs.Order.{starts_ascend}
use Rattle.sink_collect.proofs.Reaching.{with_rows, starts_stretched, fits_stretched, spread}
use Rattle.sink_collect.proofs.influence.turn_round.Goals as goal

fitting : (rows : List Row) (ps : List SourceRange) → All (IsAlike rows) ps → All IsRange ps
fitting rows ps a = All-weaker (IsAlike rows) IsRange (λ p h. h.range) ps a

pub add_row-requires-clause-starts : goal.add_row-requires-clause-starts
add_row-requires-clause-starts c =
    let ps = c.in_ok-pieces.pieces.items in
    ap (map (λ (r : Stretch). start_of r.range)) (c.deref_mut.ensures.value ∙ c.loop-row.invariant)
    ∙ starts_stretched (take c.loop-row.row-index c.rows-row-items.result.now) ps
    ∙ sym (c.deref-in-loop-row.ensures.value ∙ c.in_ok-starts.ensures ∙ ap (map start_of) c.deref.ensures.value)

pub add_row-requires-clause-ascending : goal.add_row-requires-clause-ascending
add_row-requires-clause-ascending c =
    let ps = c.in_ok-pieces.pieces.items in
    subst IsNonDecreasing (sym (c.deref-in-loop-row.ensures.value ∙ c.in_ok-starts.ensures ∙ ap (map start_of) c.deref.ensures.value))
    (starts_ascend ps (fitting c.rows.result.now ps c.in_ok-pieces.ensures.alike) (subst (Ascends source_cmp) (sym c.in_ok-pieces.ensures.bytes) c.form.ensures))

pub add_row-requires-clause-fits : goal.add_row-requires-clause-fits
add_row-requires-clause-fits c =
    let ps = c.in_ok-pieces.pieces.items in
    subst (λ (rs : List Stretch). All (λ r. IsRange r.range) rs) (sym (c.deref_mut.ensures.value ∙ c.loop-row.invariant))
    (fits_stretched (take c.loop-row.row-index c.rows-row-items.result.now) ps (fitting c.rows.result.now ps c.in_ok-pieces.ensures.alike))

pub loop-row-preserved : goal.loop-row-preserved
loop-row-preserved c =
    let rows = c.rows-row-items.result.now in
    let k = c.loop-row.row-index in
    let ps = c.in_ok-pieces.pieces.items in
    let row = c.row-item.result in
    let all : c.add_row.new.reaches ≡ stretches (take (k + 1) rows) ps =
    c.in_ok-add_row.ensures
    ∙ ap (map (with_row row)) (c.deref_mut.ensures.value ∙ c.loop-row.invariant)
    ∙ with_rows (take k rows) row ps
    ∙ ap (λ (rs : List Row). stretches rs ps) (ap (λ (r : Row). take k rows ++ r ∷ []) c.row-item.is ∙ sym (take_more rows k row c.loop-row-test.true)) in
    let new = c.add_row.new.reaches in
    let long : c.loop-row.reaches.len ≡ length new = sym (c.add_row.auto.reaches ∙ c.deref_mut.ensures.len) in
    let rest = drop (length new) c.loop-row.reaches.items in
    ap (λ (n : ℕ). take n (new ++ rest)) long ∙ take-append_seam new rest ∙ all

pub invariant_of-result : goal.invariant_of-result
invariant_of-result c =
    let rows = c.args.report.now in
    let ps = c.in_ok-pieces.pieces.items in
    let alike = subst (λ (rs : List Row). All (IsAlike rs) ps) c.rows.ensures c.in_ok-pieces.ensures.alike in
    let whole : c.loop-row.reaches.items ≡ stretches rows ps =
    c.loop-row.invariant
    ∙ ap (λ (rs : List Row). stretches rs ps) (take_all c.loop-row.row-index c.rows-row-items.result.now c.loop-row-test.false ∙ c.rows-row-items.ensures) in
    record {
      ranges = subst (λ (rs : List Stretch). All (λ r. IsRange r.range) rs) (sym whole) (fits_stretched rows ps (fitting rows ps alike));
      count_is =
          ap (λ (rs : List Stretch). length (flat_map reaches_in rs)) whole ∙ ap length (spread rows ps alike)
          ∙ length-map (flat_map bytes_of ps) (λ (b : SourceByte). reach_of (reached rows b) b)
          ∙ sym (c.count_of-count.ensures ∙ ap (λ (rs : List SourceRange). length (flat_map bytes_of rs)) c.deref-3.ensures.value);
    }

pub returns : goal.returns
returns c =
    let rows = c.args.report.now in
    let ps = c.in_ok-pieces.pieces.items in
    ap (flat_map reaches_in)
    (c.loop-row.invariant
    ∙ ap (λ (rs : List Row). stretches rs ps) (take_all c.loop-row.row-index c.rows-row-items.result.now c.loop-row-test.false ∙ c.rows-row-items.ensures))
    ∙ spread rows ps (subst (λ (rs : List Row). All (IsAlike rs) ps) c.rows.ensures c.in_ok-pieces.ensures.alike)
    ∙ ap (turned rows) c.in_ok-pieces.ensures.bytes
