use Rattle.std.proofs.Common.{◌≡◌, ◌∙◌, ap, sym, subst, append_assoc, ℕ, List, ◌++◌}
use Rattle.std.specs.List.{flat_map}
use Rattle.std.proofs.lemmas.List.Concat.{flat_map-append}
use Rattle.outer_io.specs.Pieces.{Putting, Laws}
use Rattle.report_model.specs.Rows.{Row}
use Rattle.report_model.specs.Text.{row_text}
use Rattle.epoch_engine.proofs.putting.put_rounds.Goals as goal

-- the lines of the rows that went were put, and then those of some that were left
more_rows : {S : Type 0} (putting : Putting S) → Laws putting → (s t u : S) (gone round rest left all : List Row) → gone ++ left ≡ all → left ≡ round ++ rest
    → putting.whole s (flat_map row_text gone) t → putting.whole t (flat_map row_text round) u
    → ((gone ++ round) ++ rest ≡ all) × putting.whole s (flat_map row_text (gone ++ round)) u
more_rows putting laws s t u gone round rest left all are parts put more = (
  append_assoc gone round rest ∙ ap (λ (rows : List Row). gone ++ rows) (sym parts) ∙ are,
  subst (λ (text : List ℕ). putting.whole s text u) (sym (flat_map-append row_text gone round))
      (laws.whole_then s t u (flat_map row_text gone) (flat_map row_text round) put more),
)

pub loop-left-preserved : goal.loop-left-preserved
loop-left-preserved g c =
    let gone = c.loop-left.invariant.0 in
    let round = c.split_at.result.0.now in
    let more = more_rows g.P.Pieces.putting g.met.P.Pieces.laws c.args.place.now c.loop-left.place c.put_round.new.place gone round c.split_at.result.1.now
    c.loop-left.left.now c.args.rows.now c.loop-left.invariant.1 c.split_at.ensures.by_index.0 c.loop-left.invariant.2 c.in_ok-put_round.ensures in
    (gone ++ round, more.0, more.1)
