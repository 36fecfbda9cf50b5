-- Rows, one by one.
use Rattle.std.proofs.Common.{◌≡◌, ℕ, ◌-◌, ◌<◌, List, [], ◌∷◌, map, take, length, get_or, slice_get, ◌==◌, true, Bor, refl, ap, sym, arith, ◌∙◌}
use Rattle.std.specs.Prelude.{Option, Some, None, IfSome}
use Rattle.std.specs.Option.{option_copied, option_map}
use Rattle.std.proofs.lemmas.Grind.{common_steps}
use Rattle.std.proofs.lemmas.List.{length-take-le, get_or-take}
use Rattle.std.proofs.lemmas.Option.{slice_get_within, slice_get_read, slice_get-map, slice_get-get_or, get_or_from_slice_get}
use Rattle.flow_model.specs.declared.Loc.{Loc}
use Rattle.flow_model.specs.declared.SourceByte.{SourceByte}
use Rattle.flow_model.proofs.Orders.{source_total}
use Rattle.lists.proofs.Algebra.{union-nil}
use Rattle.source_runs.specs.declared.runs.SourceRun.{SourceRun}
use Rattle.source_runs.specs.Runs.{bytes_of}
use Rattle.report_model.specs.Rows.{Row}
use Rattle.epoch_model.specs.Join.{resolved, resolved_row}
use Rattle.merge_log.specs.Log.{AreSets}
use Rattle.taint_shadow.specs.Labels.{kind_of}
use Rattle.taint_shadow.specs.declared.labels.Label.{Label}
use Rattle.taint_shadow.specs.declared.labels.LabelKind.{LabelKind}
use Rattle.taint_shadow.specs.declared.labels.LabelKind.TheVariants.{Run}
use Rattle.taint_shadow.specs.declared.labels.SinkLabel.{SinkLabel}
use Rattle.source_labels.specs.declared.nodes.Nodes.{Nodes}
use Rattle.source_labels.specs.Laws.{terms_ascend}
use Rattle.source_labels.specs.Words.{log_of, node_words, terms_by}
use Rattle.epoch_summary.specs.Summaries.{named}

-- a list of no length has no member
pub none_in : {X : Type 0} (xs : List X) → (length xs == 0) ≡ true → xs ≡ []
none_in [] e = refl
none_in (x ∷ xs) e = absurd (grind (arith, common_steps))

module _ (before : Loc → List SourceByte) (nodes : Nodes) (sinks : List SinkLabel) where
  nth_row : (i : ℕ) (d : SinkLabel) → i < length sinks → slice_get (map (resolved_row before) (map (named nodes) sinks)) i ≡ Some (resolved_row before (named nodes (get_or sinks i d)))
  nth_row i d inside =
      slice_get-map (resolved_row before) (map (named nodes) sinks) i
      ∙ ap (option_map (resolved_row before)) (slice_get-map (named nodes) sinks i ∙ ap (option_map (named nodes)) (slice_get-get_or sinks i d inside))

  -- the row of a sink, by its name and the source bytes of its label
  pub row_at : (i : ℕ) (d : SinkLabel) (sources : List SourceByte) → i < length sinks → sources ≡ resolved before (node_words.means nodes (get_or sinks i d).label)
      → slice_get (map (resolved_row before) (map (named nodes) sinks)) i ≡ Some (record { sink = (get_or sinks i d).name; sources = sources })
  row_at i d sources inside is = nth_row i d inside ∙ ap (λ (bs : List SourceByte). Some (record { sink = (get_or sinks i d).name; sources = bs })) (sym is)

  -- the source bytes of a row that was made are those of its sink's label
  pub row_has : (i : ℕ) (d : SinkLabel) (row : Row) → i < length sinks → slice_get (map (resolved_row before) (map (named nodes) sinks)) i ≡ Some row
      → row.sources ≡ resolved before (node_words.means nodes (get_or sinks i d).label)
  row_has i d row inside made =
      let same : Some row ≡ Some (resolved_row before (named nodes (get_or sinks i d))) = sym made ∙ nth_row i d inside in
      let is : row ≡ resolved_row before (named nodes (get_or sinks i d)) = cc in
      ap (λ (r : Row). r.sources) is

pub sets_of_label : (nodes : Nodes) (sinks : List SinkLabel) (i : ℕ) (d : SinkLabel) → AreSets (node_words.means nodes (get_or sinks i d).label)
sets_of_label nodes sinks i d = terms_ascend (log_of nodes) (kind_of (get_or sinks i d).label)

-- the source bytes of a label that is a run
pub run_has : (before : Loc → List SourceByte) (nodes : Nodes) (label : Label) (run : SourceRun) → Run run ≡ kind_of label
    → bytes_of run ≡ resolved before (node_words.means nodes label)
run_has before nodes label run is =
    sym (union-nil source_total (bytes_of run) (terms_ascend (log_of nodes) (Run run)).sources) ∙ ap (λ (k : LabelKind). resolved before (terms_by (log_of nodes) k)) is

-- the last of the first i is the one before that of number i
last_taken : {X : Type 0} (xs firsts : List X) (i : ℕ) (x : X) → firsts ≡ take i xs → i < length xs → slice_get firsts (length firsts - 1) ≡ Some x
    → slice_get xs (i - 1) ≡ Some x
last_taken xs firsts i x is inside at =
    let within = slice_get_within firsts (length firsts - 1) x at in
    let count : length firsts ≡ i = ap length is ∙ length-take-le i xs (omega (arith, inside)) in
    let earlier : i - 1 < i = omega (arith, within, count) in
    let taken : get_or firsts (i - 1) x ≡ get_or xs (i - 1) x = ap (λ ys. get_or ys (i - 1) x) is ∙ get_or-take i xs (i - 1) x earlier in
    let last : get_or firsts (i - 1) x ≡ x = ap (λ (n : ℕ). get_or firsts (n - 1) x) (sym count) ∙ get_or_from_slice_get firsts (length firsts - 1) x x at in
    slice_get_read xs (length xs) (i - 1) x refl (omega (arith, earlier, inside)) (sym last ∙ taken)

pub row_before : (rows firsts : List Row) (i : ℕ) (o : Option (Bor Row)) → firsts ≡ take i rows → i < length rows → option_copied o ≡ slice_get firsts (length firsts - 1)
    → IfSome o (λ last. slice_get rows (i - 1) ≡ Some last.now)
row_before rows firsts i None is inside at = tt
row_before rows firsts i (Some last) is inside at = last_taken rows firsts i last.now is inside (sym at)
