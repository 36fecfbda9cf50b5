-- The labels of an epoch's own, carried into the one log.
use Rattle.std.proofs.Common.{◌≡◌, ◌<◌, List, [], ◌∷◌, ◌++◌, map, length, refl, ap, ap₂, sym, subst, ◌∙◌, Bool, true, false, cond, arith, nat_lt, ltb-true, ltb-false}
use Rattle.std.specs.List.{AllByRecursion}
use Rattle.std.proofs.lemmas.List.{map-append}
use Rattle.std.proofs.lemmas.List.Elements.{All-append, All-from_recursion, All-get_or, All-weaker, recursion_from_All}
use Rattle.std.proofs.lemmas.Simd.{map-map}
use Rattle.lists.proofs.Lists.{all-parts}
use Rattle.flow_model.specs.declared.Loc.{Loc}
use Rattle.flow_model.specs.declared.SourceByte.{SourceByte}
use Rattle.source_runs.specs.declared.runs.SourceRun.{SourceRun}
use Rattle.report_model.specs.Rows.{Row}
use Rattle.epoch_model.specs.Join.{resolved, resolved_row}
use Rattle.merge_log.specs.Log.{IsNode, run_term}
use Rattle.taint_shadow.specs.declared.labels.Label.{Label}
use Rattle.taint_shadow.specs.declared.labels.LabelKind.{LabelKind}
use Rattle.taint_shadow.specs.declared.labels.LabelKind.TheVariants.{Node, Start, Run}
use Rattle.taint_shadow.specs.declared.labels.SinkLabel.{SinkLabel}
use Rattle.taint_shadow.specs.Labels.{KeepsLabels, MakesLabel, kind_of, nothing_label}
use Rattle.source_labels.specs.declared.labels.SourceLabels.{SourceLabels}
use Rattle.source_labels.specs.declared.nodes.Nodes.{Nodes}
use Rattle.source_labels.specs.Words.{label_words, log_of, node_or_nothing, node_words, terms_by}
use Rattle.source_labels.proofs.Runs.{nothing_made, run_made}
use Rattle.epoch_summary.specs.Summaries.{end_label, named, nodes_of, sinks_of}
use Rattle.summary_join.specs.declared.cut.CutLabels.{CutLabels}
use Rattle.summary_join.specs.declared.piece.Piece.{Piece}
use Rattle.summary_join.specs.Labels.{AllStand, AreNodeLabels, carried, carried_by, carried_sink, had, label_at}
use Rattle.summary_join.specs.Needs.{IsCovered}
use Rattle.labelled_sinks.specs.Rows.{SinksStand, row_by}
use Rattle.summary_join.specs.Joins.{IsJoined}
use Rattle.summary_join.proofs.Places.{at_had, label_is}
use Rattle.summary_join.proofs.Labelling.{cut_stands}
use Rattle.summary_join.proofs.Resolving.{resolved-run}

module _ (old new : SourceLabels) (nodes : Nodes) (cut : CutLabels) (marks : List Bool) (table : List Label) (t : AreNodeLabels old (log_of nodes) cut marks new table) (a : AllStand old cut.labels.items) where
  -- a label means what the terms of the epoch's own label come to
  pub carried_made : (k : Label) → node_words.stands nodes k → IsCovered marks k
      → MakesLabel label_words new (resolved (had old cut) (node_words.means nodes k)) (carried cut table k)
  carried_made k stands covered = by (kind_of k) refl stands where
    run : (r : SourceRun) → Run r ≡ kind_of k → (b : Bool) → nat_lt r.last r.first ≡ b
        → MakesLabel label_words new (resolved (had old cut) (run_term r)) (cond b nothing_label k)
    run r is true less = subst (λ (bs : List SourceByte). MakesLabel label_words new bs nothing_label) (sym (resolved-run (had old cut) r)) (nothing_made new r (ltb-true r.last r.first less))
    run r is false not_less = subst (λ (bs : List SourceByte). MakesLabel label_words new bs k) (sym (resolved-run (had old cut) r)) (run_made new r k (sym is) (ltb-false r.last r.first not_less))

    by : (kind : LabelKind) → kind ≡ kind_of k → IsNode (log_of nodes) (node_or_nothing kind)
        → MakesLabel label_words new (resolved (had old cut) (terms_by (log_of nodes) kind)) (carried_by cut table k kind)
    by (Node n) is node =
        let inside : n < length table = omega (arith, node, t.count) in
        record { stands = All-get_or (label_words.stands new) table n nothing_label inside t.stand; means = t.means n inside (covered n (sym is)) }
    by (Start l) is node = t.keeps (label_at cut.asked cut.labels.items l) (cut_stands old cut a l)
    by (Run r) is node = run r is (nat_lt r.last r.first) refl

  all_made : (ks : List Label) → AllByRecursion (node_words.stands nodes) ks → AllByRecursion (IsCovered marks) ks → AllByRecursion (label_words.stands new) (map (carried cut table) ks)
  all_made [] s m = tt
  all_made (k ∷ ks) s m = ((carried_made k s.0 m.0).stands, all_made ks s.1 m.1)

  sinks_made : (ks : List SinkLabel) → AllByRecursion (node_words.stands nodes) (map (λ k. k.label) ks) → AllByRecursion (IsCovered marks) (map (λ k. k.label) ks)
      → AllByRecursion (λ k. label_words.stands new k.label) (map (carried_sink cut table) ks)
      × (map (row_by new) (map (carried_sink cut table) ks) ≡ map (resolved_row (had old cut)) (map (named nodes) ks))
  sinks_made [] s m = (tt, refl)
  sinks_made (k ∷ ks) s m =
      let one = carried_made k.label s.0 m.0 in
      let rest = sinks_made ks s.1 m.1 in
      ((one.stands, rest.0), ap₂ (λ (r : Row) (rs : List Row). r ∷ rs) (ap (λ (bs : List SourceByte). record { sink = k.name; sources = bs }) one.means) rest.1)

-- the rows of earlier sinks
rows_kept : (old new : SourceLabels) → KeepsLabels label_words old new → (ks : List SinkLabel) → AllByRecursion (λ k. label_words.stands old k.label) ks
    → map (row_by new) ks ≡ map (row_by old) ks
rows_kept old new keeps [] s = refl
rows_kept old new keeps (k ∷ ks) s =
    ap₂ (λ (r : Row) (rs : List Row). r ∷ rs) (ap (λ (bs : List SourceByte). record { sink = k.name; sources = bs }) (keeps k.label s.0).means) (rows_kept old new keeps ks s.1)

unmapped : {X Y : Type 0} (P : Y → Type 0) (g : X → Y) (xs : List X) → AllByRecursion P (map g xs) → AllByRecursion (λ x. P (g x)) xs
unmapped P g [] a = tt
unmapped P g (x ∷ xs) a = (a.0, unmapped P g xs a.1)

-- an epoch is joined to those before it
module _ (old new : SourceLabels) (cut : CutLabels) (p : Piece) (table : List Label) (a : AllStand old cut.labels.items)
    (t : AreNodeLabels old (log_of (nodes_of p.summary)) cut p.marks.items new table) where
  pub epoch_joined : (sinks all : List SinkLabel) (next : CutLabels) → SinksStand old sinks → all ≡ sinks ++ map (carried_sink cut table) (sinks_of p.summary)
      → next.asked ≡ p.requests → next.labels.items ≡ map (carried cut table) p.ends.items → IsJoined old cut p sinks new next all
  epoch_joined sinks all next s is asked labels =
      let nodes = nodes_of p.summary in
      let own = sinks_of p.summary in
      let needs = p.needed in
      let of_sinks : List Label = map (λ k. k.label) own in
      let stand = all-parts (node_words.stands nodes) of_sinks p.ends.items (recursion_from_All (node_words.stands nodes) (of_sinks ++ p.ends.items) needs.stand) in
      let marked = all-parts (IsCovered p.marks.items) of_sinks p.ends.items (recursion_from_All (IsCovered p.marks.items) (of_sinks ++ p.ends.items) needs.marked) in
      let sinks_are = sinks_made old new nodes cut p.marks.items table t a own stand.0 marked.0 in
      let carry : Loc → Label = λ l. carried cut table (end_label p.summary l) in
      let ends_are : next.labels.items ≡ map carry p.requests = labels ∙ ap (map (carried cut table)) p.at_end ∙ map-map (carried cut table) (end_label p.summary) p.requests in
      record {
        asked = asked;
        ends_stand = subst (AllStand new) (sym labels) (All-from_recursion (label_words.stands new) (map (carried cut table) p.ends.items) (all_made old new nodes cut p.marks.items table t a p.ends.items stand.1 marked.1));
        sinks_stand = subst (SinksStand new) (sym is)
            (All-append (λ (k : SinkLabel). label_words.stands new k.label) sinks (map (carried_sink cut table) own)
            (All-weaker (λ (k : SinkLabel). label_words.stands old k.label) (λ (k : SinkLabel). label_words.stands new k.label) (λ k h. (t.keeps k.label h).stands) sinks s)
            (All-from_recursion (λ (k : SinkLabel). label_words.stands new k.label) (map (carried_sink cut table) own) sinks_are.0));
        ends = λ l h.
            let at_l = unmapped (node_words.stands nodes) (end_label p.summary) p.requests (subst (AllByRecursion (node_words.stands nodes)) p.at_end stand.1) in
            let marked_l = unmapped (IsCovered p.marks.items) (end_label p.summary) p.requests (subst (AllByRecursion (IsCovered p.marks.items)) p.at_end marked.1) in
            ap₂ (λ (ls : List Loc) (ks : List Label). label_words.means new (label_at ls ks l)) asked ends_are
            ∙ ap (label_words.means new) (label_is carry p.requests l h)
            ∙ (carried_made old new nodes cut p.marks.items table t a (end_label p.summary l)
            (at_had (λ l. node_words.stands nodes (end_label p.summary l)) p.requests l at_l h)
            (at_had (λ l. IsCovered p.marks.items (end_label p.summary l)) p.requests l marked_l h)).means;
        rows = ap (map (row_by new)) is
            ∙ map-append (row_by new) sinks (map (carried_sink cut table) own)
            ∙ ap₂ (λ (xs ys : List Row). xs ++ ys)
            (rows_kept old new t.keeps sinks (recursion_from_All (λ (k : SinkLabel). label_words.stands old k.label) sinks s)) sinks_are.1;
      }
