-- Labels of runs, as labels of source bytes. Crates above cite these lemmas.
use Rattle.std.proofs.Common.{◌≡◌, ℕ, suc, ◌+◌, ◌-◌, ◌<◌, ◌≤◌, [], length, ap, sym, subst, arith}
use Rattle.source_runs.specs.declared.runs.SourceRun.{SourceRun}
use Rattle.source_runs.specs.Runs.{bytes_of, bytes_from}
use Rattle.taint_shadow.specs.declared.labels.Label.{Label}
use Rattle.taint_shadow.specs.declared.labels.LabelKind.{LabelKind}
use Rattle.taint_shadow.specs.declared.labels.LabelKind.TheVariants.{Run}
use Rattle.taint_shadow.specs.Labels.{MakesLabel, kind_of, nothing_label}
use Rattle.source_labels.specs.declared.labels.SourceLabels.{SourceLabels}
use Rattle.source_labels.specs.Words.{label_words, log_of, nodes_of, node_or_nothing, terms_by}
use Rattle.source_labels.specs.Laws.{label_laws}
use Rattle.merge_log.specs.Log.{IsNode}

-- a run whose last offset isn't below the first has a byte
some_of : (c a n k : ℕ) → n ≡ suc k → 0 < length (bytes_from c a n)
some_of c a n k e = subst (λ (i : ℕ). 0 < length (bytes_from c a i)) (sym e) (omega arith)

pub some_in_run : (r : SourceRun) → r.first ≤ r.last → 0 < length (bytes_of r)
some_in_run r h =
    let more : r.last + 1 - r.first ≡ suc (r.last - r.first) = omega (arith, h) in
    some_of r.channel r.first (r.last + 1 - r.first) (r.last - r.first) more

-- any other has none
pub none_in_run : (r : SourceRun) → r.last < r.first → [] ≡ bytes_of r
none_in_run r h =
    let none : 0 ≡ r.last + 1 - r.first = omega (arith, h) in
    ap (bytes_from r.channel r.first) none

module _ (labels : SourceLabels) (r : SourceRun) where
  -- the label of a run that has a byte
  pub run_made : (label : Label) → kind_of label ≡ Run r → r.first ≤ r.last → MakesLabel label_words labels (bytes_of r) label
  run_made label kind h =
      let means = ap (λ (k : LabelKind). (terms_by (log_of (nodes_of labels)) k).sources) kind in
      record {
        stands = record {
          stands = subst (λ (k : LabelKind). IsNode (log_of (nodes_of labels)) (node_or_nothing k)) (sym kind) (omega arith);
          some = λ _. subst (λ bs. 0 < length bs) (sym means) (some_in_run r h);
        };
        means = means;
      }

  -- and of one that has none
  pub nothing_made : r.last < r.first → MakesLabel label_words labels (bytes_of r) nothing_label
  nothing_made h =
      let nothing = label_laws.of_nothing labels in
      record { stands = nothing.stands; means = subst (λ bs. label_words.means labels nothing_label ≡ bs) (none_in_run r h) nothing.means }
