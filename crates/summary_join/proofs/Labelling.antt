-- The labels of nodes, one after another.
use Rattle.std.proofs.Common.{◌≡◌, ℕ, ◌+◌, ◌<◌, List, [], ◌∷◌, ◌++◌, length, get_or, refl, ap, ap₂, sym, subst, ◌∙◌, Bool, true, false, arith, ltb, ltb-true, ltb-false}
use Rattle.std.specs.Prelude.{Some}
use Rattle.std.proofs.lemmas.List.{get_or_append_left, get_or_push, length_push}
use Rattle.std.proofs.lemmas.List.Elements.{All-cons, All-get_or, All-nil, All-push, All-weaker, recursion_from_All}
use Rattle.lists.specs.Sets.{union, Ascends}
use Rattle.lists.proofs.Tests.{true-false}
use Rattle.flow_model.specs.declared.Loc.{Loc}
use Rattle.flow_model.specs.declared.SourceByte.{SourceByte}
use Rattle.flow_model.specs.Orders.{source_cmp}
use Rattle.source_runs.specs.declared.runs.SourceRun.{SourceRun}
use Rattle.source_runs.specs.Runs.{bytes_of}
use Rattle.epoch_model.specs.Join.{resolved}
use Rattle.merge_log.specs.declared.nodes.Entry.{Entry}
use Rattle.merge_log.specs.declared.nodes.Entry.TheVariants.{Source, Start, Union}
use Rattle.merge_log.specs.Log.{Terms, HasOperandsBefore, entry_at, run_entry, terms}
use Rattle.merge_log.proofs.Terms.{nothing_under_0, terms_step}
use Rattle.taint_shadow.specs.declared.labels.Label.{Label}
use Rattle.taint_shadow.specs.Labels.{KeepsLabels, Makes, mean_together, nothing_label}
use Rattle.taint_shadow.proofs.Meaning.{keeps_itself, keeps_then}
use Rattle.source_labels.specs.declared.labels.SourceLabels.{SourceLabels}
use Rattle.source_labels.specs.Laws.{label_laws}
use Rattle.source_labels.specs.Words.{label_words}
use Rattle.summary_join.specs.declared.cut.CutLabels.{CutLabels}
use Rattle.summary_join.specs.Labels.{AllStand, AreMeant, IsMarked, IsNodeLabel, had, label_at}
use Rattle.summary_join.specs.Needs.{AreClosed}
use Rattle.summary_join.proofs.Places.{label_stands}
use Rattle.summary_join.proofs.Resolving.{resolved-joined, resolved-run, resolved-same}

-- ---- at a cut

module _ (labels : SourceLabels) (cut : CutLabels) (a : AllStand labels cut.labels.items) where
  pub cut_stands : (l : Loc) → label_words.stands labels (label_at cut.asked cut.labels.items l)
  cut_stands l = label_stands labels cut.asked cut.labels.items l (recursion_from_All (label_words.stands labels) cut.labels.items a)

  pub had_sets : (l : Loc) → Ascends source_cmp (had labels cut l)
  had_sets l = label_laws.of_label labels _ (cut_stands l)

  pub had_kept : (new : SourceLabels) → KeepsLabels label_words labels new → (l : Loc) → had new cut l ≡ had labels cut l
  had_kept new keeps l = (keeps _ (cut_stands l)).means

pub stand_kept : (old new : SourceLabels) (ks : List Label) → KeepsLabels label_words old new → AllStand old ks → AllStand new ks
stand_kept old new ks keeps a = All-weaker (label_words.stands old) (label_words.stands new) (λ k h. (keeps k h).stands) ks a

-- ---- one node

module _ (old : SourceLabels) (log : List Entry) (cut : CutLabels) (marks : List Bool) (table : List Label) (node : ℕ) where
  pub unmarked : get_or marks node false ≡ false → IsNodeLabel old log cut marks table node old nothing_label
  unmarked e = record { keeps = keeps_itself label_words old; stands = (label_laws.of_nothing old).stands; means = λ t k. true-false (sym k ∙ e) }

  made : (m : List SourceByte) (new : SourceLabels) (label : Label) → Makes label_words old m new label
      → (AreMeant old log (had old cut) marks table → IsMarked marks node → m ≡ resolved (had old cut) (terms log node)) → IsNodeLabel old log cut marks table node new label
  made m new label h same = record { keeps = h.keeps; stands = h.made.stands; means = λ t k. h.made.means ∙ same t k }

  pub source_labelled : (b : SourceByte) (new : SourceLabels) (label : Label) → entry_at log node ≡ Some (Source b) → Makes label_words old (b ∷ []) new label
      → IsNodeLabel old log cut marks table node new label
  source_labelled b new label at h = made (b ∷ []) new label h (λ t k. ap (resolved (had old cut)) (sym (terms_step log node (Source b) at tt)))

  pub run_labelled : (r : SourceRun) (new : SourceLabels) (label : Label) → entry_at log node ≡ Some (run_entry r) → Makes label_words old (bytes_of r) new label
      → IsNodeLabel old log cut marks table node new label
  run_labelled r new label at h =
      made (bytes_of r) new label h (λ t k. sym (resolved-run (had old cut) r) ∙ ap (resolved (had old cut)) (sym (terms_step log node (run_entry r) at tt)))

  module _ (a : AllStand old cut.labels.items) where
    pub start_labelled : (l : Loc) (label : Label) → entry_at log node ≡ Some (Start l) → label ≡ label_at cut.asked cut.labels.items l
        → IsNodeLabel old log cut marks table node old label
    start_labelled l label at is = record {
      keeps = keeps_itself label_words old;
      stands = subst (label_words.stands old) (sym is) (cut_stands old cut a l);
      means = λ t k. ap (label_words.means old) is ∙ ap (resolved (had old cut)) (sym (terms_step log node (Start l) at tt));
    }

    pub union_labelled : (i j : ℕ) (one other : Label) (new : SourceLabels) (label : Label) → entry_at log node ≡ Some (Union i j) → HasOperandsBefore node (Union i j)
        → AreClosed log marks → length table ≡ node → one ≡ get_or table i nothing_label → other ≡ get_or table j nothing_label
        → Makes label_words old (mean_together label_words old one other) new label → IsNodeLabel old log cut marks table node new label
    union_labelled i j one other new label at before closed count is_one is_other h =
        let i_in : i < length table = omega (arith, before.1, before.2, count) in
        let j_in : j < length table = omega (arith, before.2, count) in
        made _ new label h (λ t k.
        let operands = closed node i j k at in
        ap₂ (union source_cmp)
        (ap (label_words.means old) is_one ∙ t i i_in operands.0)
        (ap (label_words.means old) is_other ∙ t j j_in operands.1)
        ∙ resolved-joined (had old cut) (had_sets old cut a) (terms log i) (terms log j)
        ∙ ap (resolved (had old cut)) (sym (terms_step log node (Union i j) at before)))

-- the label of a node of the table stands
pub in_table : (labels : SourceLabels) (table : List Label) (i : ℕ) (label : Label) → AllStand labels table → i < length table → label ≡ get_or table i nothing_label → label_words.stands labels label
in_table labels table i label a inside is = subst (label_words.stands labels) (sym is) (All-get_or (label_words.stands labels) table i nothing_label inside a)

-- ---- the nodes below one

pub record IsTable (old : SourceLabels) (log : List Entry) (cut : CutLabels) (marks : List Bool) (new : SourceLabels) (table : List Label) (node : ℕ) : Type 0 where
  pub count : length table ≡ node
  pub keeps : KeepsLabels label_words old new
  pub stand : AllStand new table
  pub means : AreMeant new log (had old cut) marks table

module _ (old : SourceLabels) (log : List Entry) (cut : CutLabels) (marks : List Bool) where
  pub table_begun : (table : List Label) → table ≡ nothing_label ∷ [] → IsTable old log cut marks old table 1
  table_begun table is =
      let nothing = label_laws.of_nothing old in
      subst (λ (ks : List Label). IsTable old log cut marks old ks 1) (sym is) (record {
        count = refl;
        keeps = keeps_itself label_words old;
        stand = All-cons (label_words.stands old) nothing_label [] nothing.stands (All-nil (label_words.stands old));
        means = λ n h k.
            let zero_is : n ≡ 0 = omega (arith, h) in
            subst (λ (i : ℕ). label_words.means old (get_or (nothing_label ∷ []) i nothing_label) ≡ resolved (had old cut) (terms log i)) (sym zero_is)
            (nothing.means ∙ ap (resolved (had old cut)) (sym (nothing_under_0 log)));
      })

  pub table_more : (mid new : SourceLabels) (table more : List Label) (node : ℕ) (label : Label) → AllStand old cut.labels.items → IsTable old log cut marks mid table node
      → IsNodeLabel mid log cut marks table node new label → more ≡ table ++ label ∷ [] → IsTable old log cut marks new more (node + 1)
  table_more mid new table more node label a t n is =
      let same : (s : Terms) → resolved (had mid cut) s ≡ resolved (had old cut) s = resolved-same (had mid cut) (had old cut) (had_kept old cut a mid t.keeps) in
      subst (λ (ks : List Label). IsTable old log cut marks new ks (node + 1)) (sym is) (record {
        count = length_push table label ∙ ap (λ (i : ℕ). i + 1) t.count;
        keeps = keeps_then label_words old mid new t.keeps n.keeps;
        stand = All-push (label_words.stands new) table label (stand_kept mid new table n.keeps t.stand) n.stands;
        means = λ i h k. by same i h k (ltb i node) refl;
      })
    where
      Means : ℕ → Type 0
      Means i = label_words.means new (get_or (table ++ label ∷ []) i nothing_label) ≡ resolved (had old cut) (terms log i)

      by : ((s : Terms) → resolved (had mid cut) s ≡ resolved (had old cut) s) → (i : ℕ) → i < length (table ++ label ∷ []) → IsMarked marks i → (b : Bool) → ltb i node ≡ b → Means i
      by same i h k true less =
          let below : i < length table = omega (arith, ltb-true i node less, t.count) in
          ap (label_words.means new) (get_or_append_left table (label ∷ []) nothing_label i below)
          ∙ (n.keeps (get_or table i nothing_label) (All-get_or (label_words.stands mid) table i nothing_label below t.stand)).means ∙ t.means i below k
      by same i h k false not_less =
          let here : length table ≡ i = omega (arith, ltb-false i node not_less, t.count, h, length_push table label) in
          let marked : IsMarked marks node = subst (IsMarked marks) (sym here ∙ t.count) k in
          ap (label_words.means new) (get_or_push table label nothing_label i here)
          ∙ n.means (λ j l m. t.means j l m ∙ sym (same (terms log j))) marked ∙ same (terms log node)
          ∙ ap (λ (j : ℕ). resolved (had old cut) (terms log j)) (sym t.count ∙ here)
