-- Which labels have a source byte, and labels of source bytes that were made as labels of terms.
use Rattle.std.proofs.Common.{◌≡◌, zero, suc, ◌<◌, true, List, [], ◌∷◌, length, refl, ap, sym, ◌∙◌, subst, arith}
use Rattle.std.specs.Prelude.{◌↔◌, IsTrue}
use Rattle.std.proofs.lemmas.Bool.{lt-ltb}
use Rattle.std.specs.declared.cmp.Ordering.{Ordering}
use Rattle.std.specs.declared.cmp.Ordering.TheVariants.{Less, Equal, Greater}
use Rattle.lists.specs.Sets.{union, inserted, placed}
use Rattle.flow_model.specs.declared.SourceByte.{SourceByte}
use Rattle.flow_model.specs.Orders.{source_cmp}
use Rattle.merge_log.specs.declared.nodes.Entry.{Entry}
use Rattle.merge_log.specs.Log.{Terms}
use Rattle.merge_log.proofs.Terms.{nothing_under_0}
use Rattle.taint_shadow.specs.declared.labels.Label.{Label}
use Rattle.taint_shadow.specs.declared.labels.LabelKind.{LabelKind}
use Rattle.taint_shadow.specs.declared.labels.LabelKind.TheVariants.{Node, Start, Run}
use Rattle.taint_shadow.specs.Labels.{Makes, MakesLabel, mean_together, kind_of}
use Rattle.taint_shadow.proofs.Meaning.{makes_itself}
use Rattle.source_labels.specs.declared.labels.SourceLabels.{SourceLabels}
use Rattle.source_labels.specs.declared.nodes.Nodes.{Nodes}
use Rattle.source_labels.specs.Words.{node_words, label_words, log_of, nodes_of, terms_by, has_bytes, IsSourceLabel}
use Rattle.source_labels.specs.Laws.{label_laws}

abbrev sources_in : Terms → List SourceByte
sources_in t = t.sources

-- there is a source byte among these
abbrev HasByte : List SourceByte → Type 0
HasByte bs = 0 < length bs

-- ---- sets with a source byte

some_byte : (b : SourceByte) (bs : List SourceByte) → HasByte (b ∷ bs)
some_byte b bs = omega arith

some_inserted : (b : SourceByte) (bs : List SourceByte) → HasByte (inserted source_cmp b bs)
some_inserted b [] = some_byte b []
some_inserted b (c ∷ bs) = by (source_cmp b c)
  where
    by : (r : Ordering) → HasByte (placed r b c bs (inserted source_cmp b bs))
    by Less = some_byte b (c ∷ bs)
    by Equal = some_byte c bs
    by Greater = some_byte c (inserted source_cmp b bs)

pub some_union : (bs cs : List SourceByte) → HasByte bs → HasByte (union source_cmp bs cs)
some_union [] cs h = absurd (omega (arith, h))
some_union (b ∷ bs) cs h = some_inserted b (union source_cmp bs cs)

none_among : (bs : List SourceByte) → (HasByte bs → ⊥) → bs ≡ []
none_among [] none = refl
none_among (b ∷ bs) none = absurd (none (some_byte b bs))

-- ---- labels with a source byte

has_by : (log : List Entry) (k : LabelKind) → (has_bytes k ≡ true → HasByte (terms_by log k).sources) → IsTrue (has_bytes k) ↔ HasByte (terms_by log k).sources
has_by log (Node zero) some = (some, λ b. absurd (omega (arith, b, ap length (ap sources_in (nothing_under_0 log)))))
has_by log (Node (suc n)) some = (some, λ b. lt-ltb 0 (suc n) (omega arith))
has_by log (Start l) some = (some, λ b. absurd (omega (arith, b)))
has_by log (Run r) some = (some, λ b. refl)

pub has_by_kind : (labels : SourceLabels) (label : Label) (k : LabelKind) → label_words.stands labels label → k ≡ kind_of label
    → IsTrue (has_bytes k) ↔ HasByte (label_words.means labels label)
has_by_kind labels label k stands is =
    subst (λ (j : LabelKind). IsTrue (has_bytes j) ↔ HasByte (label_words.means labels label)) (sym is) (has_by (log_of (nodes_of labels)) (kind_of label) stands.some)

-- the same label stands with terms that have a source byte where it had some
still_some : (old new : Nodes) (label : Label) → IsSourceLabel old label → MakesLabel node_words new (node_words.means old label) label → IsSourceLabel new label
still_some old new label was now = record { stands = now.stands; some = λ h. subst HasByte (sym (ap sources_in now.means)) (was.some h) }

-- a label that was made as one of terms with a source byte is one of source bytes
pub made_sources : (old new : SourceLabels) (m : Terms) (label : Label) → HasByte m.sources → Makes node_words (nodes_of old) m (nodes_of new) label
    → Makes label_words old m.sources new label
made_sources old new m label some h = record {
  made = record {
    stands = record { stands = h.made.stands; some = λ _. subst HasByte (sym (ap sources_in h.made.means)) some };
    means = ap sources_in h.made.means;
  };
  keeps = λ k stands.
      let now = h.keeps k stands.stands in
      record { stands = still_some (nodes_of old) (nodes_of new) k stands now; means = ap sources_in now.means };
}

-- ---- a label without a source byte beside another one

module _ (labels : SourceLabels) (left right : Label) where
  pub none_right : label_words.stands labels left → (HasByte (label_words.means labels right) → ⊥) → Makes label_words labels (mean_together label_words labels left right) labels left
  none_right stands none =
      let m = label_words.means labels left in
      makes_itself label_words labels _ left (record {
        stands = stands;
        means = sym (ap (union source_cmp m) (none_among _ none) ∙ label_laws.with_nothing m (label_laws.of_label labels left stands));
      })

  pub none_left : label_words.stands labels right → (HasByte (label_words.means labels left) → ⊥) → Makes label_words labels (mean_together label_words labels left right) labels right
  none_left stands none =
      let m = label_words.means labels right in
      makes_itself label_words labels _ right (record { stands = stands; means = sym (ap (λ (bs : List SourceByte). union source_cmp bs m) (none_among _ none)) })
