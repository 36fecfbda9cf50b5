-- A sink by its number. Crates above cite these lemmas.
use Rattle.std.proofs.Common.{◌≡◌, ℕ, ◌<◌, length, get_or, slice_get, List, map, refl, ap, sym, ◌∙◌, arith}
use Rattle.std.specs.Prelude.{Some}
use Rattle.std.specs.Option.{option_map}
use Rattle.std.proofs.lemmas.Option.{slice_get-map, slice_get_read}
use Rattle.std.proofs.lemmas.List.{length-map}
use Rattle.epoch_model.specs.Summary.{SinkTerms}
use Rattle.taint_shadow.specs.declared.labels.Label.{Label}
use Rattle.taint_shadow.specs.declared.labels.SinkLabel.{SinkLabel}
use Rattle.source_labels.specs.declared.nodes.Nodes.{Nodes}
use Rattle.source_labels.specs.Words.{node_words}
use Rattle.epoch_summary.specs.Summaries.{named}

pub nth : {X : Type 0} (v : SinkTerms → X) (nodes : Nodes) (sinks : List SinkLabel) (i : ℕ) (x : SinkLabel) → i < length (map (named nodes) sinks) → x ≡ get_or sinks i x
    → slice_get (map v (map (named nodes) sinks)) i ≡ Some (v (named nodes x))
nth v nodes sinks i x inside is =
    let within : i < length sinks = omega (arith, inside, length-map sinks (named nodes)) in
    slice_get-map v (map (named nodes) sinks) i
    ∙ ap (option_map v) (slice_get-map (named nodes) sinks i ∙ ap (option_map (named nodes)) (slice_get_read sinks (length sinks) i x refl within is))

-- two sinks that have the same label
pub same_terms : (nodes : Nodes) (sinks : List SinkLabel) (i k : ℕ) (x y : SinkLabel) → i < length (map (named nodes) sinks) → k < length (map (named nodes) sinks)
    → x ≡ get_or sinks i x → y ≡ get_or sinks k y → x.label ≡ y.label
    → slice_get (map (λ t. t.terms) (map (named nodes) sinks)) i ≡ slice_get (map (λ t. t.terms) (map (named nodes) sinks)) k
same_terms nodes sinks i k x y first second at_first at_second same =
    nth (λ t. t.terms) nodes sinks i x first at_first
    ∙ ap (λ (n : Label). Some (node_words.means nodes n)) same
    ∙ sym (nth (λ t. t.terms) nodes sinks k y second at_second)
