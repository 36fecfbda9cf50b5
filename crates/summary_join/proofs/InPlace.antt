-- Sinks that are carried where they stand.
use Rattle.std.proofs.Common.{◌≡◌, ℕ, ◌+◌, ◌<◌, List, ◌++◌, length, map, take, drop, get_or, slice_set, ap, ◌∙◌}
use Rattle.std.proofs.lemmas.List.{get_or_default}
use Rattle.std.proofs.lemmas.List.Edits.{map_over_more}
use Rattle.taint_shadow.specs.declared.labels.Label.{Label}
use Rattle.taint_shadow.specs.declared.labels.SinkLabel.{SinkLabel}
use Rattle.summary_join.specs.declared.cut.CutLabels.{CutLabels}
use Rattle.summary_join.specs.Labels.{carried, carried_sink}

-- one more of them, where those before it are carried and the others are as they were
pub one_more : (cut : CutLabels) (table : List Label) (xs ys : List SinkLabel) (i : ℕ) (d : SinkLabel) (k : Label) → i < length xs → i < length ys
    → ys ≡ map (carried_sink cut table) (take i xs) ++ drop i xs → k ≡ carried cut table (get_or ys i d).label
    → slice_set ys i (record { name = (get_or ys i d).name; label = k }) ≡ map (carried_sink cut table) (take (i + 1) xs) ++ drop (i + 1) xs
one_more cut table xs ys i d k inside within is carry =
    ap (λ (l : Label). slice_set ys i (record { name = (get_or ys i d).name; label = l })) carry
    ∙ map_over_more (carried_sink cut table) xs ys i (get_or ys i d) inside is (get_or_default ys i d (get_or ys i d) within)
