-- How many nodes a layout has, their numbers and their job, and what is led from it.
use Rattle.std.proofs.Common.{◌≡◌, ℕ, suc, ◌+◌, add-one, List, [], ◌∷◌, map, length, refl, sym, ap, subst, ◌∙◌, arith}
use Rattle.std.specs.Prelude.{Option, Some, None}
use Rattle.std.specs.List.{AllZip, range_with_len}
use Rattle.std.proofs.lemmas.List.Elements.{All-nil, All-cons}
use Rattle.epoch_model.specs.Cutting.{epochs}
use Rattle.epoch_cut.specs.Numbered.{NumberedEpoch, numbered}
use Rattle.epoch_cut.proofs.Numbered.{length-numbered}
use Rattle.run_board.specs.Tasks.{AreNumbered}
use Rattle.epoch_node.specs.Nodes.{NodeView, IsLedFrom}
use Rattle.epoch_turns.specs.Groups.{AreOfJob, AreOfOneJob}
use Rattle.epoch_layout.specs.Layouts.{CutRun, epochs_of, Links, node_between, laid_out, IsLayout, IsRunOf}

module _ (capacity : ℕ) (run : CutRun) where
  length_laid : (b : Option Links) (es : List NumberedEpoch) (ls : List Links) → length ls + 1 ≡ length es → length (laid_out capacity run b es ls) ≡ length es
  length_laid b [] ls n = absurd (omega (arith, n))
  length_laid b (e ∷ []) [] n = refl
  length_laid b (e ∷ f ∷ es) [] n = absurd (omega (arith, n))
  length_laid b (e ∷ es) (l ∷ ls) n = ap suc (length_laid (Some l) es ls (omega (arith, n)))

  numbers_laid : (b : Option Links) (k s : ℕ) (cs : List ℕ) (ls : List Links) → length ls + 1 ≡ length (numbered k (epochs s cs))
      → map (λ (n : NodeView). n.core.setup.epoch.number) (laid_out capacity run b (numbered k (epochs s cs)) ls) ≡ range_with_len k (length cs)
  numbers_laid b k s [] ls n = absurd (omega (arith, n))
  numbers_laid b k s (c ∷ []) [] n = refl
  numbers_laid b k s (c ∷ d ∷ cs) [] n = absurd (omega (arith, n))
  numbers_laid b k s (c ∷ cs) (l ∷ ls) n = ap (λ ks. k ∷ ks) (numbers_laid (Some l) (suc k) c cs ls (omega (arith, n)) ∙ ap (λ j. range_with_len j (length cs)) (sym (add-one k)))

  abbrev IsOfJob : NodeView → Type 0
  IsOfJob n = n.core.setup.points.job ≡ run.job

  of_job : (b : Option Links) (es : List NumberedEpoch) (ls : List Links) → AreOfJob run.job (laid_out capacity run b es ls)
  of_job b [] ls = All-nil IsOfJob
  of_job b (e ∷ es) [] = All-cons IsOfJob (node_between capacity run e b None) [] refl (All-nil IsOfJob)
  of_job b (e ∷ es) (l ∷ ls) = All-cons IsOfJob (node_between capacity run e b (Some l)) (laid_out capacity run (Some l) es ls) refl (of_job (Some l) es ls)

pub layout_length : (capacity : ℕ) (run : CutRun) (nodes : List NodeView) → IsLayout capacity run nodes → length nodes ≡ length run.cuts
layout_length capacity run nodes h = ap length h.are ∙ length_laid capacity run _ (epochs_of run) h.links h.count ∙ length-numbered 0 0 run.cuts

pub layout_numbers : (capacity : ℕ) (run : CutRun) (nodes : List NodeView) → IsLayout capacity run nodes → AreNumbered (λ (n : NodeView). n.core.setup.epoch.number) nodes
layout_numbers capacity run nodes h =
    ap (map (λ (n : NodeView). n.core.setup.epoch.number)) h.are
    ∙ numbers_laid capacity run _ 0 0 run.cuts h.links h.count
    ∙ ap (range_with_len 0) (sym (layout_length capacity run nodes h))

pub layout_job : (capacity : ℕ) (run : CutRun) (nodes : List NodeView) → IsLayout capacity run nodes → AreOfOneJob nodes
layout_job capacity run nodes h = (run.job, subst (AreOfJob run.job) (sym h.are) (of_job capacity run None (epochs_of run) h.links))

-- what turns made of them
pub run_of : (capacity : ℕ) (run : CutRun) (starts nodes : List NodeView) → IsLayout capacity run starts → AllZip IsLedFrom nodes starts → IsRunOf run nodes
run_of capacity run starts nodes laid led = record { capacity = capacity; starts = starts; laid = laid; led = led }
