use Rattle.std.proofs.Common.{◌∙◌, ap, sym, List, ℕ, ◌++◌, codes, append_assoc}
use Rattle.std.specs.Fmt.{decimal}
use Rattle.jet_refusal.specs.declared.refusal.Refusal.{Refusal}
use Rattle.jet_refusal.specs.Refusals.{text_of}
use Rattle.jet_refusal.proofs.refusal.push_text.Goals as goal

pub returns-in-TooManyEpochs-clause-text : goal.returns-in-TooManyEpochs-clause-text
returns-in-TooManyEpochs-clause-text c =
    c.push_number-in-TooManyEpochs.ensures.text
    ∙ ap (λ (t : List ℕ). t ++ decimal c.in-TooManyEpochs.count) c.push_str-in-TooManyEpochs.ensures
    ∙ append_assoc c.args.line.now (codes "limit epochs ") (decimal c.in-TooManyEpochs.count)
    ∙ ap (λ (r : Refusal). c.args.line.now ++ text_of r) (sym c.in-TooManyEpochs.is)
