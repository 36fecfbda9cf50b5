use Rattle.std.proofs.Common.{refl, ap, ◌∙◌, Bor, List, ℕ}
use Rattle.query_lang.proofs.LineLemmas.{stripped}
use Rattle.query_lang.proofs.lines.without_carriage_return.Goals as goal

pub returns : goal.returns
returns c =
    ap (λ (r : Bor (List ℕ)). r.now) c.unwrap_or.ensures ∙ stripped c.args.line.now c.strip_suffix.result c.args.line refl c.strip_suffix.ensures.cases
