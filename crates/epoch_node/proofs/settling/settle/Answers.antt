use Rattle.std.proofs.Common.{◌≡◌, List, [], ◌∷◌, refl, sym, ap, ◌∙◌, rules}
use Rattle.stream_model.specs.Streams.{requests}
use Rattle.pass_parts.specs.declared.requests.Request.{Request}
use Rattle.pass_parts.specs.Ends.{got_by}
use Rattle.pass_parts.specs.Requests.{locations}
use Rattle.epoch_node.proofs.settling.settle.Goals as goal
use Rattle.epoch_node.proofs.settling.settle.Goals.{then-whole, else-whole}

none_of : (rs : List Request) → locations rs ≡ [] → rs ≡ []
none_of [] e = refl
none_of (r ∷ rs) e = cc

-- where there is no link to get from, nothing is requested
pub new-requires-clause-last : goal.new-requires-clause-last
new-requires-clause-last c = λ t.
    let k = c.requires in
    elim c.if-whole.branch [
      | then-whole w ↦ ap (λ r. r.items) w.requests-is ∙ c.into_parts-summary.ensures.2
          ∙ none_of _ (k.keeps.requested (sym c.whole-whole.ensures ∙ w.if-whole.true) ∙ ap (λ g. requests (got_by g)) (k.alone t))
      | else-whole w ↦ search rules
    ]
