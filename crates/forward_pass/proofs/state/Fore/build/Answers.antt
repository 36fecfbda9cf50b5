use Rattle.std.proofs.Common.{rules, arith, ◌≡◌, ◌+◌, ◌∷◌, true, false, drop, refl, ap, sym, ◌∙◌}
use Rattle.std.proofs.lemmas.Grind.{common_steps}
use Rattle.epoch_model.specs.Join.{resolved}
use Rattle.stream_model.specs.Streams.{answer}
use Rattle.pass_parts.specs.Known.{known}
use Rattle.pass_parts.specs.PassSummaries.{is_whole, summary_in}
use Rattle.forward_pass.specs.Received.{is_answerable}
use Rattle.forward_pass.specs.Rest.{BeingSent}
use Rattle.forward_pass.specs.Forward.{fore_of, known_by}
use Rattle.forward_pass.specs.Steps.{before}
use Rattle.forward_pass.proofs.state.Fore.build.Goals as goal

pub returns-then-shares_last-clause-built : goal.returns-then-shares_last-clause-built
returns-then-shares_last-clause-built c =
    let s = c.args.self.now in
    let last = c.if-shares_last.ensures refl in
    let same : s.sending.set ≡ resolved (before (fore_of s)) ((known_by (fore_of s)).ends c.index-request.result.now.loc) =
    s.last_answer last.0 last.1 ∙ ap (λ k. resolved (before (fore_of s)) ((known (summary_in k)).ends last.0)) c.in-Whole.is
    ∙ ap (resolved (before (fore_of s))) last.2
    ∙ ap (λ k. resolved (before (fore_of s)) ((known (summary_in k)).ends c.index-request.result.now.loc)) (sym c.in-Whole.is)
    in
    let request = c.index-request.result.now in
    let left = drop (s.answered + 1) s.requests.items in
    let next : drop s.answered s.requests.items ≡ request ∷ left = grind (arith, common_steps) in
    let enough : is_answerable s.received request ≡ true = search rules in
    λ _.
    record {
      whole = ap is_whole c.in-Whole.is;
      is_refused = false;
      request = request;
      left = left;
      next = next;
      answerable = enough;
      is = ap (λ (b : BeingSent). record (fore_of s) { left = left; sending = b.left }) c.again.ensures
          ∙ ap (λ set. record (fore_of s) { left = left; sending = answer request.loc set }) same;
    }
