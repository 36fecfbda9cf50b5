use Rattle.std.proofs.Common.{◌≡◌, ◌∷◌, [], sym, refl, drop, arith, ◌+◌, ◌∙◌}
use Rattle.lists.proofs.Lists.{drop-within}
use Rattle.forward_pass.proofs.state.Fore.resolve.Goals as goal

pub returns-then-self-len-clause-none : goal.returns-then-self-len-clause-none
returns-then-self-len-clause-none c = λ _. (
  refl,
  λ _ none _.
      let s = c.args.self.now in
      let next = drop-within s.requests.items s.answered (omega (arith, c.len.ensures, s.requests.ok, c.if-self-len.true)) in
      let wrong : [] ≡ next.0 ∷ drop (s.answered + 1) s.requests.items = sym none ∙ next.1 in
      cc,
)
