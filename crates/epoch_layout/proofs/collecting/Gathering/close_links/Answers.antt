use Rattle.std.proofs.Common.{ap₂, sym, subst}
use Rattle.epoch_layout.specs.Lines.{IsOneLink, HasDelivered}
use Rattle.epoch_layout.proofs.collecting.Gathering.close_links.Goals as goal

pub close_link-requires : goal.close_link-requires
close_link-requires c = subst (λ o. IsOneLink o c.args.ends.ask_in) (sym c.replace.ensures.value) c.requires.ask

pub close_link-requires-2 : goal.close_link-requires-2
close_link-requires-2 c = subst (λ o. IsOneLink c.args.ends.answer_out o) (sym c.replace-2.ensures.value) c.requires.answer

pub returns : goal.returns
returns c = record {
  after = ap₂ (λ o i. record c.args.self.now { ask_out = o; answer_in = i }) c.replace.ensures.after c.replace-2.ensures.after;
  asks = subst (λ o. HasDelivered o c.args.ends.ask_in) c.replace.ensures.value c.close_link.ensures;
  answers = subst (λ o. HasDelivered c.args.ends.answer_out o) c.replace-2.ensures.value c.close_link-2.ensures;
}
