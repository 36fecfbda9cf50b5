use Rattle.std.proofs.Common.{ℕ, ◌+◌, ◌-◌, ◌^◌, List, ◌∷◌, [], ◌++◌, ap, sym, ◌∙◌, subst, subst₂}
use Rattle.std.specs.Prelude.{IfOk, min}
use Rattle.flow_model.specs.declared.Loc.{Loc}
use Rattle.epoch_node.specs.declared.ends.Ends.{Ends}
use Rattle.epoch_node.specs.Keeping.{HasDone, HasCounted}
use Rattle.epoch_node.specs.Nodes.{traffic_of}
use Rattle.epoch_layout.specs.Lines.{IsOneLink, HasDelivered}
use Rattle.epoch_layout.specs.declared.collecting.Gathering.{Gathering}
use Rattle.epoch_layout.proofs.collecting.Gathering.take.Goals as goal

pub close_links-requires : goal.close_links-requires
close_links-requires g c = record {
  ask = subst (λ (x : Ends). IsOneLink c.args.self.now.ask_out x.ask_in) (sym c.in_ok-finished.ensures.ends) c.requires.ask;
  answer = subst (λ (x : Ends). IsOneLink x.answer_out c.args.self.now.answer_in) (sym c.in_ok-finished.ensures.ends) c.requires.answer;
}

pub returns : goal.returns
returns g c =
    let n = c.args.node in
    let finished = c.in_ok-finished.ensures in
    let of = c.in_ok-finished.finished in
    let after = c.close_links.ensures.after in
    let has = subst (λ r. IfOk r (λ rows. HasDone n.core.setup (traffic_of n.ends) of.asked rows)) c.in-Ok.is finished.done in
    let counted = subst (λ r. IfOk r (λ rows. HasCounted n.core.setup (traffic_of n.ends) of.asked rows of.events)) c.in-Ok.is finished.counted in
    record {
      rows = c.in-Ok.own;
      done = subst (λ (asked : List Loc). HasDone n.core.setup (traffic_of n.ends) asked c.in-Ok.own) finished.asked has;
      counted = subst₂ (λ (asked : List Loc) (events : ℕ). HasCounted n.core.setup (traffic_of n.ends) asked c.in-Ok.own events) finished.asked finished.events counted;
      sets = c.in_ok-push.ensures.items ∙ ap (λ (z : Gathering). z.sets.items ++ c.in-Ok.own ∷ []) after;
      asked = c.in_ok-push-2.ensures.items ∙ ap (λ (z : Gathering). z.asked.items ++ of.asked ∷ []) after ∙ ap (λ (l : List Loc). c.args.self.now.asked.items ++ l ∷ []) finished.asked;
      events = c.saturating_add-self.ensures ∙ ap (λ (z : Gathering). min (z.events + of.events) (2 ^ 64 - 1)) after ∙ ap (λ (e : ℕ). min (c.args.self.now.events + e) (2 ^ 64 - 1)) finished.events;
      ask_out = ap (λ (z : Gathering). z.ask_out) after ∙ ap (λ (x : Ends). x.ask_out) finished.ends;
      answer_in = ap (λ (z : Gathering). z.answer_in) after ∙ ap (λ (x : Ends). x.answer_in) finished.ends;
      asks = subst (λ (x : Ends). HasDelivered c.args.self.now.ask_out x.ask_in) finished.ends c.close_links.ensures.asks;
      answers = subst (λ (x : Ends). HasDelivered x.answer_out c.args.self.now.answer_in) finished.ends c.close_links.ensures.answers;
    }
