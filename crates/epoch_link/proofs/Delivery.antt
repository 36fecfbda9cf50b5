-- The rule of the ring delivers.
use Rattle.std.proofs.Common.{List, sym, subst}
use Rattle.epoch_link.specs.Link.{Delivered}
use Rattle.epoch_link.specs.RingLaws.{RuleDelivers}

module _ {T : Type 0} where
  pub rule_delivers : RuleDelivers T
  rule_delivers n s r =
      let (u, u_there, u_has) = r.has_producer in let (w, w_there, w_has) = r.has_consumer in
      let sent = ((r.seats r.producer u u_there).0 u_has).1 in let got = ((r.seats r.consumer w w_there).1 w_has).1 in record {
        producer = record { seat = r.producer; view = u; is_there = u_there; has_it = u_has; no_other = λ j v at has. ((r.seats j v at).0 has).0 };
        consumer = record { seat = r.consumer; view = w; is_there = w_there; has_it = w_has; no_other = λ j v at has. ((r.seats j v at).1 has).0 };
        delivered = subst (λ (a : List T). Delivered a w.got n) (sym sent) (subst (λ (b : List T). Delivered r.sent b n) (sym got) r.delivered);
      }
