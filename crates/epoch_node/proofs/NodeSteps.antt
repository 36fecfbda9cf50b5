-- What an event of the core makes of its node, and what a node has sent.
use Rattle.std.proofs.Common.{◌≡◌, ◌-◌, List, [], ◌∷◌, refl, ap, sym, subst, subst₂, ◌∙◌, Bool, true, false}
use Rattle.std.specs.Prelude.{Option, Some, None, is_none, option_map, IfSome}
use Rattle.lists.proofs.Tests.{true-false}
use Rattle.flow_model.specs.declared.Loc.{Loc}
use Rattle.flow_model.specs.declared.Message.{Message}
use Rattle.epoch_link.specs.Link.{EndView}
use Rattle.epoch_link.specs.Ends.{Producing, Consuming, producer_end, consumer_end}
use Rattle.replayer.specs.Jobs.{trace_of}
use Rattle.epoch_model.specs.Summary.{Summary as EpochSummary}
use Rattle.epoch_model.specs.Crossing.{summary_of}
use Rattle.stream_model.specs.Streams.{requests, asks_for, answers_for}
use Rattle.stream_model.specs.StreamLaws.{IsPrefix}
use Rattle.run_board.specs.declared.task.Turn.{Turn}
use Rattle.pass_parts.specs.Ends.{through, IsEndFrom, got_by, sent_by, fresh_end}
use Rattle.backward_pass.specs.Backward.{BackView, knows}
use Rattle.forward_pass.specs.Forward.{ForeView, known_by}
use Rattle.epoch_node.specs.declared.ends.Ends.{Ends}
use Rattle.epoch_node.specs.Cores.{CoreSetup, StageView, Fresh, Asking, Answering, Done, Between, CoreView, phase_of, uses_asks, whole_at, asked_at}
use Rattle.epoch_node.specs.Keeping.{Traffic, HasLinks, IsOfEpoch, IsAsking, IsAnswering, AtStage, KeepsCore}
use Rattle.epoch_node.specs.Events.{traffic_after, PhaseTraffic, phase_traffic, traffic_at, IsMore, IsEvent}
use Rattle.epoch_node.specs.Nodes.{traffic_of, Progress, HasEvent, IsEndLater, later_refl, IsInletLater, IsOutletLater, AreEndsLater, IsLedFrom, SendsDue}
use Rattle.epoch_node.proofs.Acting.{began_whole}

-- ---- later

module _ {E : Type 0} (end : E → EndView Message) where
  pub later_end : (new old : Option E) → IsEndFrom end new old → IsMore (through end old) (through end new) → IsEndLater end new old
  later_end None None h m = tt
  later_end (Some n) (Some o) h m = (h.link, m)
  later_end new old h m = absurd h

-- ---- an event on the links of its phase

-- the ends of the asks, or else those of the answers
abbrev pub inlet_of : Bool → Ends → Option (Consuming Message)
inlet_of true e = e.ask_in
inlet_of false e = e.answer_in

abbrev pub outlet_of : Bool → Ends → Option (Producing Message)
outlet_of true e = e.ask_out
outlet_of false e = e.answer_out

abbrev pub with_ends : Bool → Ends → Option (Consuming Message) → Option (Producing Message) → Ends
with_ends true e inlet outlet = record e { ask_in = inlet; ask_out = outlet }
with_ends false e inlet outlet = record e { answer_in = inlet; answer_out = outlet }

-- these are the links of the phase
record AreLinks (b : Bool) (s : StageView) (e : Ends) : Type 0 where
  on : traffic_at s (traffic_of e) ≡ phase_traffic consumer_end producer_end (inlet_of b e) (outlet_of b e)
  traffic : (inlet : Option (Consuming Message)) (outlet : Option (Producing Message)) → traffic_after s (through consumer_end inlet) (through producer_end outlet) (traffic_of e) ≡ traffic_of (with_ends b e inlet outlet)

are_links : (b : Bool) (s : StageView) (e : Ends) → uses_asks (phase_of s) ≡ b → AreLinks b s e
are_links true (Fresh t) e h = record { on = refl; traffic = λ i o. refl }
are_links true (Asking v) e h = record { on = refl; traffic = λ i o. refl }
are_links true s e h = true-false (sym h)
are_links false (Fresh t) e h = true-false h
are_links false (Asking v) e h = true-false h
are_links false s e h = record { on = refl; traffic = λ i o. refl }

module _ (b : Bool) (c d : CoreView) (e : Ends) (inlet : Option (Consuming Message)) (outlet : Option (Producing Message)) (answer : Turn) (uses : uses_asks (phase_of c.stage) ≡ b)
    (x : IsEvent c (phase_traffic consumer_end producer_end (inlet_of b e) (outlet_of b e)) d (phase_traffic consumer_end producer_end inlet outlet) answer) where
  are : AreLinks b c.stage e
  are = are_links b c.stage e uses

  pub event_leads : IsEndFrom consumer_end inlet (inlet_of b e) → IsEndFrom producer_end outlet (outlet_of b e)
      → IsLedFrom (record { core = d; ends = with_ends b e inlet outlet }) (record { core = c; ends = e })
  event_leads i o =
      let after : Progress = record { core = d; traffic = traffic_of (with_ends b e inlet outlet) } in
      let event : HasEvent (record { core = c; traffic = traffic_of e }) after = record {
        on = phase_traffic consumer_end producer_end inlet outlet;
        answer = answer;
        event = subst (λ on. IsEvent c on d (phase_traffic consumer_end producer_end inlet outlet) answer) (sym are.on) x;
        traffic = sym (are.traffic inlet outlet);
      } in
      record { setup = x.setup; ends = by b (later_end consumer_end inlet (inlet_of b e) i x.more_got) (later_end producer_end outlet (outlet_of b e) o x.more_sent); came = (after ∷ [], (event, refl)) }
    where
      by : (b : Bool) → IsInletLater inlet (inlet_of b e) → IsOutletLater outlet (outlet_of b e) → AreEndsLater (with_ends b e inlet outlet) e
      by true i o = record { ask_in = i; ask_out = o; answer_in = later_refl consumer_end e.answer_in; answer_out = later_refl producer_end e.answer_out }
      by false i o = record { ask_in = later_refl consumer_end e.ask_in; ask_out = later_refl producer_end e.ask_out; answer_in = i; answer_out = o }

  pub event_keeps : KeepsCore c (traffic_of e) → KeepsCore d (traffic_of (with_ends b e inlet outlet))
  event_keeps k =
      subst (KeepsCore d) (are.traffic inlet outlet) (x.keeps (traffic_of e) (ap (λ (o : PhaseTraffic). o.got) are.on) (ap (λ (o : PhaseTraffic). o.sent) are.on) k)

-- ---- what is sent

nothing_sent : (b : Bool) (sent : Option (List Message)) (all : List Message) → sent ≡ fresh_end b → IfSome sent (λ s. IsPrefix s all)
nothing_sent b sent all e = subst (λ o. IfSome o (λ s. IsPrefix s all)) (sym e) (by b) where
  by : (b : Bool) → IfSome (fresh_end b) (λ s. IsPrefix s all)
  by true = tt
  by false = (all, refl)

-- where there is a link, a part of all was sent on it
part_sent : (over whole first : Bool) (sent : Option (List Message)) (all : List Message) → is_none sent ≡ first → (first ≡ false → IsPrefix (sent_by over whole sent) all) → IfSome sent (λ s. IsPrefix s all)
part_sent over whole first None all n p = tt
part_sent over whole first (Some sent) all n p = p (sym n)

record Sends (i : CoreSetup) (asked : List Loc) (w : Traffic) : Type 0 where
  summary : EpochSummary
  of_epoch : IsOfEpoch i summary
  asks : IfSome w.asks_sent (λ sent. IsPrefix sent (asks_for summary (got_by w.asks_got)))
  answers : IfSome w.answers_sent (λ sent. IsPrefix sent (answers_for summary asked (requests (got_by w.asks_got)) (got_by w.answers_got)))

asking_sends : (i : CoreSetup) (v : BackView) (w : Traffic) → HasLinks i w → IsAsking i v w → v.whole ≡ true → Sends i v.asked w
asking_sends i v w l a t = record {
  summary = knows v;
  of_epoch = (a.summary (a.keeps.fits.known t)).summary;
  asks = part_sent v.over v.whole v.first w.asks_sent (asks_for (knows v) (got_by w.asks_got)) (l.asks_sent ∙ sym a.first) (a.sends t).part;
  answers = nothing_sent i.last w.answers_sent (answers_for (knows v) v.asked (requests (got_by w.asks_got)) (got_by w.answers_got)) a.answers_sent;
}

answering_sends : (i : CoreSetup) (f : ForeView) (w : Traffic) → HasLinks i w → IsAnswering i f w → f.whole ≡ true → Sends i f.asked w
answering_sends i f w l a t =
    let began = began_whole i f w a t in
    record {
      summary = known_by f;
      of_epoch = (a.summary (a.keeps.known t)).summary;
      asks = part_sent true a.asking.is_whole i.first w.asks_sent (asks_for (known_by f) (got_by w.asks_got)) l.asks_sent (λ n. subst₂ IsPrefix a.sent (ap (asks_for (known_by f)) a.got) ((a.asks began).part n));
      answers = part_sent f.over f.whole (is_none w.answers_sent) w.answers_sent (answers_for (known_by f) f.asked (requests (got_by w.asks_got)) (got_by w.answers_got)) refl
          (λ n. subst (λ noted. IsPrefix (sent_by f.over f.whole w.answers_sent) (answers_for (known_by f) f.asked noted (got_by w.answers_got))) (a.noted_is began) (a.sends t).part);
    }

sends_at : (i : CoreSetup) (s : StageView) (w : Traffic) → HasLinks i w → AtStage i s w → whole_at s ≡ true → Sends i (asked_at s) w
sends_at i (Fresh t) w l at h =
    let e = summary_of i.query (trace_of i.points.job) i.epoch.first (i.epoch.past_last - i.epoch.first) in
    record {
      summary = e;
      of_epoch = record { ends = λ l h. refl; sinks = refl };
      asks = nothing_sent i.first w.asks_sent (asks_for e (got_by w.asks_got)) (ap (λ w. w.asks_sent) at.2);
      answers = nothing_sent i.last w.answers_sent (answers_for e [] (requests (got_by w.asks_got)) (got_by w.answers_got)) (ap (λ w. w.answers_sent) at.2);
    }
sends_at i (Asking v) w l at h = asking_sends i v w l at h
sends_at i (Answering f) w l at h = answering_sends i f w l at.0 h
sends_at i (Done f) w l at h = answering_sends i f w l at.0 h
sends_at i Between w l at h = absurd at

at_end : {E : Type 0} (list : E → List Message) (all : List Message) (o : Option E) → IfSome (option_map list o) (λ s. IsPrefix s all) → IfSome o (λ x. IsPrefix (list x) all)
at_end list all None h = tt
at_end list all (Some x) h = h

pub sends_due : (c : CoreView) (e : Ends) → KeepsCore c (traffic_of e) → whole_at c.stage ≡ true → SendsDue (record { core = c; ends = e })
sends_due c e k h =
    let s = sends_at c.setup c.stage (traffic_of e) k.links k.stage h in
    record {
      summary = s.summary;
      of_epoch = s.of_epoch;
      asks = at_end (λ p. p.sent) _ e.ask_out s.asks;
      answers = at_end (λ p. p.sent) _ e.answer_out s.answers;
    }
