-- What an event of a core keeps.
use Rattle.std.proofs.Common.{refl, ◌≡◌, ℕ, List, ap, ap₂, sym, subst, subst₂, ◌∙◌, true, false}
use Rattle.std.specs.Prelude.{Option, is_none}
use Rattle.flow_model.specs.declared.Message.{Message}
use Rattle.pass_parts.specs.declared.pass_turn.PassTurn.{PassTurn}
use Rattle.pass_parts.specs.declared.pass_turn.PassTurn.TheVariants as pass_turn
use Rattle.run_board.specs.declared.task.Turn.{Turn}
use Rattle.run_board.specs.declared.task.Turn.TheVariants as turn
use Rattle.run_board.specs.Turns.{AnswersEnded}
use Rattle.pass_parts.specs.Ends.{fresh_end}
use Rattle.pass_parts.specs.Turns.{OnOver, OnOpen, OnNotYet}
use Rattle.backward_pass.specs.Backward.{state, Keeps}
use Rattle.backward_pass.proofs.Reaching.{begins_state}
use Rattle.forward_pass.specs.Forward.{ForeKeeps}
use Rattle.epoch_node.specs.declared.stage.Phase.{Phase}
use Rattle.epoch_node.specs.declared.stage.Phase.TheVariants as phase
use Rattle.epoch_node.specs.declared.stage.Stage.{Stage}
use Rattle.epoch_node.specs.Cores.{CoreSetup, stage_of, StageView, Fresh, Asking, Answering, Done, Between, CoreView, phase_of}
use Rattle.epoch_node.specs.Keeping.{Traffic, fresh_traffic, HasLinks, AtStage, KeepsCore}
use Rattle.epoch_node.specs.Events.{got_at, sent_at, traffic_after, PhaseTraffic, traffic_at, IsReady, IsMore, settled_by, answered_by, asks_turn, answers_turn, Steps, WhenNotYet, counted, IsEvent, CanAct, Acts, CanAdvance, Advances, turn_after, counted_by, GoesOn}
use Rattle.epoch_node.proofs.Acting.{more_still, begun_asking, can_settle, asks_got_more, asks_sent_more, still_asking, begins_to_answer, answers_got_more, answers_sent_more, still_answering}
use Rattle.epoch_node.proofs.Counting.{still_at, traffic_still, counts_at}

pub acts_of : {s t : Stage} → s ≡ t → (next : StageView) (on on' : PhaseTraffic) (turn : PassTurn) → Acts (stage_of s) on next on' turn → Acts (stage_of t) on next on' turn
acts_of e next on on' turn x = subst (λ s. Acts (stage_of s) on next on' turn) e x

links_at : (i : CoreSetup) (s : StageView) (w : Traffic) (got' sent' : Option (List Message)) → is_none got' ≡ is_none (got_at s w) → is_none sent' ≡ is_none (sent_at s w) → HasLinks i w → HasLinks i (traffic_after s got' sent' w)
links_at i (Fresh t) w got' sent' g s h = record { asks_got = g ∙ h.asks_got; asks_sent = s ∙ h.asks_sent; answers_got = h.answers_got; answers_sent = h.answers_sent }
links_at i (Asking v) w got' sent' g s h = record { asks_got = g ∙ h.asks_got; asks_sent = s ∙ h.asks_sent; answers_got = h.answers_got; answers_sent = h.answers_sent }
links_at i s w got' sent' g e h = record { asks_got = h.asks_got; asks_sent = h.asks_sent; answers_got = g ∙ h.answers_got; answers_sent = e ∙ h.answers_sent }

-- a pass that is not over stays in its stage, and one that is over leads to the next
stage_at : (i : CoreSetup) (s next after : StageView) (w : Traffic) (on' : PhaseTraffic) (turn : PassTurn) → AtStage i s w → Acts s (traffic_at s w) next on' turn
    → OnOpen turn (after ≡ next) → OnOver turn (Advances i next after) → AtStage i after (traffic_after s on'.got on'.sent w)
stage_at i (Fresh t) next after w on' pass_turn.Over at x o a =
    let y = subst (λ n. Advances i n after) x.0 a in
    let traffic : traffic_after (Fresh t) on'.got on'.sent w ≡ fresh_traffic i.first i.last = ap (λ (o : PhaseTraffic). record w { asks_got = o.got; asks_sent = o.sent }) x.1 ∙ at.2 in
    subst (AtStage i after) (sym traffic) (subst (λ n. AtStage i n (fresh_traffic i.first i.last)) (sym y.is) (begun_asking i y.back y.begun))
stage_at i (Fresh t) next after w on' turn at x o a = let over : turn ≡ pass_turn.Over = x.2 in cc
stage_at i (Asking v) next after w on' pass_turn.Over at x o a =
    let y = subst (λ n. Advances i n after) x.is a in
    subst (λ n. AtStage i n (traffic_after (Asking v) on'.got on'.sent w)) (sym y.is)
    (begins_to_answer i v w at next on'.got on'.sent pass_turn.Over x x.event.over y.fore y.settled, ap (λ f. f.over) y.settled.new)
stage_at i (Asking v) next after w on' turn at x o a =
    subst (λ n. AtStage i n (traffic_after (Asking v) on'.got on'.sent w)) (sym (o ∙ x.is)) (still_asking i v w at next on'.got on'.sent turn x x.event.running)
stage_at i (Answering f) next after w on' pass_turn.Over at x o a =
    let y = subst (λ n. Advances i n after) x.is a in
    subst (λ n. AtStage i n (traffic_after (Answering f) on'.got on'.sent w)) (sym y) (still_answering i f w at.0 next on'.got on'.sent pass_turn.Over x, x.event.over)
stage_at i (Answering f) next after w on' turn at x o a =
    subst (λ n. AtStage i n (traffic_after (Answering f) on'.got on'.sent w)) (sym (o ∙ x.is)) (still_answering i f w at.0 next on'.got on'.sent turn x, x.event.running)
stage_at i s next after w on' turn at x o a = absurd x

more_at : (i : CoreSetup) (s next : StageView) (w : Traffic) (on' : PhaseTraffic) (turn : PassTurn) → is_none on'.got ≡ is_none (got_at s w) → is_none on'.sent ≡ is_none (sent_at s w)
    → AtStage i s w → Acts s (traffic_at s w) next on' turn → IsMore (got_at s w) on'.got × IsMore (sent_at s w) on'.sent
more_at i (Fresh t) next w on' turn n m at x = (more_still w.asks_got on'.got (ap (λ (o : PhaseTraffic). o.got) x.1), more_still w.asks_sent on'.sent (ap (λ (o : PhaseTraffic). o.sent) x.1))
more_at i (Asking v) next w on' turn n m at x = (asks_got_more i v w at next on'.got on'.sent turn x n, asks_sent_more i v w at next on'.got on'.sent turn x m)
more_at i (Answering f) next w on' turn n m at x = (answers_got_more i f w at.0 next on'.got on'.sent turn x n, answers_sent_more i f w at.0 next on'.got on'.sent turn x m)
more_at i s next w on' turn n m at x = absurd x

-- the event is that of the definitions
steps_at : (i : CoreSetup) (s next after : StageView) (w : Traffic) (on' : PhaseTraffic) (turn : PassTurn) → AtStage i s w → Acts s (traffic_at s w) next on' turn
    → OnOpen turn (after ≡ next) → OnOver turn (Advances i next after) → Steps i s (got_at s w) (sent_at s w) after on'.got on'.sent (turn_after turn (phase_of after))
steps_at i (Fresh t) next after w on' pass_turn.Over at x o a =
    let y = subst (λ n. Advances i n after) x.0 a in
    record {
      back = y.back;
      is = y.is;
      begins = ap (λ (o : PhaseTraffic). state y.back o.got o.sent) x.1 ∙ ap (λ (w : Traffic). state y.back w.asks_got w.asks_sent) at.2 ∙ ap (λ v. state v (fresh_end i.last) (fresh_end i.first)) y.begun.new ∙ begins_state y.back.summary i.first i.last;
      got_same = ap (λ (o : PhaseTraffic). o.got) x.1;
      sent_same = ap (λ (o : PhaseTraffic). o.sent) x.1;
      answered = ap (λ n. turn_after pass_turn.Over (phase_of n)) y.is;
    }
steps_at i (Fresh t) next after w on' turn at x o a = let over : turn ≡ pass_turn.Over = x.2 in cc
steps_at i (Asking v) next after w on' turn at x o a =
    let found = by turn x.event.running x.event.over o a in
    record { back = x.back; came_to = turn; happens = x.event.happens; same = x.event.same; requested = x.event.keeps.requested; over = x.event.over; running = x.event.running; is = found.0; answered = found.1 }
  where
    by : (turn : PassTurn) → OnOpen turn (x.back.over ≡ false) → OnOver turn (x.back.over ≡ true) → OnOpen turn (after ≡ next) → OnOver turn (Advances i next after)
        → (after ≡ settled_by x.back.over i x.back) × (turn_after turn (phase_of after) ≡ asks_turn turn)
    by pass_turn.Over r e o a =
        let y = subst (λ n. Advances i n after) x.is a in
        (y.is ∙ ap Answering y.settled.new ∙ sym (ap (λ o. settled_by o i x.back) e), ap (λ n. turn_after pass_turn.Over (phase_of n)) y.is)
    by turn r e o a = (o ∙ x.is ∙ sym (ap (λ o. settled_by o i x.back) r), refl)
steps_at i (Answering f) next after w on' turn at x o a =
    let found = by turn x.event.running x.event.over o a in
    record { fore = x.fore; came_to = turn; happens = x.event.happens; same = x.event.same; over = x.event.over; running = x.event.running; is = found.0; answered = found.1 }
  where
    by : (turn : PassTurn) → OnOpen turn (x.fore.over ≡ false) → OnOver turn (x.fore.over ≡ true) → OnOpen turn (after ≡ next) → OnOver turn (Advances i next after)
        → (after ≡ answered_by x.fore.over x.fore) × (turn_after turn (phase_of after) ≡ answers_turn turn)
    by pass_turn.Over r e o a =
        let y = subst (λ n. Advances i n after) x.is a in (y ∙ sym (ap (λ o. answered_by o x.fore) e), ap (λ n. turn_after pass_turn.Over (phase_of n)) y)
    by turn r e o a = (o ∙ x.is ∙ sym (ap (λ o. answered_by o x.fore) r), refl)
steps_at i s next after w on' turn at x o a = absurd x

-- ---- its answer

-- the pass alone ends no node
acts_phase : (s next : StageView) (on on' : PhaseTraffic) (turn : PassTurn) → Acts s on next on' turn → phase_of next ≡ phase.Done → ⊥
acts_phase (Fresh t) next on on' turn x e = let fresh : phase.Fresh ≡ phase.Done = sym (ap phase_of x.0) ∙ e in cc
acts_phase (Asking v) next on on' turn x e = let asking : phase.Asking ≡ phase.Done = sym (ap phase_of x.is) ∙ e in cc
acts_phase (Answering f) next on on' turn x e = let answering : phase.Answering ≡ phase.Done = sym (ap phase_of x.is) ∙ e in cc
acts_phase s next on on' turn x e = absurd x

done_at : (turn : PassTurn) (next after : StageView) → OnOpen turn (after ≡ next) → (phase_of next ≡ phase.Done → ⊥) → AnswersEnded (turn_after turn (phase_of after)) (phase_of after ≡ phase.Done)
done_at pass_turn.Over next after o n = by (phase_of after) where
  by : (p : Phase) → AnswersEnded (turn_after pass_turn.Over p) (p ≡ phase.Done)
  by phase.Done = refl
  by p = λ e. cc
done_at turn next after o n = λ e. n (sym (ap phase_of o) ∙ e)

pub when_not_yet : (turn : PassTurn) (p : Phase) (answer : Turn) (P : Type 0) → answer ≡ turn_after turn p → OnNotYet turn P → WhenNotYet answer P
when_not_yet turn p answer P e w = subst (λ a. WhenNotYet a P) (sym e) (by turn p w) where
  by : (turn : PassTurn) (p : Phase) → OnNotYet turn P → WhenNotYet (turn_after turn p) P
  by pass_turn.Over phase.Done w = tt
  by pass_turn.Over p w = tt
  by turn p w = w

counted_at : (turn : PassTurn) (p before : Phase) (events : ℕ) → (before ≡ phase.Done → ⊥) → counted_by turn events ≡ counted (turn_after turn p) before events
counted_at pass_turn.Over phase.Done phase.Done events n = absurd (n refl)
counted_at turn p before events n = refl

-- where nothing more went through the links of its phase, a core keeps what it kept
traffic_same : (s : StageView) (w : Traffic) (got sent : Option (List Message)) → got_at s w ≡ got → sent_at s w ≡ sent → w ≡ traffic_after s got sent w
traffic_same s w got sent g e = sym (traffic_still s w) ∙ ap₂ (λ got sent. traffic_after s got sent w) g e

-- ---- the event of a core whose links of its phase are these

module _ (c : CoreView) (next : StageView) (on on' : PhaseTraffic) (came_to : PassTurn) (x : Acts c.stage on next on' came_to) (ready : IsReady c on)
    (no_got : is_none on'.got ≡ is_none on.got) (no_sent : is_none on'.sent ≡ is_none on.sent) where
  acts_at : (w : Traffic) → got_at c.stage w ≡ on.got → sent_at c.stage w ≡ on.sent → Acts c.stage (traffic_at c.stage w) next on' came_to
  acts_at w g s = subst₂ (λ got sent. Acts c.stage (record { got = got; sent = sent }) next on' came_to) (sym g) (sym s) x

  more : IsMore on.got on'.got × IsMore on.sent on'.sent
  more =
      subst₂ (λ got sent. IsMore got on'.got × IsMore sent on'.sent) ready.got_is ready.sent_is
      (more_at c.setup c.stage next ready.traffic on' came_to (no_got ∙ ap is_none (sym ready.got_is)) (no_sent ∙ ap is_none (sym ready.sent_is)) ready.keeps.stage
      (acts_at ready.traffic ready.got_is ready.sent_is))

  pub event_of : (d : CoreView) (answer : Turn) → GoesOn came_to (record c { stage = next }) d answer → (phase_of c.stage ≡ phase.Done → ⊥) → IsEvent c on d on' answer
  event_of d answer goes n = record {
    steps = subst₂ (λ got sent. Steps c.setup c.stage got sent d.stage on'.got on'.sent answer) ready.got_is ready.sent_is
        (subst (Steps c.setup c.stage _ _ d.stage on'.got on'.sent) (sym goes.answered)
        (steps_at c.setup c.stage next d.stage ready.traffic on' came_to ready.keeps.stage (acts_at ready.traffic ready.got_is ready.sent_is) goes.stays goes.advances));
    keeps = λ w g s k.
        let y = acts_at w g s in
        let later = traffic_after c.stage on'.got on'.sent w in
        let got_none = no_got ∙ ap is_none (sym g) in
        record {
          links = subst (λ i. HasLinks i later) (sym goes.setup) (links_at c.setup c.stage w on'.got on'.sent got_none (no_sent ∙ ap is_none (sym s)) k.links);
          stage = subst (λ i. AtStage i d.stage later) (sym goes.setup) (stage_at c.setup c.stage next d.stage w on' came_to k.stage y goes.stays goes.advances);
          counts = counts_at c d goes.setup w on' k.links got_none k.stage k.counts next came_to y goes.stays goes.advances goes.count;
        };
    setup = goes.setup;
    more_got = more.0;
    more_sent = more.1;
    done = subst (λ a. AnswersEnded a (phase_of d.stage ≡ phase.Done)) (sym goes.answered)
        (done_at came_to next d.stage goes.stays (acts_phase c.stage next on on' came_to x));
    not_yet = when_not_yet came_to (phase_of d.stage) answer _ goes.answered (nothing came_to x goes.stays goes.count);
    count = goes.count ∙ counted_at came_to (phase_of d.stage) (phase_of c.stage) c.events n ∙ ap (λ a. counted a (phase_of c.stage) c.events) (sym goes.answered);
  } where
    nothing : (turn : PassTurn) → Acts c.stage on next on' turn → OnOpen turn (d.stage ≡ next) → d.events ≡ counted_by turn c.events → OnNotYet turn ((d ≡ c) × (on' ≡ on))
    nothing pass_turn.NotYet x is e =
        let still = still_at c.stage next on on' x in
        (ap₂ (λ (i : CoreSetup) (s : StageView). record { setup = i; stage = s; events = d.events }) goes.setup (is ∙ still.0) ∙ ap (λ (n : ℕ). record { setup = c.setup; stage = c.stage; events = n }) e, still.1)
    nothing turn x is e = tt

-- nothing happens to a core that is done
pub rest_event : (c : CoreView) (on : PhaseTraffic) → IsReady c on → phase_of c.stage ≡ phase.Done → IsEvent c on c on turn.Done
rest_event c on ready e = record {
  steps = rests c.stage e ready.keeps.stage;
  keeps = λ w g s k. subst (KeepsCore c) (traffic_same c.stage w on.got on.sent g s) k;
  setup = refl;
  more_got = more_still on.got on.got refl;
  more_sent = more_still on.sent on.sent refl;
  done = e;
  not_yet = tt;
  count = sym (ap (λ p. counted turn.Done p c.events) e);
} where
  rests : (s : StageView) → phase_of s ≡ phase.Done → AtStage c.setup s ready.traffic → Steps c.setup s on.got on.sent s on.got on.sent turn.Done
  rests (Done f) e at = record { is = refl; got_same = refl; sent_same = refl; answered = refl }
  rests Between e at = absurd at
  rests s e at = cc

-- ---- what the parts of an event need

pub can_act : (c : CoreView) (on : PhaseTraffic) → IsReady c on → (phase_of c.stage ≡ phase.Done → ⊥) → CanAct c.stage on
can_act c on ready n = by c.stage ready.got_is ready.sent_is ready.keeps.stage n where
  by : (s : StageView) → got_at s ready.traffic ≡ on.got → sent_at s ready.traffic ≡ on.sent → AtStage c.setup s ready.traffic → (phase_of s ≡ phase.Done → ⊥) → CanAct s on
  by (Fresh t) g e at n = tt
  by (Asking v) g e at n = subst₂ (Keeps v) g e at.keeps
  by (Answering f) g e at n = subst₂ (ForeKeeps f) g e at.0.keeps
  by (Done f) g e at n = absurd (n refl)
  by Between g e at n = absurd at

pub can_advance : (c : CoreView) (next : StageView) (on on' : PhaseTraffic) (turn : PassTurn) → Acts c.stage on next on' turn → IsReady c on → is_none on'.got ≡ is_none on.got
    → OnOver turn (CanAdvance c.setup next)
can_advance c next on on' pass_turn.Over x ready n =
    by c.stage ready.keeps.stage (n ∙ ap is_none (sym ready.got_is)) (subst₂ (λ got sent. Acts c.stage (record { got = got; sent = sent }) next on' pass_turn.Over) (sym ready.got_is) (sym ready.sent_is) x) where
      w : Traffic
      w = ready.traffic

      by : (s : StageView) → AtStage c.setup s w → is_none on'.got ≡ is_none (got_at s w) → Acts s (traffic_at s w) next on' pass_turn.Over → CanAdvance c.setup next
      by (Fresh t) at m x = subst (CanAdvance c.setup) (sym x.0) (at.0, at.1)
      by (Asking v) at m x = subst (CanAdvance c.setup) (sym x.is) (can_settle c.setup v w at next on'.got on'.sent pass_turn.Over x ready.keeps.links.asks_got m)
      by (Answering f) at m x = subst (CanAdvance c.setup) (sym x.is) tt
      by s at m x = absurd x
can_advance c next on on' turn x ready n = tt
