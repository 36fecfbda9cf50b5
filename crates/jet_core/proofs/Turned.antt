-- In a line whose cores have begun, an event sends a part of what is to be sent, and leaves less to do, or it cannot move.
use Rattle.std.proofs.Common.{◌≡◌, ◌⊎◌, inl, inr, ℕ, zero, suc, ◌+◌, ◌<◌, List, [], ◌∷◌, map, refl, ap, ap₂, sym, subst, subst₂, ◌∙◌, Bool, true, false, arith}
use Rattle.std.proofs.Common.{⊎_elim}
use Rattle.std.specs.Prelude.{Option, Some, None, is_none}
use Rattle.lists.proofs.Tests.{true-false}
use Rattle.flow_model.specs.declared.Message.{Message}
use Rattle.flow_model.specs.declared.Message.TheVariants.{End}
use Rattle.epoch_model.specs.Summary.{Summary}
use Rattle.epoch_cut.specs.Numbered.{NumberedEpoch}
use Rattle.run_board.specs.declared.task.Turn.{Turn}
use Rattle.run_board.specs.declared.task.Turn.TheVariants as turn
use Rattle.stream_model.specs.Schedules.{Phase, NodeState, is_met, asks_sent_in, asks_got_in, answers_sent_in, answers_got_in, asking_links, answering_links, answering_need_by, node_moves, phase_of_first, moves_at}
use Rattle.pass_parts.specs.Known.{known}
use Rattle.backward_pass.specs.Backward.{BackView, knows, state}
use Rattle.forward_pass.specs.Forward.{ForeView, known_by, fore_state}
use Rattle.epoch_node.specs.Cores.{CoreSetup, StageView, Asking, Answering, Done, CoreView}
use Rattle.epoch_node.specs.Keeping.{Traffic, HasLinks, AtStage}
use Rattle.epoch_node.specs.Events.{PhaseTraffic, WhenNotYet, WaitsAt, settled_by, answered_by, Steps}
use Rattle.epoch_layout.specs.Layouts.{setup_at}
use Rattle.jet_core.specs.declared.joints.Joint.{Joint}
use Rattle.jet_core.specs.Joints.{Link, got_on, sent_on, traffic_between}
use Rattle.jet_core.specs.Turns.{traffic_on, IsPopRefused, IsPushRefused, TurnsOn, TurnsAsking, TurnsAnswering, Stays, TurnsIn, TurnsBetween, TurnsAt}
use Rattle.jet_core.specs.Lines.{Plan, is_last, StandsBetween, AllStand}
use Rattle.jet_core.specs.Streams.{summary_at, summaries_of, all_asks, all_answers, HasSentPart, HasBegun, SendsPart, AllSendPart}
use Rattle.jet_core.specs.Left.{phase_in, core_left, row_left, states}
use Rattle.jet_core.proofs.Parts.{IsSource, HasGotPart, got_part}
use Rattle.jet_core.proofs.Events.{asks_sent_part, asks_less, answers_sent_part, answers_less}
use Rattle.jet_core.proofs.Standing.{traffic_asking, traffic_answering, traffic_stays, stands_on, IsSameForPrevious, IsSameForNext, seen_by_previous, seen_by_next, AreSameForPrevious, turn_stands}
use Rattle.jet_core.proofs.Neighbours.{ComesBefore, next_before, room_lacks, item_lacks, not_met, previous_ask, previous_answer, next_ask, next_answer}

-- ---- one core

-- nothing happened, and nothing can
pub record CannotMove (capacity : ℕ) (previous next : Option Phase) (g : StageView) (c c' : CoreView) (w w' : Traffic) : Type 0 where
  pub core : c' ≡ c
  pub traffic : w' ≡ w
  pub still : node_moves capacity previous next (summary_at g) (phase_in g w) ≡ false

-- of a core at this stage, where `es` are the summaries after it, and this is all that it is answered
pub record HasTurned (capacity : ℕ) (first : Bool) (es : List Summary) (answered : List Message) (previous next : Option Phase) (g : StageView) (c : CoreView) (w : Traffic) (c' : CoreView) (j' i' : Joint) : Type 0 where
  pub begun : HasBegun c'.stage
  pub summary : summary_at c'.stage ≡ summary_at g
  pub asks : HasSentPart (all_asks (summary_at g ∷ es)) (sent_on j'.ask)
  pub answers : HasSentPart (all_answers first (summary_at g) es answered) (sent_on i'.answer)
  pub progress :
      (core_left (all_asks (summary_at g ∷ es)) (all_asks es) answered (all_answers first (summary_at g) es answered) (phase_in c'.stage (traffic_between j' i'))
      < core_left (all_asks (summary_at g ∷ es)) (all_asks es) answered (all_answers first (summary_at g) es answered) (phase_in g w))
      ⊎ CannotMove capacity previous next g c c' w (traffic_between j' i')

module _ (p : Plan) (first : Bool) (e : NumberedEpoch) (es : List NumberedEpoch) (c : CoreView) (cs : List CoreView) (j i : Joint) (js : List Joint) (previous : Option Phase) (answered : List Message)
    (s : StandsBetween p.capacity (setup_at p.run e first (is_last es)) c j i) (h : AllStand p false es cs (i ∷ js)) (b : ComesBefore p.capacity first previous (j ∷ i ∷ js))
    (c' : CoreView) (j' i' : Joint) (answer : Turn) (t : TurnsBetween c j i c' j' i' answer)
    (asked : HasGotPart (all_asks (summaries_of cs)) (got_on i'.ask)) (heard : HasGotPart answered (got_on j'.answer)) where
  abbrev Turned : StageView → Type 0
  Turned g = HasTurned p.capacity first (summaries_of cs) answered previous (phase_of_first (states cs (i ∷ js))) g c (traffic_between j i) c' j' i'

  after : StandsBetween p.capacity (setup_at p.run e first (is_last es)) c' j' i'
  after = stands_on p.capacity (setup_at p.run e first (is_last es)) c j i c' j' i' answer t s

  setup_same : c'.setup ≡ c.setup
  setup_same = after.setup ∙ sym s.setup

  first_is : c.setup.first ≡ first
  first_is = ap (λ (g : CoreSetup). g.first) s.setup

  steps_of : (g : StageView) (inlet outlet inlet' outlet' : Link) → c.stage ≡ g → TurnsOn c c' inlet outlet inlet' outlet' answer → Steps c.setup g (got_on inlet) (sent_on outlet) c'.stage (got_on inlet') (sent_on outlet') answer
  steps_of g inlet outlet inlet' outlet' q x = subst (λ s. Steps c.setup s (got_on inlet) (sent_on outlet) c'.stage (got_on inlet') (sent_on outlet') answer) q x.event.steps

  when_not : (P : Type 0) → answer ≡ turn.NotYet → WhenNotYet answer P → P
  when_not P n x = subst (λ a. WhenNotYet a P) n x

  -- the answer is NotYet, or not
  not_yet_or : (a : Turn) → (a ≡ turn.NotYet) ⊎ (a ≡ turn.NotYet → ⊥)
  not_yet_or turn.Moved = inr (λ e. cc)
  not_yet_or turn.NotYet = inl refl
  not_yet_or turn.Done = inr (λ e. cc)

  -- while it asks
  module _ (v : BackView) (q : c.stage ≡ Asking v) (x : TurnsAsking c c' j i j' i' answer) where
    asking_turned : HasSentPart (all_asks (knows v ∷ summaries_of cs)) (sent_on j.ask) → HasSentPart (all_answers first (knows v) (summaries_of cs) answered) (sent_on i.answer) → Turned (Asking v)
    asking_turned sent answers =
        let w = traffic_between j i in
        let w' = record w { asks_got = got_on i'.ask; asks_sent = sent_on j'.ask } in
        let traffic : traffic_between j' i' ≡ w' = traffic_asking c j i c' j' i' answer x in
        let at = subst (λ g. AtStage c.setup g w) q s.keeps.stage in
        let steps = steps_of (Asking v) i.ask j.ask i'.ask j'.ask q x.on in
        let links : HasLinks c.setup w' = subst₂ HasLinks setup_same traffic after.keeps.links in
        let to : AtStage c.setup c'.stage w' = subst₂ (λ (g : CoreSetup) (w : Traffic). AtStage g c'.stage w) setup_same traffic after.keeps.stage in
        let part = asks_sent_part c.setup v w at c'.stage (got_on i'.ask) (sent_on j'.ask) answer steps (summaries_of cs) links to (links.asks_sent ∙ sym s.keeps.links.asks_sent) asked sent in
        let known_same : known steps.back.summary ≡ knows v = ap known steps.same.summary in
        let rest = all_asks (summaries_of cs) in
        let asks = all_asks (knows v ∷ summaries_of cs) in
        let all = all_answers first (knows v) (summaries_of cs) answered in
        let next = phase_of_first (states cs (i ∷ js)) in
        record {
          begun = subst HasBegun (sym steps.is) (begun steps.back steps.back.over);
          summary = ap summary_at steps.is ∙ summary steps.back steps.back.over ∙ known_same;
          asks = part;
          answers = subst (HasSentPart (all_answers first (knows v) (summaries_of cs) answered)) (sym (ap sent_on x.next_answer)) answers;
          progress = ⊎_elim
              (λ n.
              let same = when_not _ n x.on.event.not_yet in
              let waits =
              subst (λ g. WaitsAt g (traffic_on i.ask j.ask) (IsPopRefused i.ask i'.ask) (IsPushRefused j.ask j'.ask)) q (when_not _ n x.on.waits) in
              inr (record {
                core = same.0;
                traffic = traffic ∙ ap (λ (on : PhaseTraffic). record w { asks_got = on.got; asks_sent = on.sent }) same.1;
                still = not_met _ (asking_links p.capacity false previous next (state v (got_on i.ask) (sent_on j.ask))) (IsPopRefused i.ask i'.ask) (IsPushRefused j.ask j'.ask) waits
                    (λ r. item_lacks p.capacity i.ask i'.ask asks_sent_in next r (next_ask p first e es c j i s cs js h))
                    (λ r. room_lacks p.capacity j.ask j'.ask v.over v.whole asks_got_in previous r (previous_ask p first e es c j i s previous (i ∷ js) b));
              }))
              (λ n. inl (subst (λ w'. core_left asks rest answered all (phase_in c'.stage w') < core_left asks rest answered all (phase_in (Asking v) w)) (sym traffic)
              (asks_less c.setup v w at c'.stage (got_on i'.ask) (sent_on j'.ask) answer steps (summaries_of cs) asks answered all part asked n)))
              (not_yet_or answer);
        }
      where
        begun : (back : BackView) (over : Bool) → HasBegun (settled_by over c.setup back)
        begun back true = tt
        begun back false = tt

        summary : (back : BackView) (over : Bool) → summary_at (settled_by over c.setup back) ≡ known back.summary
        summary back true = refl
        summary back false = refl

  -- while it answers
  module _ (f : ForeView) (q : c.stage ≡ Answering f) (x : TurnsAnswering c c' j i j' i' answer) where
    answering_turned : HasSentPart (all_asks (known_by f ∷ summaries_of cs)) (sent_on j.ask) → HasSentPart (all_answers first (known_by f) (summaries_of cs) answered) (sent_on i.answer) → Turned (Answering f)
    answering_turned sent answers =
        let w = traffic_between j i in
        let w' = record w { answers_got = got_on j'.answer; answers_sent = sent_on i'.answer } in
        let traffic : traffic_between j' i' ≡ w' = traffic_answering c j i c' j' i' answer x in
        let at = subst (λ g. AtStage c.setup g w) q s.keeps.stage in
        let steps = steps_of (Answering f) j.answer i.answer j'.answer i'.answer q x.on in
        let links : HasLinks c.setup w' = subst₂ HasLinks setup_same traffic after.keeps.links in
        let to : AtStage c.setup c'.stage w' = subst₂ (λ (g : CoreSetup) (w : Traffic). AtStage g c'.stage w) setup_same traffic after.keeps.stage in
        let got = subst (λ l. HasGotPart (all_asks (summaries_of cs)) (got_on l)) x.next_ask asked in
        let part = subst (λ b. HasSentPart (all_answers b (known_by f) (summaries_of cs) answered) (sent_on i'.answer)) first_is
        (answers_sent_part c.setup f w at.0 at.1 c'.stage (got_on j'.answer) (sent_on i'.answer) answer steps (summaries_of cs) links to (links.answers_sent ∙ sym s.keeps.links.answers_sent) got answered heard
        (subst (λ b. HasSentPart (all_answers b (known_by f) (summaries_of cs) answered) (sent_on i.answer)) (sym first_is) answers)) in
        let known_same : known steps.fore.summary ≡ known_by f = ap known steps.same.summary in
        let rest = all_asks (summaries_of cs) in
        let asks = all_asks (known_by f ∷ summaries_of cs) in
        let all = all_answers first (known_by f) (summaries_of cs) answered in
        let next = phase_of_first (states cs (i ∷ js)) in
        record {
          begun = subst HasBegun (sym steps.is) (begun steps.fore steps.fore.over);
          summary = ap summary_at steps.is ∙ summary steps.fore steps.fore.over ∙ known_same;
          asks = subst (HasSentPart (all_asks (known_by f ∷ summaries_of cs))) (sym (ap sent_on x.previous_ask)) sent;
          answers = part;
          progress = ⊎_elim
              (λ n.
              let same = when_not _ n x.on.event.not_yet in
              let waits =
              subst (λ g. WaitsAt g (traffic_on j.answer i.answer) (IsPopRefused j.answer j'.answer) (IsPushRefused i.answer i'.answer)) q
              (when_not _ n x.on.waits) in
              inr (record {
                core = same.0;
                traffic = traffic ∙ ap (λ (on : PhaseTraffic). record w { answers_got = on.got; answers_sent = on.sent }) same.1;
                still = not_met _ (answering_links p.capacity false previous next (fore_state f (got_on j.answer) (sent_on i.answer))) (IsPopRefused j.answer j'.answer) (IsPushRefused i.answer i'.answer) waits
                    (λ r. item_lacks p.capacity j.answer j'.answer answers_sent_in previous r (previous_answer p first e es c j i s previous (i ∷ js) b))
                    (λ r. room_lacks p.capacity i.answer i'.answer f.over f.whole answers_got_in next r (next_answer p first e es c j i s cs js h));
              }))
              (λ n. inl (subst (λ w'. core_left asks rest answered all (phase_in c'.stage w') < core_left asks rest answered all (phase_in (Answering f) w)) (sym traffic)
              (answers_less c.setup f w at.0 at.1 c'.stage (got_on j'.answer) (sent_on i'.answer) answer steps (summaries_of cs) asks rest answered all part heard n)))
              (not_yet_or answer);
        }
      where
        begun : (fore : ForeView) (over : Bool) → HasBegun (answered_by over fore)
        begun fore true = tt
        begun fore false = tt

        summary : (fore : ForeView) (over : Bool) → summary_at (answered_by over fore) ≡ known fore.summary
        summary fore true = refl
        summary fore false = refl

  -- once it is done
  done_turned : (f : ForeView) → c.stage ≡ Done f → Stays c c' j i j' i' → HasSentPart (all_asks (known_by f ∷ summaries_of cs)) (sent_on j.ask) → HasSentPart (all_answers first (known_by f) (summaries_of cs) answered) (sent_on i.answer)
      → Turned (Done f)
  done_turned f q x sent answers =
      let w = traffic_between j i in
      let at = subst (λ g. AtStage c.setup g w) q s.keeps.stage in
      let stage : c'.stage ≡ Done f = ap (λ (c : CoreView). c.stage) x.core ∙ q in
      let next = phase_of_first (states cs (i ∷ js)) in
      record {
        begun = subst HasBegun (sym stage) tt;
        summary = ap summary_at stage;
        asks = subst (λ (j : Joint). HasSentPart (all_asks (known_by f ∷ summaries_of cs)) (sent_on j.ask)) (sym x.previous_same) sent;
        answers = subst (λ (i : Joint). HasSentPart (all_answers first (known_by f) (summaries_of cs) answered) (sent_on i.answer)) (sym x.next_same) answers;
        progress = inr (record {
          core = x.core;
          traffic = traffic_stays c j i c' j' i' answer x;
          still = ap (λ over. is_met (answering_need_by (known_by f) f.asked (fore_state f (got_on j.answer) (sent_on i.answer)) over f.whole) (answering_links p.capacity false previous next (fore_state f (got_on j.answer) (sent_on i.answer)))) at.1;
        });
      }

  pub core_turned : SendsPart first answered c cs j i → Turned c.stage
  core_turned sends = by c.stage refl t.event sends.begun sends.asks sends.answers where
    by : (g : StageView) → c.stage ≡ g → TurnsIn g c c' j i j' i' answer → HasBegun g → HasSentPart (all_asks (summary_at g ∷ summaries_of cs)) (sent_on j.ask)
        → HasSentPart (all_answers first (summary_at g) (summaries_of cs) answered) (sent_on i.answer) → Turned g
    by (Asking v) q x begun sent answers = asking_turned v q x sent answers
    by (Answering f) q x begun sent answers = answering_turned f q x sent answers
    by (Done f) q x begun sent answers = done_turned f q x sent answers
    by g q x begun sent answers = absurd begun

-- ---- a line

source : (all : List Message) (o : Option (List Message)) → (is_none o ≡ true → all ≡ End true ∷ []) → (is_none o ≡ false → HasSentPart all o) → IsSource all o
source all None n s = n refl
source all (Some sent) n s = s refl

states_summaries : (p : Plan) (first : Bool) (es : List NumberedEpoch) (cs : List CoreView) (js : List Joint) → AllStand p first es cs js → map (λ (n : NodeState). n.summary) (states cs js) ≡ summaries_of cs
states_summaries p first es [] js s = refl
states_summaries p first (e ∷ es) (c ∷ cs) (j ∷ i ∷ js) s = ap (λ ds. summary_at c.stage ∷ ds) (states_summaries p false es cs (i ∷ js) s.1)
states_summaries p first es cs js s = absurd s

-- links that changed at their other ends
parts_of_next : (first : Bool) (answered : List Message) (cs : List CoreView) (i i' : Joint) (js : List Joint) → IsSameForNext i i' → AllSendPart first answered cs (i ∷ js) → AllSendPart first answered cs (i' ∷ js)
parts_of_next first answered [] i i' js same a = tt
parts_of_next first answered (c ∷ cs) i i' [] same a = absurd a
parts_of_next first answered (c ∷ cs) i i' (k ∷ js) same a =
    (record { begun = a.0.begun; asks = subst (HasSentPart (all_asks (summaries_of (c ∷ cs)))) (sym same.sent) a.0.asks; answers = a.0.answers }, a.1)

states_of_next : (cs : List CoreView) (i i' : Joint) (js : List Joint) → IsSameForNext i i' → states cs (i' ∷ js) ≡ states cs (i ∷ js)
states_of_next [] i i' js same = refl
states_of_next (c ∷ cs) i i' [] same = refl
states_of_next (c ∷ cs) i i' (k ∷ js) same =
    ap₂ (λ (sent got : Option (List Message)). record { summary = summary_at c.stage; phase = phase_in c.stage (record { asks_got = got_on k.ask; asks_sent = sent; answers_got = got; answers_sent = sent_on k.answer }) } ∷ states cs (k ∷ js)) same.sent same.got

traffic_for_previous : (b j j' : Joint) → IsSameForPrevious j j' → traffic_between b j' ≡ traffic_between b j
traffic_for_previous b j j' same = ap₂ (λ (got sent : Option (List Message)). record { asks_got = got; asks_sent = sent_on b.ask; answers_got = got_on b.answer; answers_sent = sent }) same.got same.sent

abbrev summaries_in : List NodeState → List Summary
summaries_in ns = map (λ n. n.summary) ns

row_here : (first : Bool) (answered : List Message) (n n' : NodeState) (ns ns' : List NodeState) (es : List Summary) → n'.summary ≡ n.summary → ns' ≡ ns → summaries_in ns ≡ es
    → core_left (all_asks (n.summary ∷ es)) (all_asks es) answered (all_answers first n.summary es answered) n'.phase < core_left (all_asks (n.summary ∷ es)) (all_asks es) answered (all_answers first n.summary es answered) n.phase
    → row_left first answered (n' ∷ ns') < row_left first answered (n ∷ ns)
row_here first answered n n' ns ns' es s same known less =
    let now = subst (λ es. core_left (all_asks (n.summary ∷ es)) (all_asks es) answered (all_answers first n.summary es answered) n'.phase < core_left (all_asks (n.summary ∷ es)) (all_asks es) answered (all_answers first n.summary es answered) n.phase) (sym known) less in
    let left : row_left first answered (record { summary = n.summary; phase = n'.phase } ∷ ns) < row_left first answered (n ∷ ns) = omega (arith, now) in
    subst₂ (λ (e : Summary) (ms : List NodeState). row_left first answered (record { summary = e; phase = n'.phase } ∷ ms) < row_left first answered (n ∷ ns)) (sym s) (sym same) left

row_later : (first : Bool) (answered : List Message) (n n' : NodeState) (ns ns' : List NodeState) (es : List Summary) → n' ≡ n → summaries_in ns ≡ es → summaries_in ns' ≡ es
    → row_left false (all_answers first n.summary es answered) ns' < row_left false (all_answers first n.summary es answered) ns
    → row_left first answered (n' ∷ ns') < row_left first answered (n ∷ ns)
row_later first answered n n' ns ns' es same known known' less =
    subst (λ (m : NodeState). row_left first answered (m ∷ ns') < row_left first answered (n ∷ ns)) (sym same)
    (subst₂ (λ (ds fs : List Summary).
    core_left (all_asks (n.summary ∷ ds)) (all_asks ds) answered (all_answers first n.summary ds answered) n.phase + row_left false (all_answers first n.summary ds answered) ns'
    < core_left (all_asks (n.summary ∷ fs)) (all_asks fs) answered (all_answers first n.summary fs answered) n.phase + row_left false (all_answers first n.summary fs answered) ns) (sym known') (sym known) (omega (arith, less)))

pub record LineTurned (capacity place : ℕ) (first : Bool) (answered : List Message) (previous : Option Phase) (cs : List CoreView) (js : List Joint) (cs' : List CoreView) (js' : List Joint) : Type 0 where
  pub parts : AllSendPart first answered cs' js'
  pub same : summaries_of cs' ≡ summaries_of cs
  pub progress : (row_left first answered (states cs' js') < row_left first answered (states cs js)) ⊎ ((states cs' js' ≡ states cs js) × (moves_at capacity place previous (states cs js) ≡ false))

-- where this is all that the first core is answered
abbrev pub IsAnswered : List Message → List Joint → Type 0
IsAnswered answered [] = ⊥
IsAnswered answered (j ∷ js) = IsSource answered (sent_on j.answer)

module _ (p : Plan) where
  -- what the cores after a core ask it is a part of all that they ask
  source_of_next : (first : Bool) (e : NumberedEpoch) (es : List NumberedEpoch) (answered : List Message) (c : CoreView) (cs : List CoreView) (j i : Joint) (js : List Joint)
      → StandsBetween p.capacity (setup_at p.run e first (is_last es)) c j i → AllStand p false es cs (i ∷ js) → AllSendPart false answered cs (i ∷ js) → IsSource (all_asks (summaries_of cs)) (sent_on i.ask)
  source_of_next first e es answered c cs j i js s h a = by es (both i.ask ∙ s.keeps.links.asks_got ∙ ap (λ (g : CoreSetup). g.last) s.setup) cs js h a where
    both : (link : Link) → is_none (sent_on link) ≡ is_none (got_on link)
    both None = refl
    both (Some l) = refl

    by : (ds : List NumberedEpoch) → is_none (sent_on i.ask) ≡ is_last ds → (cs : List CoreView) (js : List Joint) → AllStand p false ds cs (i ∷ js) → AllSendPart false answered cs (i ∷ js) → IsSource (all_asks (summaries_of cs)) (sent_on i.ask)
    by [] n [] js h a = source _ (sent_on i.ask) (λ t. refl) (λ f. true-false (sym n ∙ f))
    by (d ∷ ds) n (c ∷ cs) (k ∷ js) h a = source _ (sent_on i.ask) (λ t. true-false (sym t ∙ n)) (λ f. a.0.asks)
    by ds n cs js h a = absurd h

  pub turned : (place : ℕ) (first : Bool) (es : List NumberedEpoch) (answered : List Message) (previous : Option Phase) (cs : List CoreView) (js : List Joint) (cs' : List CoreView) (js' : List Joint)
      → AllStand p first es cs js → AllSendPart first answered cs js → IsAnswered answered js → ComesBefore p.capacity first previous js → TurnsAt place cs js cs' js'
      → LineTurned p.capacity place first answered previous cs js cs' js'
  turned place first [] answered previous (c ∷ cs) (j ∷ i ∷ js) cs' js' s a h b t = absurd s
  turned zero first (e ∷ es) answered previous (c ∷ cs) (j ∷ i ∷ js) cs' js' s a h b t =
      let front = seen_by_previous c j i t.core t.previous t.next t.answer t.turns in
      let back = seen_by_next c j i t.core t.previous t.next t.answer t.turns in
      let asked = got_part (all_asks (summaries_of cs)) t.next.ask (subst (IsSource (all_asks (summaries_of cs))) (sym back.sent) (source_of_next first e es _ c cs j i js s.0 s.1 a.1)) t.turns.next_ask in
      let heard = got_part answered t.previous.answer (subst (IsSource answered) (sym front.sent) h) t.turns.previous_answer in
      let r = core_turned p first e es c cs j i js previous answered s.0 s.1 b t.core t.previous t.next t.answer t.turns asked heard a.0 in
      subst₂ (LineTurned p.capacity zero first answered previous (c ∷ cs) (j ∷ i ∷ js)) (sym t.cores_are) (sym t.joints_are) (record {
        parts = (
          record {
            begun = r.begun;
            asks = subst (λ (d : Summary). HasSentPart (all_asks (d ∷ summaries_of cs)) (sent_on t.previous.ask)) (sym r.summary) r.asks;
            answers = subst (λ (d : Summary). HasSentPart (all_answers first d (summaries_of cs) answered) (sent_on t.next.answer)) (sym r.summary) r.answers;
          },
          subst (λ (d : Summary). AllSendPart false (all_answers first d (summaries_of cs) answered) cs (t.next ∷ js)) (sym r.summary) (parts_of_next false _ cs i t.next js back a.1),
        );
        same = ap (λ (d : Summary). d ∷ summaries_of cs) r.summary;
        progress = ⊎_elim
            (λ less. inl (row_here first answered (record { summary = summary_at c.stage; phase = phase_in c.stage (traffic_between j i) })
            (record { summary = summary_at t.core.stage; phase = phase_in t.core.stage (traffic_between t.previous t.next) })
            (states cs (i ∷ js)) (states cs (t.next ∷ js)) (summaries_of cs) r.summary (states_of_next cs i t.next js back) (states_summaries p false es cs (i ∷ js) s.1) less))
            (λ still. inr (
              ap₂ (λ (n : NodeState) (ns : List NodeState). n ∷ ns)
                  (ap₂ (λ (c : CoreView) (w : Traffic). record { summary = summary_at c.stage; phase = phase_in c.stage w }) still.core still.traffic)
                  (states_of_next cs i t.next js back),
              still.still,
            ))
            r.progress;
      })
  turned (suc place) first (e ∷ es) answered previous (c ∷ cs) (j ∷ i ∷ js) cs' js' s a h b t =
      let answers = all_answers first (summary_at c.stage) (summaries_of cs) answered in
      let src = source answers (sent_on i.answer) (λ n. true-false (sym n ∙ s.0.keeps.links.answers_sent ∙ ap (λ (g : CoreSetup). g.last) s.0.setup ∙ not_last es cs t.cores t.joints s.1 t.later)) (λ n. a.0.answers) in
      let r = turned place false es answers (Some (phase_in c.stage (traffic_between j i))) cs (i ∷ js) t.cores t.joints s.1 a.1 src (next_before p first e es c j i js s.0) t.later in
      let stands = turn_stands p place false es cs (i ∷ js) t.cores t.joints s.1 t.later in
      subst₂ (LineTurned p.capacity (suc place) first answered previous (c ∷ cs) (j ∷ i ∷ js)) (sym t.cores_are) (sym t.joints_are) (by t.joints r stands.0 stands.1)
    where
      not_last : (ds : List NumberedEpoch) (cs cs' : List CoreView) (js' : List Joint) → AllStand p false ds cs (i ∷ js) → TurnsAt place cs (i ∷ js) cs' js' → is_last ds ≡ false
      not_last [] [] cs' js' h t = absurd t
      not_last [] (c ∷ cs) cs' js' h t = absurd h
      not_last (d ∷ ds) cs cs' js' h t = refl

      by : (joints : List Joint)
          → LineTurned p.capacity place false (all_answers first (summary_at c.stage) (summaries_of cs) answered) (Some (phase_in c.stage (traffic_between j i))) cs (i ∷ js) t.cores joints
          → AllStand p false es t.cores joints → AreSameForPrevious (i ∷ js) joints → LineTurned p.capacity (suc place) first answered previous (c ∷ cs) (j ∷ i ∷ js) (c ∷ t.cores) (j ∷ joints)
      by [] r stands same = absurd same
      by (i' ∷ js') r stands same = record {
        parts = (
          record {
            begun = a.0.begun;
            asks = subst (λ (ds : List Summary). HasSentPart (all_asks (summary_at c.stage ∷ ds)) (sent_on j.ask)) (sym r.same) a.0.asks;
            answers = subst₂ (λ (ds : List Summary) (o : Option (List Message)). HasSentPart (all_answers first (summary_at c.stage) ds answered) o) (sym r.same) (sym same.sent) a.0.answers;
          },
          subst (λ (ds : List Summary). AllSendPart false (all_answers first (summary_at c.stage) ds answered) t.cores (i' ∷ js')) (sym r.same) r.parts,
        );
        same = ap (λ (ds : List Summary). summary_at c.stage ∷ ds) r.same;
        progress = ⊎_elim
            (λ less. inl
            (row_later first answered (record { summary = summary_at c.stage; phase = phase_in c.stage (traffic_between j i) }) (record { summary = summary_at c.stage; phase = phase_in c.stage (traffic_between j i') })
            (states cs (i ∷ js)) (states t.cores (i' ∷ js')) (summaries_of cs) (ap (λ (w : Traffic). record { summary = summary_at c.stage; phase = phase_in c.stage w }) traffic)
            (states_summaries p false es cs (i ∷ js) s.1) (states_summaries p false es t.cores (i' ∷ js') stands ∙ r.same) less))
            (λ still. inr (
              ap₂ (λ (n : NodeState) (ns : List NodeState). n ∷ ns) (ap (λ (w : Traffic). record { summary = summary_at c.stage; phase = phase_in c.stage w }) traffic) still.0,
              still.1,
            ))
            r.progress;
      } where
        traffic : traffic_between j i' ≡ traffic_between j i
        traffic = traffic_for_previous j i i' same
  turned place first es answered previous cs js cs' js' s a h b t = absurd t
