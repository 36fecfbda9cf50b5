-- An event keeps each core between its links.
use Rattle.std.proofs.Common.{◌≡◌, ℕ, zero, suc, ◌+◌, ◌<◌, List, [], ◌∷◌, length, refl, ap, ap₂, sym, subst, subst₂, ◌∙◌, Bool, true, false, arith}
use Rattle.std.specs.Prelude.{Option, Some, None}
use Rattle.flow_model.specs.declared.Message.{Message}
use Rattle.run_board.specs.declared.task.Turn.{Turn}
use Rattle.epoch_cut.specs.Numbered.{NumberedEpoch}
use Rattle.forward_pass.specs.Forward.{ForeView}
use Rattle.epoch_node.specs.Cores.{CoreSetup, StageView, Fresh, Asking, Answering, Done, Between, CoreView}
use Rattle.epoch_node.specs.Keeping.{Traffic, AtStage, KeepsCore}
use Rattle.epoch_node.specs.Events.{got_at, sent_at, traffic_after, answered_by, Steps}
use Rattle.epoch_layout.specs.Layouts.{setup_at}
use Rattle.jet_core.specs.declared.joints.Joint.{Joint}
use Rattle.jet_core.specs.Joints.{Link, got_on, sent_on, IsSound, traffic_between}
use Rattle.jet_core.specs.Turns.{IsInletFrom, IsOutletFrom, TurnsOn, TurnsAsking, TurnsAnswering, Stays, TurnsIn, TurnsBetween, KeepsAt, TurnsAt}
use Rattle.jet_core.specs.Lines.{Plan, is_last, IsLinkOf, HasSettled, StandsBetween, AllStand}
use Rattle.jet_core.proofs.Events.{asks_settled}

-- ---- links

pub inlet_of : (capacity : ℕ) (new old : Link) → IsInletFrom new old → IsSound new → IsLinkOf capacity old → IsLinkOf capacity new
inlet_of capacity None None f s l = tt
inlet_of capacity (Some new) (Some old) f s l = (f.capacity ∙ l.0, s)
inlet_of capacity new old f s l = absurd f

pub outlet_of : (capacity : ℕ) (new old : Link) → IsOutletFrom new old → IsSound new → IsLinkOf capacity old → IsLinkOf capacity new
outlet_of capacity None None f s l = tt
outlet_of capacity (Some new) (Some old) f s l = (f.capacity ∙ l.0, s)
outlet_of capacity new old f s l = absurd f

pub inlet_sent : (new old : Link) → IsInletFrom new old → sent_on new ≡ sent_on old
inlet_sent None None f = refl
inlet_sent (Some new) (Some old) f = ap Some f.other
inlet_sent new old f = absurd f

pub outlet_got : (new old : Link) → IsOutletFrom new old → got_on new ≡ got_on old
outlet_got None None f = refl
outlet_got (Some new) (Some old) f = ap Some f.other
outlet_got new old f = absurd f

-- ---- links that changed at one end, seen from the other

-- from the core before them
pub record IsSameForPrevious (j j' : Joint) : Type 0 where
  pub got : got_on j'.ask ≡ got_on j.ask
  pub sent : sent_on j'.answer ≡ sent_on j.answer
  pub ask : (capacity : ℕ) → IsLinkOf capacity j.ask → IsLinkOf capacity j'.ask
  pub answer : (capacity : ℕ) → IsLinkOf capacity j.answer → IsLinkOf capacity j'.answer

-- from the next core
pub record IsSameForNext (j j' : Joint) : Type 0 where
  pub sent : sent_on j'.ask ≡ sent_on j.ask
  pub got : got_on j'.answer ≡ got_on j.answer

pub same_for_previous : (j : Joint) → IsSameForPrevious j j
same_for_previous j = record { got = refl; sent = refl; ask = λ capacity l. l; answer = λ capacity l. l }

link_same : (capacity : ℕ) (l l' : Link) → l' ≡ l → IsLinkOf capacity l → IsLinkOf capacity l'
link_same capacity l l' e h = subst (IsLinkOf capacity) (sym e) h

module _ (c : CoreView) (j i : Joint) (c' : CoreView) (j' i' : Joint) (answer : Turn) (t : TurnsBetween c j i c' j' i' answer) where
  pub seen_by_previous : IsSameForPrevious j j'
  seen_by_previous = by c.stage t.event where
    asking : TurnsAsking c c' j i j' i' answer → IsSameForPrevious j j'
    asking x = record {
      got = outlet_got j'.ask j.ask x.on.same_outlet;
      sent = ap sent_on x.previous_answer;
      ask = λ capacity l. outlet_of capacity j'.ask j.ask x.on.same_outlet t.previous_ask l;
      answer = λ capacity l. link_same capacity j.answer j'.answer x.previous_answer l;
    }

    by : (s : StageView) → TurnsIn s c c' j i j' i' answer → IsSameForPrevious j j'
    by (Fresh n) x = asking x
    by (Asking v) x = asking x
    by (Answering f) x = record {
      got = ap got_on x.previous_ask;
      sent = inlet_sent j'.answer j.answer x.on.same_inlet;
      ask = λ capacity l. link_same capacity j.ask j'.ask x.previous_ask l;
      answer = λ capacity l. inlet_of capacity j'.answer j.answer x.on.same_inlet t.previous_answer l;
    }
    by (Done f) x = subst (IsSameForPrevious j) (sym x.previous_same) (same_for_previous j)
    by Between x = absurd x

  pub seen_by_next : IsSameForNext i i'
  seen_by_next = by c.stage t.event where
    asking : TurnsAsking c c' j i j' i' answer → IsSameForNext i i'
    asking x = record { sent = inlet_sent i'.ask i.ask x.on.same_inlet; got = ap got_on x.next_answer }

    by : (s : StageView) → TurnsIn s c c' j i j' i' answer → IsSameForNext i i'
    by (Fresh n) x = asking x
    by (Asking v) x = asking x
    by (Answering f) x = record { sent = ap sent_on x.next_ask; got = outlet_got i'.answer i.answer x.on.same_outlet }
    by (Done f) x = record { sent = ap (λ (i : Joint). sent_on i.ask) x.next_same; got = ap (λ (i : Joint). got_on i.answer) x.next_same }
    by Between x = absurd x

  links_to_next : (capacity : ℕ) → IsLinkOf capacity i.ask → IsLinkOf capacity i.answer → IsLinkOf capacity i'.ask × IsLinkOf capacity i'.answer
  links_to_next capacity k l = by c.stage t.event where
    asking : TurnsAsking c c' j i j' i' answer → IsLinkOf capacity i'.ask × IsLinkOf capacity i'.answer
    asking x = (inlet_of capacity i'.ask i.ask x.on.same_inlet t.next_ask k, link_same capacity i.answer i'.answer x.next_answer l)

    by : (s : StageView) → TurnsIn s c c' j i j' i' answer → IsLinkOf capacity i'.ask × IsLinkOf capacity i'.answer
    by (Fresh n) x = asking x
    by (Asking v) x = asking x
    by (Answering f) x = (link_same capacity i.ask i'.ask x.next_ask k, outlet_of capacity i'.answer i.answer x.on.same_outlet t.next_answer l)
    by (Done f) x = (link_same capacity i.ask i'.ask (ap (λ (i : Joint). i.ask) x.next_same) k, link_same capacity i.answer i'.answer (ap (λ (i : Joint). i.answer) x.next_same) l)
    by Between x = absurd x

-- ---- what went through the links after an event

module _ (c : CoreView) (j i : Joint) (c' : CoreView) (j' i' : Joint) (answer : Turn) where
  pub traffic_asking : TurnsAsking c c' j i j' i' answer → traffic_between j' i' ≡ record (traffic_between j i) { asks_got = got_on i'.ask; asks_sent = sent_on j'.ask }
  traffic_asking x =
      ap₂ (λ (a b : Link). record { asks_got = got_on i'.ask; asks_sent = sent_on j'.ask; answers_got = got_on a; answers_sent = sent_on b }) x.previous_answer x.next_answer

  pub traffic_answering : TurnsAnswering c c' j i j' i' answer → traffic_between j' i' ≡ record (traffic_between j i) { answers_got = got_on j'.answer; answers_sent = sent_on i'.answer }
  traffic_answering x =
      ap₂ (λ (a b : Link). record { asks_got = got_on b; asks_sent = sent_on a; answers_got = got_on j'.answer; answers_sent = sent_on i'.answer }) x.previous_ask x.next_ask

  keeps_asking : (s : StageView) → c.stage ≡ s → ((w : Traffic) → got_at s w ≡ w.asks_got) → ((w : Traffic) → sent_at s w ≡ w.asks_sent)
      → ((got sent : Option (List Message)) (w : Traffic) → traffic_after s got sent w ≡ record w { asks_got = got; asks_sent = sent })
      → TurnsAsking c c' j i j' i' answer → KeepsCore c (traffic_between j i) → KeepsCore c' (traffic_between j' i')
  keeps_asking s e got sent traffic x k =
      let w = traffic_between j i in
      let kept = x.on.event.keeps w (ap (λ s. got_at s w) e ∙ got w) (ap (λ s. sent_at s w) e ∙ sent w) k in
      subst (KeepsCore c') (ap (λ s. traffic_after s (got_on i'.ask) (sent_on j'.ask) w) e ∙ traffic (got_on i'.ask) (sent_on j'.ask) w ∙ sym (traffic_asking x)) kept

  keeps_answering : (f : ForeView) → c.stage ≡ Answering f → TurnsAnswering c c' j i j' i' answer → KeepsCore c (traffic_between j i) → KeepsCore c' (traffic_between j' i')
  keeps_answering f e x k =
      let w = traffic_between j i in
      let kept = x.on.event.keeps w (ap (λ s. got_at s w) e) (ap (λ s. sent_at s w) e) k in
      subst (KeepsCore c') (ap (λ s. traffic_after s (got_on j'.answer) (sent_on i'.answer) w) e ∙ sym (traffic_answering x)) kept

  pub traffic_stays : Stays c c' j i j' i' → traffic_between j' i' ≡ traffic_between j i
  traffic_stays x = ap₂ traffic_between x.previous_same x.next_same

  -- ---- the core after its event

  record IsAfter (w : Traffic) : Type 0 where
    setup : c'.setup ≡ c.setup
    keeps : KeepsCore c' w
    settled : HasSettled c'.stage w

  after : TurnsIn c.stage c c' j i j' i' answer → KeepsCore c (traffic_between j i) → HasSettled c.stage (traffic_between j i) → IsAfter (traffic_between j' i')
  after t k h = by c.stage refl t h where
    w : Traffic
    w = traffic_between j i

    steps_of : (s : StageView) (inlet outlet inlet' outlet' : Link) → c.stage ≡ s → TurnsOn c c' inlet outlet inlet' outlet' answer → Steps c.setup s (got_on inlet) (sent_on outlet) c'.stage (got_on inlet') (sent_on outlet') answer
    steps_of s inlet outlet inlet' outlet' e x = subst (λ s. Steps c.setup s (got_on inlet) (sent_on outlet) c'.stage (got_on inlet') (sent_on outlet') answer) e x.event.steps

    still : (f fore : ForeView) → HasSettled (Answering f) (traffic_between j i) → TurnsAnswering c c' j i j' i' answer → (over : Bool) → HasSettled (answered_by over fore) (traffic_between j' i')
    still f fore h x over = subst (HasSettled (answered_by over fore)) (sym (traffic_answering x)) (one over) where
      one : (over : Bool) → HasSettled (answered_by over fore) (record (traffic_between j i) { answers_got = got_on j'.answer; answers_sent = sent_on i'.answer })
      one true = h
      one false = h

    by : (s : StageView) → c.stage ≡ s → TurnsIn s c c' j i j' i' answer → HasSettled s (traffic_between j i) → IsAfter (traffic_between j' i')
    by (Fresh n) e x h =
        let steps = steps_of (Fresh n) i.ask j.ask i'.ask j'.ask e x.on in
        record {
          setup = x.on.event.setup;
          keeps = keeps_asking (Fresh n) e (λ w. refl) (λ w. refl) (λ got sent w. refl) x k;
          settled = subst (λ s. HasSettled s (traffic_between j' i')) (sym steps.is) tt;
        }
    by (Asking v) e x h =
        let steps = steps_of (Asking v) i.ask j.ask i'.ask j'.ask e x.on in
        let at = subst (λ s. AtStage c.setup s (traffic_between j i)) e k.stage in
        record {
          setup = x.on.event.setup;
          keeps = keeps_asking (Asking v) e (λ w. refl) (λ w. refl) (λ got sent w. refl) x k;
          settled = subst (HasSettled c'.stage) (sym (traffic_asking x)) (asks_settled c.setup v (traffic_between j i) at c'.stage (got_on i'.ask) (sent_on j'.ask) answer steps []);
        }
    by (Answering f) e x h =
        let steps = steps_of (Answering f) j.answer i.answer j'.answer i'.answer e x.on in
        record {
          setup = x.on.event.setup;
          keeps = keeps_answering f e x k;
          settled = subst (λ s. HasSettled s (traffic_between j' i')) (sym steps.is) (still f steps.fore h x steps.fore.over);
        }
    by (Done f) e x h = record {
      setup = ap (λ (c : CoreView). c.setup) x.core;
      keeps = subst₂ KeepsCore (sym x.core) (sym (traffic_stays x)) k;
      settled = subst₂ HasSettled (sym (ap (λ (c : CoreView). c.stage) x.core ∙ e)) (sym (traffic_stays x)) h;
    }
    by Between e x h = absurd x

pub stands_on : (capacity : ℕ) (g : CoreSetup) (c : CoreView) (j i : Joint) (c' : CoreView) (j' i' : Joint) (answer : Turn) → TurnsBetween c j i c' j' i' answer → StandsBetween capacity g c j i
    → StandsBetween capacity g c' j' i'
stands_on capacity g c j i c' j' i' answer t s =
    let a = after c j i c' j' i' answer t.event s.keeps s.settled in
    let links = links_to_next c j i c' j' i' answer t capacity s.ask s.answer in
    record { setup = a.setup ∙ s.setup; keeps = a.keeps; settled = a.settled; ask = links.0; answer = links.1 }

-- the core before links that changed at their other ends
pub stands_for_previous : (capacity : ℕ) (g : CoreSetup) (c : CoreView) (b j j' : Joint) → IsSameForPrevious j j' → StandsBetween capacity g c b j → StandsBetween capacity g c b j'
stands_for_previous capacity g c b j j' same s =
    let traffic : traffic_between b j ≡ traffic_between b j' =
    ap₂ (λ (got sent : Option (List Message)). record { asks_got = got; asks_sent = sent_on b.ask; answers_got = got_on b.answer; answers_sent = sent }) (sym same.got) (sym same.sent) in
    record {
      setup = s.setup;
      keeps = subst (KeepsCore c) traffic s.keeps;
      settled = subst (HasSettled c.stage) traffic s.settled;
      ask = same.ask capacity s.ask;
      answer = same.answer capacity s.answer;
    }

-- and the next core
pub stands_for_next : (capacity : ℕ) (g : CoreSetup) (c : CoreView) (i i' b : Joint) → IsSameForNext i i' → StandsBetween capacity g c i b → StandsBetween capacity g c i' b
stands_for_next capacity g c i i' b same s =
    let traffic : traffic_between i b ≡ traffic_between i' b =
    ap₂ (λ (sent got : Option (List Message)). record { asks_got = got_on b.ask; asks_sent = sent; answers_got = got; answers_sent = sent_on b.answer }) (sym same.sent) (sym same.got) in
    record {
      setup = s.setup;
      keeps = subst (KeepsCore c) traffic s.keeps;
      settled = subst (HasSettled c.stage) traffic s.settled;
      ask = s.ask;
      answer = s.answer;
    }

-- ---- a line

abbrev pub AreSameForPrevious : List Joint → List Joint → Type 0
AreSameForPrevious [] js' = ⊥
AreSameForPrevious (j ∷ js) [] = ⊥
AreSameForPrevious (j ∷ js) (j' ∷ js') = IsSameForPrevious j j'

module _ (p : Plan) where
  other_head : (first : Bool) (es : List NumberedEpoch) (cs : List CoreView) (i i' : Joint) (js : List Joint) → IsSameForNext i i' → AllStand p first es cs (i ∷ js) → AllStand p first es cs (i' ∷ js)
  other_head first [] [] i i' [] same s = tt
  other_head first (e ∷ es) (c ∷ cs) i i' (b ∷ js) same s = (stands_for_next p.capacity (setup_at p.run e first (is_last es)) c i i' b same s.0, s.1)
  other_head first es cs i i' js same s = absurd s

  pub turn_stands : (place : ℕ) (first : Bool) (es : List NumberedEpoch) (cs : List CoreView) (js : List Joint) (cs' : List CoreView) (js' : List Joint) → AllStand p first es cs js → TurnsAt place cs js cs' js'
      → AllStand p first es cs' js' × AreSameForPrevious js js'
  turn_stands place first [] (c ∷ cs) (j ∷ i ∷ js) cs' js' s t = absurd s
  turn_stands zero first (e ∷ es) (c ∷ cs) (j ∷ i ∷ js) cs' js' s t =
      let g = setup_at p.run e first (is_last es) in (
        subst₂ (AllStand p first (e ∷ es)) (sym t.cores_are) (sym t.joints_are)
            (stands_on p.capacity g c j i t.core t.previous t.next t.answer t.turns s.0, other_head false es cs i t.next js (seen_by_next c j i t.core t.previous t.next t.answer t.turns) s.1),
        subst (AreSameForPrevious (j ∷ i ∷ js)) (sym t.joints_are) (seen_by_previous c j i t.core t.previous t.next t.answer t.turns),
      )
  turn_stands (suc place) first (e ∷ es) (c ∷ cs) (j ∷ i ∷ js) cs' js' s t =
      let g = setup_at p.run e first (is_last es) in
      let r = turn_stands place false es cs (i ∷ js) t.cores t.joints s.1 t.later in (
        subst₂ (AllStand p first (e ∷ es)) (sym t.cores_are) (sym t.joints_are) (by t.joints r.0 r.1),
        subst (AreSameForPrevious (j ∷ i ∷ js)) (sym t.joints_are) (same_for_previous j),
      )
    where
      by : (joints : List Joint) → AllStand p false es t.cores joints → AreSameForPrevious (i ∷ js) joints → AllStand p first (e ∷ es) (c ∷ t.cores) (j ∷ joints)
      by [] stand same = absurd same
      by (i' ∷ js') stand same = (stands_for_previous p.capacity (setup_at p.run e first (is_last es)) c j i i' same s.0, stand)
  turn_stands place first es cs js cs' js' s t = absurd t

  -- the core at each place keeps what it is to keep
  pub keeps_at : (place : ℕ) (first : Bool) (es : List NumberedEpoch) (cs : List CoreView) (js : List Joint) → AllStand p first es cs js → place < length cs → KeepsAt place cs js
  keeps_at place first es [] js s b = absurd (omega (arith, b))
  keeps_at zero first (e ∷ es) (c ∷ cs) (j ∷ i ∷ js) s b = s.0.keeps
  keeps_at (suc place) first (e ∷ es) (c ∷ cs) (j ∷ i ∷ js) s b = keeps_at place false es cs (i ∷ js) s.1 (omega (arith, b))
  keeps_at place first es cs js s b = absurd s

  -- there is one joint more
  pub joints_count : (first : Bool) (es : List NumberedEpoch) (cs : List CoreView) (js : List Joint) → AllStand p first es cs js → length js ≡ length cs + 1
  joints_count first [] [] (j ∷ []) s = refl
  joints_count first (e ∷ es) (c ∷ cs) (j ∷ i ∷ js) s = let n = joints_count false es cs (i ∷ js) s.1 in omega (arith, n)
  joints_count first es cs js s = absurd s
