-- The nodes of the definitions, as their links join them: what the nodes hold between them, and when none can move.
use Rattle.std.proofs.Common.{◌≡◌, ℕ, zero, suc, ◌+◌, ◌≤◌, List, [], ◌∷◌, ◌++◌, length, drop, refl, ap, sym, subst, ◌∙◌, Bool, true, false, cond, length-append, arith}
use Rattle.std.specs.Prelude.{Option, Some, None, is_none, is_some, nat_lt}
use Rattle.std.proofs.lemmas.Bool.{ltb-true, ltb-false}
use Rattle.lists.proofs.Tests.{true-false}
use Rattle.flow_model.specs.declared.Message.{Message}
use Rattle.epoch_cut.specs.Numbered.{NumberedEpoch}
use Rattle.epoch_link.specs.Link.{Delivered}
use Rattle.epoch_link.specs.ListLink.{BothEnds, held_count}
use Rattle.stream_model.specs.Streams.{is_ended}
use Rattle.stream_model.specs.StreamLaws.{IsPrefix}
use Rattle.stream_model.specs.Passes.{Links}
use Rattle.stream_model.specs.Schedules.{Phase, Need, Room, Item, is_met, asks_sent_in, asks_got_in, answers_sent_in, answers_got_in, first_of, next_item, has_room_for, room_to, item_from, phase_of_first}
use Rattle.stream_model.proofs.Moving.{PhaseHolds, LinkHolds, FirstHolds, LastHolds, PreviousHolds, NodesHold}
use Rattle.pass_parts.specs.Ends.{got_by, sent_by, fresh_end}
use Rattle.pass_parts.specs.Turns.{Waits}
use Rattle.epoch_node.specs.Cores.{CoreSetup, StageView, Fresh, Asking, Answering, Done, Between, CoreView}
use Rattle.epoch_node.specs.Keeping.{Traffic, AtStage}
use Rattle.epoch_layout.specs.Layouts.{setup_at}
use Rattle.jet_core.specs.declared.joints.Joint.{Joint}
use Rattle.jet_core.specs.Joints.{Link, got_on, sent_on, traffic_between}
use Rattle.jet_core.specs.Turns.{IsPopRefused, IsPushRefused}
use Rattle.jet_core.specs.Lines.{Plan, is_last, IsLinkOf, HasSettled, StandsBetween, AllStand}
use Rattle.jet_core.specs.Left.{phase_in, states}

-- ---- what a core's phase says of the links beside it

-- what the phase before some links got and sent on them
pub record Meets (p : Phase) (j : Joint) : Type 0 where
  pub ask : (l : BothEnds Message) → j.ask ≡ Some l → asks_got_in p ≡ l.got
  pub answer : (l : BothEnds Message) → j.answer ≡ Some l → answers_sent_in p ≡ l.sent

-- and the phase after them
pub record MeetsNext (p : Phase) (j : Joint) : Type 0 where
  pub ask : (l : BothEnds Message) → j.ask ≡ Some l → asks_sent_in p ≡ l.sent
  pub answer : (l : BothEnds Message) → j.answer ≡ Some l → answers_got_in p ≡ l.got

got_some : (link : Link) (l : BothEnds Message) → link ≡ Some l → got_by (got_on link) ≡ l.got
got_some link l e = ap (λ (x : Link). got_by (got_on x)) e

sent_some : (over whole : Bool) (link : Link) (l : BothEnds Message) → link ≡ Some l → sent_by over whole (sent_on link) ≡ l.sent
sent_some over whole link l e = ap (λ (x : Link). sent_by over whole (sent_on x)) e

fresh_list : (b : Bool) (o : Option (List Message)) (ms : List Message) → o ≡ Some ms → o ≡ fresh_end b → [] ≡ ms
fresh_list true o ms e f = cc
fresh_list false o ms e f = cc

got_fresh : (b : Bool) (link : Link) (l : BothEnds Message) → link ≡ Some l → got_on link ≡ fresh_end b → [] ≡ l.got
got_fresh b link l e f = fresh_list b (got_on link) l.got (ap got_on e) f

sent_fresh : (b : Bool) (link : Link) (l : BothEnds Message) → link ≡ Some l → sent_on link ≡ fresh_end b → [] ≡ l.sent
sent_fresh b link l e f = fresh_list b (sent_on link) l.sent (ap sent_on e) f

module _ (g : CoreSetup) (j i : Joint) where
  pub meets : (s : StageView) → AtStage g s (traffic_between j i) → Meets (phase_in s (traffic_between j i)) i
  meets (Fresh t) at = record {
    ask = λ l e. got_fresh g.last i.ask l e (ap (λ (w : Traffic). w.asks_got) at.2);
    answer = λ l e. sent_fresh g.last i.answer l e (ap (λ (w : Traffic). w.answers_sent) at.2);
  }
  meets (Asking v) at = record { ask = λ l e. got_some i.ask l e; answer = λ l e. sent_fresh g.last i.answer l e at.answers_sent }
  meets (Answering f) at = record { ask = λ l e. got_some i.ask l e; answer = λ l e. sent_some f.over f.whole i.answer l e }
  meets (Done f) at = record { ask = λ l e. got_some i.ask l e; answer = λ l e. sent_some f.over f.whole i.answer l e }
  meets Between at = absurd at

  pub meets_next : (s : StageView) → AtStage g s (traffic_between j i) → MeetsNext (phase_in s (traffic_between j i)) j
  meets_next (Fresh t) at = record {
    ask = λ l e. sent_fresh g.first j.ask l e (ap (λ (w : Traffic). w.asks_sent) at.2);
    answer = λ l e. got_fresh g.first j.answer l e (ap (λ (w : Traffic). w.answers_got) at.2);
  }
  meets_next (Asking v) at = record { ask = λ l e. sent_some v.over v.whole j.ask l e; answer = λ l e. got_fresh g.first j.answer l e at.answers_got }
  meets_next (Answering f) at = record { ask = λ l e. sent_some true true j.ask l e; answer = λ l e. got_some j.answer l e }
  meets_next (Done f) at = record { ask = λ l e. sent_some true true j.ask l e; answer = λ l e. got_some j.answer l e }
  meets_next Between at = absurd at

  -- the phase by itself
  pub phase_holds : (s : StageView) → AtStage g s (traffic_between j i) → HasSettled s (traffic_between j i) → PhaseHolds (phase_in s (traffic_between j i))
  phase_holds (Fresh t) at h = tt
  phase_holds (Asking v) at h = (at.running, at.unended)
  phase_holds Between at h = absurd h
  phase_holds s at h = (h.1, h.0, record { running = at.0.unended; over = at.0.ended })

  no_got : (link : Link) → is_none (got_on link) ≡ true → is_ended (got_by (got_on link)) ≡ true
  no_got None n = refl
  no_got (Some l) n = true-false (sym n)

  pub first_holds : (s : StageView) → is_none (got_on j.answer) ≡ true → FirstHolds (phase_in s (traffic_between j i))
  first_holds (Answering f) n = no_got j.answer n
  first_holds (Done f) n = no_got j.answer n
  first_holds s n = tt

  pub last_holds : (s : StageView) → is_none (got_on i.ask) ≡ true → LastHolds (phase_in s (traffic_between j i))
  last_holds (Asking v) n = no_got i.ask n
  last_holds s n = tt

-- ---- between neighbours

some_link : (capacity : ℕ) (link : Link) → is_none (got_on link) ≡ false → IsLinkOf capacity link → (l : BothEnds Message) × (link ≡ Some l) × (l.capacity ≡ capacity) × Delivered l.sent l.got l.capacity
some_link capacity None n h = true-false n
some_link capacity (Some l) n h = (l, refl, h.0, h.1)

none_same : (link : Link) → is_none (sent_on link) ≡ is_none (got_on link)
none_same None = refl
none_same (Some l) = refl

link_holds : (capacity : ℕ) (p q : Phase) (j : Joint) → Meets p j → MeetsNext q j → is_none (got_on j.ask) ≡ false → is_none (got_on j.answer) ≡ false → IsLinkOf capacity j.ask → IsLinkOf capacity j.answer → LinkHolds p q
link_holds capacity p q j m b n k a l =
    let ask = some_link capacity j.ask n a in
    let answer = some_link capacity j.answer k l in
    record {
      asks = part (asks_got_in p) (asks_sent_in q) ask.0 ask.3 (m.ask ask.0 ask.1) (b.ask ask.0 ask.1);
      answers = part (answers_got_in q) (answers_sent_in p) answer.0 answer.3 (b.answer answer.0 answer.1) (m.answer answer.0 answer.1);
    }
  where
    part : (got sent : List Message) (l : BothEnds Message) → Delivered l.sent l.got l.capacity → got ≡ l.got → sent ≡ l.sent → IsPrefix got sent
    part got sent l d g s = (d.held, ap (λ (ms : List Message). ms ++ d.held) g ∙ sym d.in_order ∙ sym s)

-- what stands before the first of some links
pub record IsMet (capacity : ℕ) (p : Phase) (j : Joint) : Type 0 where
  pub meets : Meets p j
  pub ask : IsLinkOf capacity j.ask
  pub answer : IsLinkOf capacity j.answer

abbrev pub ComesBefore : ℕ → Bool → Option Phase → List Joint → Type 0
ComesBefore capacity first previous [] = ⊥
ComesBefore capacity first None (j ∷ js) = first ≡ true
ComesBefore capacity first (Some p) (j ∷ js) = (first ≡ false) × IsMet capacity p j

abbrev pub EndsAt : Option Phase → List NumberedEpoch → Type 0
EndsAt None es = Unit {0}
EndsAt (Some p) [] = LastHolds p
EndsAt (Some p) (e ∷ es) = Unit {0}

module _ (p : Plan) where
  -- the core of an epoch, and what stands before the next
  pub next_before : (first : Bool) (e : NumberedEpoch) (es : List NumberedEpoch) (c : CoreView) (j i : Joint) (js : List Joint) → StandsBetween p.capacity (setup_at p.run e first (is_last es)) c j i
      → ComesBefore p.capacity false (Some (phase_in c.stage (traffic_between j i))) (i ∷ js)
  next_before first e es c j i js s = (refl, record { meets = meets c.setup j i c.stage s.keeps.stage; ask = s.ask; answer = s.answer })

  pub next_ends : (first : Bool) (e : NumberedEpoch) (es : List NumberedEpoch) (c : CoreView) (j i : Joint) → StandsBetween p.capacity (setup_at p.run e first (is_last es)) c j i
      → EndsAt (Some (phase_in c.stage (traffic_between j i))) es
  next_ends first e [] c j i s = last_holds c.setup j i c.stage (s.keeps.links.asks_got ∙ ap (λ (g : CoreSetup). g.last) s.setup)
  next_ends first e (d ∷ es) c j i s = tt

  previous_holds : (first last : Bool) (previous : Option Phase) (e : NumberedEpoch) (c : CoreView) (j i : Joint) (js : List Joint) → ComesBefore p.capacity first previous (j ∷ js)
      → StandsBetween p.capacity (setup_at p.run e first last) c j i → PreviousHolds previous (phase_in c.stage (traffic_between j i))
  previous_holds first last None e c j i js b s = first_holds c.setup j i c.stage (s.keeps.links.answers_got ∙ ap (λ (g : CoreSetup). g.first) s.setup ∙ b)
  previous_holds first last (Some q) e c j i js b s =
      link_holds p.capacity q (phase_in c.stage (traffic_between j i)) j b.1.meets (meets_next c.setup j i c.stage s.keeps.stage)
      (sym (none_same j.ask) ∙ s.keeps.links.asks_sent ∙ ap (λ (g : CoreSetup). g.first) s.setup ∙ b.0)
      (s.keeps.links.answers_got ∙ ap (λ (g : CoreSetup). g.first) s.setup ∙ b.0) b.1.ask b.1.answer

  pub nodes_hold : (first : Bool) (previous : Option Phase) (es : List NumberedEpoch) (cs : List CoreView) (js : List Joint) → AllStand p first es cs js → ComesBefore p.capacity first previous js → EndsAt previous es
      → NodesHold previous (states cs js)
  nodes_hold first None [] [] js s b d = tt
  nodes_hold first (Some q) [] [] js s b d = d
  nodes_hold first previous (e ∷ es) (c ∷ cs) (j ∷ i ∷ js) s b d = (
    phase_holds c.setup j i c.stage s.0.keeps.stage s.0.settled,
    previous_holds first (is_last es) previous e c j i (i ∷ js) b s.0,
    nodes_hold false (Some (phase_in c.stage (traffic_between j i))) es cs (i ∷ js) s.1 (next_before first e es c j i js s.0) (next_ends first e es c j i s.0),
  )
  nodes_hold first previous es cs js s b d = absurd s

-- ---- a link that refused

not_below : (x y : ℕ) (b : Bool) → nat_lt x y ≡ b → y ≤ x → nat_lt x y ≡ false
not_below x y false e h = e
not_below x y true e h = let less = ltb-true x y e in absurd (omega (arith, less, h))

none_left : (n : ℕ) (ms : List Message) → length ms ≤ n → is_some (first_of (drop n ms)) ≡ false
none_left zero [] h = refl
none_left zero (m ∷ ms) h = absurd (omega (arith, h))
none_left (suc n) [] h = refl
none_left (suc n) (m ∷ ms) h = none_left n ms (omega (arith, h))

no_item : (l : BothEnds Message) (got sent : List Message) → got ≡ l.got → sent ≡ l.sent → nat_lt 0 (held_count l) ≡ false → is_some (next_item got sent) ≡ false
no_item l got sent g s n =
    let none = ltb-false 0 (held_count l) n in
    let a = ap length g in
    let b = ap length s in
    none_left (length got) sent (omega (arith, none, a, b))

no_room : (l : BothEnds Message) (capacity : ℕ) (got sent : List Message) → l.capacity ≡ capacity → Delivered l.sent l.got l.capacity → got ≡ l.got → sent ≡ l.sent → nat_lt (held_count l) l.capacity ≡ false
    → has_room_for capacity sent got ≡ false
no_room l capacity got sent c d g s n =
    let full = ltb-false (held_count l) l.capacity n in
    let long : length l.sent ≡ length l.got + length d.held = ap length d.in_order ∙ length-append l.got d.held in
    let a = ap length g in
    let b = ap length s in
    not_below (length sent) (length got + capacity) _ refl (omega (arith, full, long, a, b, c))

-- the phase at the other end of a link
pub record IsOther (capacity : ℕ) (got : Bool) (list : Phase → List Message) (o : Option Phase) (l : BothEnds Message) : Type 0 where
  pub phase : Phase
  pub is : o ≡ Some phase
  pub list_is : list phase ≡ cond got l.got l.sent
  pub of_link : (l.capacity ≡ capacity) × Delivered l.sent l.got l.capacity

module _ (capacity : ℕ) where
  -- what the links of a core refuse is what they lack in the definitions
  pub room_lacks : (link link' : Link) (over whole : Bool) (got : Phase → List Message) (to : Option Phase) → IsPushRefused link link'
      → ((l : BothEnds Message) → link ≡ Some l → IsOther capacity true got to l) → room_to capacity got (sent_by over whole (sent_on link)) to ≡ false
  room_lacks (Some l) (Some l') over whole got to r m =
      let q = m l refl in
      ap (room_to capacity got l.sent) q.is ∙ no_room l capacity (got q.phase) l.sent q.of_link.0 q.of_link.1 q.list_is refl r.not_ready
  room_lacks None None over whole got to r m = absurd r
  room_lacks None (Some l') over whole got to r m = absurd r
  room_lacks (Some l) None over whole got to r m = absurd r

  pub item_lacks : (link link' : Link) (sent : Phase → List Message) (from : Option Phase) → IsPopRefused link link'
      → ((l : BothEnds Message) → link ≡ Some l → IsOther capacity false sent from l) → is_some (item_from sent (got_by (got_on link)) from) ≡ false
  item_lacks (Some l) (Some l') sent from r m =
      let q = m l refl in
      ap (λ f. is_some (item_from sent l.got f)) q.is ∙ no_item l l.got (sent q.phase) refl q.list_is r.not_ready
  item_lacks None None sent from r m = absurd r
  item_lacks None (Some l') sent from r m = absurd r
  item_lacks (Some l) None sent from r m = absurd r

of_link : (capacity : ℕ) (link : Link) (l : BothEnds Message) → link ≡ Some l → IsLinkOf capacity link → (l.capacity ≡ capacity) × Delivered l.sent l.got l.capacity
of_link capacity link l e h = subst (IsLinkOf capacity) e h

some_got : (link : Link) (l : BothEnds Message) → link ≡ Some l → is_none (got_on link) ≡ false
some_got link l e = ap (λ (x : Link). is_none (got_on x)) e

module _ (p : Plan) (first : Bool) (e : NumberedEpoch) (es : List NumberedEpoch) (c : CoreView) (j i : Joint) (s : StandsBetween p.capacity (setup_at p.run e first (is_last es)) c j i) where
  is_first : (l : BothEnds Message) (link : Link) → is_none (got_on link) ≡ c.setup.first → link ≡ Some l → first ≡ false
  is_first l link n e = sym (ap (λ (g : CoreSetup). g.first) s.setup) ∙ sym n ∙ some_got link l e

  is_end : (l : BothEnds Message) (link : Link) → is_none (got_on link) ≡ c.setup.last → link ≡ Some l → is_last es ≡ false
  is_end l link n e = sym (ap (λ (g : CoreSetup). g.last) s.setup) ∙ sym n ∙ some_got link l e

  module _ (previous : Option Phase) (js : List Joint) (b : ComesBefore p.capacity first previous (j ∷ js)) where
    pub previous_ask : (l : BothEnds Message) → j.ask ≡ Some l → IsOther p.capacity true asks_got_in previous l
    previous_ask l e = by previous b (is_first l j.ask (sym (none_same j.ask) ∙ s.keeps.links.asks_sent) e) where
      by : (previous : Option Phase) → ComesBefore p.capacity first previous (j ∷ js) → first ≡ false → IsOther p.capacity true asks_got_in previous l
      by None b f = true-false (sym b ∙ f)
      by (Some q) b f = record { phase = q; is = refl; list_is = b.1.meets.ask l e; of_link = of_link p.capacity j.ask l e b.1.ask }

    pub previous_answer : (l : BothEnds Message) → j.answer ≡ Some l → IsOther p.capacity false answers_sent_in previous l
    previous_answer l e = by previous b (is_first l j.answer s.keeps.links.answers_got e) where
      by : (previous : Option Phase) → ComesBefore p.capacity first previous (j ∷ js) → first ≡ false → IsOther p.capacity false answers_sent_in previous l
      by None b f = true-false (sym b ∙ f)
      by (Some q) b f = record { phase = q; is = refl; list_is = b.1.meets.answer l e; of_link = of_link p.capacity j.answer l e b.1.answer }

  next_is : (es : List NumberedEpoch) (cs : List CoreView) (js : List Joint) → is_last es ≡ false → AllStand p false es cs (i ∷ js) → (q : Phase) × (phase_of_first (states cs (i ∷ js)) ≡ Some q) × MeetsNext q i
  next_is [] cs js n h = true-false n
  next_is (d ∷ ds) (c ∷ cs) (k ∷ js) n h = (phase_in c.stage (traffic_between i k), refl, meets_next c.setup i k c.stage h.0.keeps.stage)
  next_is es cs js n h = absurd h

  module _ (cs : List CoreView) (js : List Joint) (h : AllStand p false es cs (i ∷ js)) where
    pub next_ask : (l : BothEnds Message) → i.ask ≡ Some l → IsOther p.capacity false asks_sent_in (phase_of_first (states cs (i ∷ js))) l
    next_ask l e =
        let q = next_is es cs js (is_end l i.ask s.keeps.links.asks_got e) h in
        record { phase = q.0; is = q.1; list_is = q.2.ask l e; of_link = of_link p.capacity i.ask l e s.ask }

    pub next_answer : (l : BothEnds Message) → i.answer ≡ Some l → IsOther p.capacity true answers_got_in (phase_of_first (states cs (i ∷ js))) l
    next_answer l e =
        let q = next_is es cs js (is_end l i.answer (sym (none_same i.answer) ∙ s.keeps.links.answers_sent) e) h in
        record { phase = q.0; is = q.1; list_is = q.2.answer l e; of_link = of_link p.capacity i.answer l e s.answer }

pub not_met : (need : Need) (links : Links) (pops pushes : Type 0) → Waits need pops pushes → (pops → is_some links.item ≡ false) → (pushes → links.has_room ≡ false) → is_met need links ≡ false
not_met Room links pops pushes w f g = g w
not_met Item links pops pushes w f g = f w
not_met need links pops pushes w f g = absurd w
