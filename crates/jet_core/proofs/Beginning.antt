-- The first round, in which each core begins.
use Rattle.std.proofs.Common.{◌≡◌, inl, ℕ, zero, suc, ◌+◌, List, [], ◌∷◌, ◌++◌, length, refl, ap, ap₂, sym, subst, subst₂, ◌∙◌, Bool, true, false, arith}
use Rattle.std.specs.Prelude.{Option, Some, None, is_none}
use Rattle.std.specs.List.{AllByRecursion}
use Rattle.flow_model.specs.declared.Message.{Message}
use Rattle.flow_model.specs.declared.Message.TheVariants.{End}
use Rattle.epoch_cut.specs.Numbered.{NumberedEpoch}
use Rattle.run_board.specs.declared.task.Turn.{Turn}
use Rattle.pass_parts.specs.Ends.{fresh_end}
use Rattle.epoch_node.specs.Cores.{CoreSetup, StageView, Fresh, CoreView, CanStart, new_core}
use Rattle.epoch_node.specs.Keeping.{fresh_traffic, HasLinks}
use Rattle.epoch_node.specs.Events.{Steps}
use Rattle.epoch_layout.specs.Layouts.{CutRun, points_of, epochs_of, setup_at}
use Rattle.epoch_layout.proofs.Tickets.{all_can_start}
use Rattle.jet_core.specs.declared.joints.Joint.{Joint}
use Rattle.jet_core.specs.Joints.{no_joint, IsNewJoint, got_on, sent_on, traffic_between}
use Rattle.jet_core.specs.Turns.{TurnsIn, TurnsBetween, TurnsAt}
use Rattle.jet_core.specs.Lines.{Plan, new_cores, IsLaidOut, IsLinkOf, StandsBetween, AllStand, IsLineOf}
use Rattle.jet_core.specs.Streams.{summary_at, summaries_of, all_asks, all_answers, HasSentPart, HasBegun, AllSendPart, AreParts}
use Rattle.jet_core.proofs.Standing.{inlet_sent}

-- ---- a new line stands

no_end_none : (b : Bool) → is_none (fresh_end b) ≡ b
no_end_none true = refl
no_end_none false = refl

fresh_links : (g : CoreSetup) → HasLinks g (fresh_traffic g.first g.last)
fresh_links g = record { asks_got = no_end_none g.last; asks_sent = no_end_none g.first; answers_got = no_end_none g.first; answers_sent = no_end_none g.last }

-- nothing went through links before a core that is the first or not
record IsFreshToPrevious (first : Bool) (j : Joint) : Type 0 where
  sent : sent_on j.ask ≡ fresh_end first
  got : got_on j.answer ≡ fresh_end first

-- and after one that is the last or not
record IsFreshToNext (capacity : ℕ) (last : Bool) (i : Joint) : Type 0 where
  got : got_on i.ask ≡ fresh_end last
  sent : sent_on i.answer ≡ fresh_end last
  ask : IsLinkOf capacity i.ask
  answer : IsLinkOf capacity i.answer

new_to_previous : (capacity : ℕ) (i : Joint) → IsNewJoint capacity i → IsFreshToPrevious false i
new_to_previous capacity i n = record { sent = ap (λ (i : Joint). sent_on i.ask) n.is; got = ap (λ (i : Joint). got_on i.answer) n.is }

new_to_next : (capacity : ℕ) (i : Joint) → IsNewJoint capacity i → IsFreshToNext capacity false i
new_to_next capacity i n = record {
  got = ap (λ (i : Joint). got_on i.ask) n.is;
  sent = ap (λ (i : Joint). sent_on i.answer) n.is;
  ask = subst (λ (i : Joint). IsLinkOf capacity i.ask) (sym n.is) (refl, record { held = []; in_order = refl; fits = omega arith });
  answer = subst (λ (i : Joint). IsLinkOf capacity i.answer) (sym n.is) (refl, record { held = []; in_order = refl; fits = omega arith });
}

module _ (p : Plan) where
  new_stands : (first : Bool) (e : NumberedEpoch) (last : Bool) (j i : Joint) → CanStart (points_of p.run) e → IsFreshToPrevious first j → IsFreshToNext p.capacity last i
      → StandsBetween p.capacity (setup_at p.run e first last) (new_core (setup_at p.run e first last)) j i
  new_stands first e last j i s b d =
      let g = setup_at p.run e first last in
      let traffic : traffic_between j i ≡ fresh_traffic first last =
      ap₂ (λ (a b : Option (List Message)). record { asks_got = a; asks_sent = b; answers_got = got_on j.answer; answers_sent = sent_on i.answer }) d.got b.sent
      ∙ ap₂ (λ (a b : Option (List Message)). record { asks_got = fresh_end last; asks_sent = fresh_end first; answers_got = a; answers_sent = b }) b.got d.sent in
      record {
        setup = refl;
        keeps = record { links = subst (HasLinks g) (sym traffic) (fresh_links g); stage = (refl, s, traffic); counts = λ t. record { moved = 0; at_stage = refl; is = refl } };
        settled = tt;
        ask = d.ask;
        answer = d.answer;
      }

  all_stand : (first : Bool) (es : List NumberedEpoch) (j : Joint) (inner : List Joint) → AllByRecursion (CanStart (points_of p.run)) es → IsFreshToPrevious first j → AllByRecursion (IsNewJoint p.capacity) inner
      → length inner + 1 ≡ length es → AllStand p first es (new_cores p.run first es) (j ∷ (inner ++ no_joint ∷ []))
  all_stand first (e ∷ []) j [] s b n count =
      (new_stands first e true j no_joint s.0 b (record { got = refl; sent = refl; ask = tt; answer = tt }), tt)
  all_stand first (e ∷ d ∷ es) j (i ∷ inner) s b n count = (
    new_stands first e false j i s.0 b (new_to_next p.capacity i n.0),
    all_stand false (d ∷ es) i inner s.1 (new_to_previous p.capacity i n.0) n.1 (omega (arith, count)),
  )
  all_stand first es j inner s b n count = absurd (omega (arith, count))

new_count : (run : CutRun) (first : Bool) (es : List NumberedEpoch) → length (new_cores run first es) ≡ length es
new_count run first [] = refl
new_count run first (e ∷ es) = ap suc (new_count run false es)

pub laid_out_stands : (p : Plan) (cs : List CoreView) (js : List Joint) → IsLaidOut p cs js → IsLineOf p cs js
laid_out_stands p cs js h =
    let count : length h.inner + 1 ≡ length (epochs_of p.run) = h.count ∙ ap length h.cores_are ∙ new_count p.run true (epochs_of p.run) in
    record {
      cutting = h.cutting;
      located = h.located;
      holds_some = h.holds_some;
      stand = subst₂ (AllStand p true (epochs_of p.run)) (sym h.cores_are) (sym h.joints_are)
          (all_stand p true (epochs_of p.run) no_joint h.inner (all_can_start p.run h.cutting) (record { sent = refl; got = refl }) h.new count);
    }

-- ---- nothing is sent until all have begun

abbrev IsNothing : Option (List Message) → Type 0
IsNothing None = Unit {0}
IsNothing (Some sent) = sent ≡ []

abbrev IsSilent : Joint → Type 0
IsSilent j = IsNothing (sent_on j.ask) × IsNothing (sent_on j.answer)

abbrev IsFresh : StageView → Type 0
IsFresh (Fresh t) = Unit {0}
IsFresh s = ⊥

-- the cores before this place have begun, and no other
abbrev BegunTo : ℕ → List CoreView → Type 0
BegunTo place [] = Unit {0}
BegunTo zero (c ∷ cs) = IsFresh c.stage × BegunTo zero cs
BegunTo (suc place) (c ∷ cs) = HasBegun c.stage × BegunTo place cs

pub record IsBeginning (place : ℕ) (cs : List CoreView) (js : List Joint) : Type 0 where
  pub begun : BegunTo place cs
  pub silent : AllByRecursion IsSilent js

begun_fresh : (run : CutRun) (first : Bool) (es : List NumberedEpoch) → BegunTo zero (new_cores run first es)
begun_fresh run first [] = tt
begun_fresh run first (e ∷ es) = (tt, begun_fresh run false es)

silent_new : (capacity : ℕ) (inner : List Joint) → AllByRecursion (IsNewJoint capacity) inner → AllByRecursion IsSilent (inner ++ no_joint ∷ [])
silent_new capacity [] n = ((tt, tt), tt)
silent_new capacity (i ∷ inner) n = ((subst (λ (i : Joint). IsNothing (sent_on i.ask)) (sym n.0.is) refl, subst (λ (i : Joint). IsNothing (sent_on i.answer)) (sym n.0.is) refl), silent_new capacity inner n.1)

pub beginning : (p : Plan) (cs : List CoreView) (js : List Joint) → IsLaidOut p cs js → IsBeginning 0 cs js
beginning p cs js h = record {
  begun = subst (BegunTo zero) (sym h.cores_are) (begun_fresh p.run true (epochs_of p.run));
  silent = subst (AllByRecursion IsSilent) (sym h.joints_are) ((tt, tt), silent_new p.capacity h.inner h.new);
}

-- one core begins
module _ (c : CoreView) (j i : Joint) (c' : CoreView) (j' i' : Joint) (answer : Turn) (t : TurnsBetween c j i c' j' i' answer) (fresh : IsFresh c.stage) (a : IsSilent j) (b : IsSilent i) where
  begins : HasBegun c'.stage × IsSilent j' × IsSilent i'
  begins = by c.stage refl t.event fresh where
    by : (s : StageView) → c.stage ≡ s → TurnsIn s c c' j i j' i' answer → IsFresh s → HasBegun c'.stage × IsSilent j' × IsSilent i'
    by (Fresh n) e x f =
        let steps = subst (λ s. Steps c.setup s (got_on i.ask) (sent_on j.ask) c'.stage (got_on i'.ask) (sent_on j'.ask) answer) e x.on.event.steps in (
          subst HasBegun (sym steps.is) tt,
          (subst IsNothing (sym steps.sent_same) a.0, subst IsNothing (sym (ap sent_on x.previous_answer)) a.1),
          (subst IsNothing (sym (inlet_sent i'.ask i.ask x.on.same_inlet)) b.0, subst IsNothing (sym (ap sent_on x.next_answer)) b.1),
        )
    by s e x f = absurd f

begin_next : (place : ℕ) (cs : List CoreView) (js : List Joint) (cs' : List CoreView) (js' : List Joint) → BegunTo place cs → AllByRecursion IsSilent js → TurnsAt place cs js cs' js'
    → BegunTo (suc place) cs' × AllByRecursion IsSilent js'
begin_next zero (c ∷ cs) (j ∷ i ∷ js) cs' js' b s t =
    let r = begins c j i t.core t.previous t.next t.answer t.turns b.0 s.0 s.1.0 in
    (subst (BegunTo 1) (sym t.cores_are) (r.0, b.1), subst (AllByRecursion IsSilent) (sym t.joints_are) (r.1, (r.2, s.1.1)))
begin_next (suc place) (c ∷ cs) (j ∷ i ∷ js) cs' js' b s t =
    let r = begin_next place cs (i ∷ js) t.cores t.joints b.1 s.1 t.later in
    (subst (BegunTo (suc (suc place))) (sym t.cores_are) (b.0, r.0), subst (AllByRecursion IsSilent) (sym t.joints_are) (s.0, r.1))
begin_next place cs js cs' js' b s t = absurd t

pub begins_at : (place : ℕ) (cs : List CoreView) (js : List Joint) (cs' : List CoreView) (js' : List Joint) → IsBeginning place cs js → TurnsAt place cs js cs' js' → IsBeginning (suc place) cs' js'
begins_at place cs js cs' js' b t = let r = begin_next place cs js cs' js' b.begun b.silent t in record { begun = r.0; silent = r.1 }

-- once all have begun
nothing_part : (all : List Message) (sent : Option (List Message)) → IsNothing sent → HasSentPart all sent
nothing_part all None n = tt
nothing_part all (Some sent) n = inl (all, ap (λ (xs : List Message). xs ++ all) n)

begun_parts : (p : Plan) (first : Bool) (es : List NumberedEpoch) (answered : List Message) (cs : List CoreView) (js : List Joint) → AllStand p first es cs js → BegunTo (length cs) cs → AllByRecursion IsSilent js → AllSendPart first answered cs js
begun_parts p first es answered [] js s b n = tt
begun_parts p first (e ∷ es) answered (c ∷ cs) (j ∷ i ∷ js) s b n = (
  record {
    begun = b.0;
    asks = nothing_part (all_asks (summaries_of (c ∷ cs))) (sent_on j.ask) n.0.0;
    answers = nothing_part (all_answers first (summary_at c.stage) (summaries_of cs) answered) (sent_on i.answer) n.1.0.1;
  },
  begun_parts p false es _ cs (i ∷ js) s.1 b.1 n.1,
)
begun_parts p first es answered cs js s b n = absurd s

pub all_begun : (p : Plan) (cs : List CoreView) (js : List Joint) → IsLineOf p cs js → IsBeginning (length cs) cs js → AreParts cs js
all_begun p cs js h b = begun_parts p true (epochs_of p.run) (End true ∷ []) cs js h.stand b.begun b.silent
