-- What contracts see of a node, and what its turns do.
use Rattle.std.specs.Prelude.{◌≡◌, false, Option, Some, None, IfSome, List, [], ◌∷◌, ◌++◌, refl}
use mathlib.Core.Path.{◌∙◌, subst}
use Rattle.flow_model.specs.declared.Message.{Message}
use Rattle.epoch_link.specs.Link.{EndView, Rose}
use Rattle.epoch_link.specs.Ends.{Producing, Consuming, producer_end, consumer_end}
use Rattle.epoch_model.specs.Summary.{Summary as EpochSummary}
use Rattle.stream_model.specs.Streams.{requests, asks_for, answers_for}
use Rattle.stream_model.specs.StreamLaws.{IsPrefix}
use Rattle.stream_model.specs.Schedules.{Need}
use Rattle.stream_model.proofs.Growing.{prefix_same, prefix_trans}
use Rattle.run_board.specs.declared.task.Turn.{Turn}
use Rattle.pass_parts.specs.Ends.{through, IsRefused, got_by}
use Rattle.pass_parts.specs.Turns.{Waits}
use Rattle.epoch_node.specs.declared.stage.Phase.{Phase}
use Rattle.epoch_node.specs.declared.stage.Phase.TheVariants.{Fresh, Asking, Answering, Done}
use Rattle.epoch_node.specs.declared.ends.Ends.{Ends}
use Rattle.epoch_node.specs.Cores.{CoreSetup, CoreView, new_core, phase_of, whole_at, asked_at}
use Rattle.epoch_node.specs.Keeping.{Traffic, IsOfEpoch}
use Rattle.epoch_node.specs.Events.{got_at, sent_at, traffic_after, PhaseTraffic, traffic_at, need_at, IsEvent}

-- its core, and its ends of the links
pub record NodeView : Type 0 where
  pub core : CoreView
  pub ends : Ends

-- what went through the ends
abbrev pub traffic_of : Ends → Traffic
traffic_of e = record {
  asks_got = through consumer_end e.ask_in;
  asks_sent = through producer_end e.ask_out;
  answers_got = through consumer_end e.answer_in;
  answers_sent = through producer_end e.answer_out;
}

abbrev pub new_node : CoreSetup → Ends → NodeView
new_node i e = record { core = new_core i; ends = e }

-- what its next event needs
abbrev pub need_of : NodeView → Need
need_of n = need_at n.core.stage (got_at n.core.stage (traffic_of n.ends)) (sent_at n.core.stage (traffic_of n.ends))

-- its epoch was analysed
abbrev pub HasBegun : NodeView → Type 0
HasBegun n = ¬ (phase_of n.core.stage ≡ Fresh)

-- a growth was refused, or an End came that is not whole
abbrev pub IsBroken : NodeView → Type 0
IsBroken n = whole_at n.core.stage ≡ false

-- ---- events

-- how far a node has come: its core, and what went through its links
pub record Progress : Type 0 where
  pub core : CoreView
  pub traffic : Traffic

abbrev pub progress_of : NodeView → Progress
progress_of n = record { core = n.core; traffic = traffic_of n.ends }

-- the core had an event on the two links of its phase, and nothing went through the others
pub record HasEvent (old new : Progress) : Type 0 where
  pub on : PhaseTraffic
  pub answer : Turn
  pub event : IsEvent old.core (traffic_at old.core.stage old.traffic) new.core on answer
  pub traffic : new.traffic ≡ traffic_after old.core.stage on.got on.sent old.traffic

-- the core had one event after another, and came to each of these in turn
abbrev pub HasEvents : Progress → List Progress → Progress → Type 0
HasEvents old [] new = new ≡ old
HasEvents old (next ∷ later) new = HasEvent old next × HasEvents next later new

-- events led from the old to the new, and nothing else did
abbrev pub CameByEvents : Progress → Progress → Type 0
CameByEvents new old = (between : List Progress) × HasEvents old between new

-- one event moved, or more
abbrev pub HasMoved : NodeView → NodeView → Type 0
HasMoved new old = Rose old.core.events new.core.events

events_trans : (a b c : Progress) (ps qs : List Progress) → HasEvents a ps b → HasEvents b qs c → HasEvents a (ps ++ qs) c
events_trans a b c [] qs f g = subst (λ p. HasEvents p qs c) f g
events_trans a b c (p ∷ ps) qs f g = (f.0, events_trans p b c ps qs f.1 g)

-- ---- the same node, later

module _ {E : Type 0} (end : E → EndView Message) where
  -- the end of the same link, through which more went
  abbrev pub IsEndLater : Option E → Option E → Type 0
  IsEndLater None None = Unit {0}
  IsEndLater (Some new) (Some old) = ((end new).link ≡ (end old).link) × IsPrefix (end old).passed (end new).passed
  IsEndLater None (Some old) = ⊥
  IsEndLater (Some new) None = ⊥

  pub later_refl : (e : Option E) → IsEndLater e e
  later_refl None = tt
  later_refl (Some e) = (refl, prefix_same (end e).passed (end e).passed refl)

  pub later_trans : (a b c : Option E) → IsEndLater b a → IsEndLater c b → IsEndLater c a
  later_trans None None None f g = tt
  later_trans None None (Some c) f g = g
  later_trans None (Some b) c f g = absurd f
  later_trans (Some a) None c f g = absurd f
  later_trans (Some a) (Some b) None f g = g
  later_trans (Some a) (Some b) (Some c) f g = (g.0 ∙ f.0, prefix_trans (end a).passed (end b).passed (end c).passed f.1 g.1)

abbrev pub IsInletLater : Option (Consuming Message) → Option (Consuming Message) → Type 0
IsInletLater new old = IsEndLater consumer_end new old

abbrev pub IsOutletLater : Option (Producing Message) → Option (Producing Message) → Type 0
IsOutletLater new old = IsEndLater producer_end new old

pub record AreEndsLater (new old : Ends) : Type 0 where
  pub ask_in : IsInletLater new.ask_in old.ask_in
  pub ask_out : IsOutletLater new.ask_out old.ask_out
  pub answer_in : IsInletLater new.answer_in old.answer_in
  pub answer_out : IsOutletLater new.answer_out old.answer_out

-- turns lead from the old node to the new: what it was given is the same, and so are its links; what was sent and got
-- then is a part of what was sent and got now; and it came there by events of its core alone
pub record IsLedFrom (new old : NodeView) : Type 0 where
  pub setup : new.core.setup ≡ old.core.setup
  pub ends : AreEndsLater new.ends old.ends
  pub came : CameByEvents (progress_of new) (progress_of old)

pub led_refl : (n : NodeView) → IsLedFrom n n
led_refl n = record {
  setup = refl;
  ends = record {
    ask_in = later_refl consumer_end n.ends.ask_in;
    ask_out = later_refl producer_end n.ends.ask_out;
    answer_in = later_refl consumer_end n.ends.answer_in;
    answer_out = later_refl producer_end n.ends.answer_out;
  };
  came = ([], refl);
}

pub led_trans : (a b c : NodeView) → IsLedFrom b a → IsLedFrom c b → IsLedFrom c a
led_trans a b c f g = record {
  setup = g.setup ∙ f.setup;
  ends = record {
    ask_in = later_trans consumer_end a.ends.ask_in b.ends.ask_in c.ends.ask_in f.ends.ask_in g.ends.ask_in;
    ask_out = later_trans producer_end a.ends.ask_out b.ends.ask_out c.ends.ask_out f.ends.ask_out g.ends.ask_out;
    answer_in = later_trans consumer_end a.ends.answer_in b.ends.answer_in c.ends.answer_in f.ends.answer_in g.ends.answer_in;
    answer_out = later_trans producer_end a.ends.answer_out b.ends.answer_out c.ends.answer_out f.ends.answer_out g.ends.answer_out;
  };
  came = (f.came.0 ++ g.came.0, events_trans (progress_of a) (progress_of b) (progress_of c) f.came.0 g.came.0 f.came.1 g.came.1);
}

-- what is led from a broken node is broken
abbrev pub BrokenStays : Type 0
BrokenStays = (new old : NodeView) → IsLedFrom new old → IsBroken old → IsBroken new

-- its last End is sent
abbrev pub IsDone : NodeView → Type 0
IsDone n = phase_of n.core.stage ≡ Done

-- what is led from a node that is done is done
abbrev pub DoneStays : Type 0
DoneStays = (new old : NodeView) → IsLedFrom new old → IsDone old → IsDone new

-- ---- a turn in which no event moved

-- the one link that the event needs refused
abbrev pub WaitsIn : Phase → Need → Ends → Ends → Type 0
WaitsIn Fresh n old new = ⊥
WaitsIn Asking n old new = Waits n (IsRefused consumer_end old.ask_in new.ask_in) (IsRefused producer_end old.ask_out new.ask_out)
WaitsIn Answering n old new = Waits n (IsRefused consumer_end old.answer_in new.answer_in) (IsRefused producer_end old.answer_out new.answer_out)
WaitsIn Done n old new = ⊥

-- nothing happened
abbrev pub IsStill : NodeView → NodeView → Type 0
IsStill new old = progress_of new ≡ progress_of old

-- and the one link that the next event needs refused
pub record HasWaited (new old : NodeView) : Type 0 where
  pub still : IsStill new old
  pub waits : WaitsIn (phase_of old.core.stage) (need_of old) old.ends new.ends

-- ---- what a node has sent

-- on each outlet it has sent a part of what is to be sent for what it got
pub record SendsDue (n : NodeView) : Type 0 where
  pub summary : EpochSummary
  pub of_epoch : IsOfEpoch n.core.setup summary
  pub asks : IfSome n.ends.ask_out (λ p. IsPrefix p.sent (asks_for summary (got_by (traffic_of n.ends).asks_got)))
  pub answers : IfSome n.ends.answer_out (λ p. IsPrefix p.sent (answers_for summary (asked_at n.core.stage) (requests (got_by (traffic_of n.ends).asks_got)) (got_by (traffic_of n.ends).answers_got)))
