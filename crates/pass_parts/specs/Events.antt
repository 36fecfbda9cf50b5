-- An event of a pass, said once for both passes. V is what contracts see of a pass, S its state in the words of the
-- definitions.
use Rattle.std.specs.Prelude.{◌≡◌, Bool, true, false, Option, IsSome, List}
use Rattle.epoch_link.specs.Link.{EndView}
use Rattle.flow_model.specs.declared.Message.{Message}
use Rattle.stream_model.specs.Passes.{Links}
use Rattle.stream_model.specs.Schedules.{Need}
use Rattle.pass_parts.specs.declared.next.PassStep.{PassStep}
use Rattle.pass_parts.specs.declared.next.PassStep.TheVariants as next
use Rattle.pass_parts.specs.declared.pass_turn.PassTurn.{PassTurn}
use Rattle.pass_parts.specs.Ends.{through, IsRefused}
use Rattle.pass_parts.specs.Turns.{OnMoved, OnNotYet, OnOpen, OnOver, Waits}

-- what the events of a pass are
pub record Events (V S : Type 0) : Type 1 where
  -- the state, where these went through the ends
  pub state : V → Option (List Message) → Option (List Message) → S
  -- the event of the definitions
  pub event : V → Links → S → S
  -- what the next one needs
  pub need : V → S → Need
  -- what the pass keeps of what went through its ends
  pub Keeps : V → Option (List Message) → Option (List Message) → Type 0
  -- what no event changes
  pub IsSame : V → V → Type 0
  -- whether the End is sent, and whether one came
  pub is_over : V → Bool
  pub is_ended : V → Bool

module _ {V S : Type 0} (p : Events V S) (old : V) (got sent : Option (List Message)) (new : V) (got' sent' : Option (List Message)) (turn : PassTurn) where
  -- the event is that of the definitions, for what the links did in it: a push that went through or was refused, and
  -- what a pop gave
  pub record Happened : Type 0 where
    pub links : Links
    pub could_move : OnMoved turn ((links.has_room ≡ true) × IsSome links.item)
    pub is : p.state new got' sent' ≡ p.event old links (p.state old got sent)

  -- an event, and what its answer says
  pub record IsEvent : Type 0 where
    pub happens : Happened
    pub keeps : p.Keeps new got' sent'
    pub same : p.IsSame new old
    pub over : OnOver turn (p.is_over new ≡ true)
    pub running : OnOpen turn (p.is_over new ≡ false)
    pub not_yet : OnNotYet turn ((new ≡ old) × (got' ≡ got) × (sent' ≡ sent))

-- the same over the ends themselves
module _ {V S I O : Type 0} (p : Events V S) (inlet_end : I → EndView Message) (outlet_end : O → EndView Message) where
  abbrev pub IsEventOver : V → Option I → Option O → V → Option I → Option O → PassTurn → Type 0
  IsEventOver old inlet outlet new inlet' outlet' turn =
      IsEvent p old (through inlet_end inlet) (through outlet_end outlet) new (through inlet_end inlet') (through outlet_end outlet') turn

  -- where it did not happen, the one link refused that it needs
  abbrev pub HasWaited : V → Option I → Option O → Option I → Option O → PassTurn → Type 0
  HasWaited old inlet outlet inlet' outlet' turn =
      OnNotYet turn (Waits (p.need old (p.state old (through inlet_end inlet) (through outlet_end outlet)))
      (IsRefused inlet_end inlet inlet') (IsRefused outlet_end outlet outlet'))

-- ---- what is next

-- nothing is left to do without a link but to take a message, or to send the End once the End came
pub record IsAtRest {V S : Type 0} (p : Events V S) (IsIdle : V → Type 0) (has_ended : Bool) (v : V) : Type 0 where
  pub running : p.is_over v ≡ false
  pub idle : IsIdle v
  pub ended : p.is_ended v ≡ has_ended

module _ {V S : Type 0} (p : Events V S) (Moves : V → V → Type 0) (Sends : Message → V → Type 0) (IsIdle : V → Type 0) where
  -- what is next, and that it is done where it needs no link
  abbrev pub IsNext : PassStep → V → V → Type 0
  IsNext next.Moved new old = Moves old new
  IsNext (next.Send m) new old = (new ≡ old) × Sends m old
  IsNext next.Receive new old = (new ≡ old) × IsAtRest p IsIdle false old
  IsNext next.End new old = (new ≡ old) × IsAtRest p IsIdle true old
  IsNext next.Over new old = (new ≡ old) × (p.is_over old ≡ true)
