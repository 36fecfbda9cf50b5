-- The ends of a pass, an inlet and an outlet, where there are any, and what went through them.
use Rattle.std.specs.Prelude.{◌≡◌, Bool, true, false, Option, Some, None, List, [], ◌∷◌, ◌++◌, option_map}
use Rattle.epoch_link.specs.Link.{EndView, IsSameEnd, HasRefused}
use Rattle.flow_model.specs.declared.Message.{Message}
use Rattle.flow_model.specs.declared.Message.TheVariants.{End}

-- one message more, where there is a link
abbrev pub with : Message → Option (List Message) → Option (List Message)
with m = option_map (λ ms. ms ++ m ∷ [])

module _ {E : Type 0} (end : E → EndView Message) where
  -- what went through an end, where there is one
  abbrev pub through : Option E → Option (List Message)
  through e = option_map (λ e. (end e).passed) e

  -- the same end, which an event may have used
  abbrev pub IsEndFrom : Option E → Option E → Type 0
  IsEndFrom None None = Unit {0}
  IsEndFrom (Some new) (Some old) = IsSameEnd (end old) (end new)
  IsEndFrom None (Some old) = ⊥
  IsEndFrom (Some new) None = ⊥

  -- its link refused
  abbrev pub IsRefused : Option E → Option E → Type 0
  IsRefused None None = ⊥
  IsRefused (Some old) (Some new) = HasRefused (end old) (end new)
  IsRefused None (Some new) = ⊥
  IsRefused (Some old) None = ⊥

module _ {V I O : Type 0} (inlet_end : I → EndView Message) (outlet_end : O → EndView Message) where
  -- a fact of a pass, and of what went through its ends
  abbrev pub Seen : (V → Option (List Message) → Option (List Message) → Type 0) → V → Option I → Option O → Type 0
  Seen P v inlet outlet = P v (through inlet_end inlet) (through outlet_end outlet)

-- ---- in the words of the streams

-- what was got: where there is no link, the End counts as seen
abbrev pub got_by : Option (List Message) → List Message
got_by None = End true ∷ []
got_by (Some got) = got

-- where there is no link to send through, an End alone is sent
abbrev pub unsent : Bool → Bool → List Message
unsent true whole = End whole ∷ []
unsent false whole = []

-- what was sent, by a pass that is over or not, and whole or not
abbrev pub sent_by : Bool → Bool → Option (List Message) → List Message
sent_by over whole None = unsent over whole
sent_by over whole (Some sent) = sent

-- nothing went through the end yet. Where there is no neighbour there is no link
abbrev pub fresh_end : Bool → Option (List Message)
fresh_end true = None
fresh_end false = Some []

-- the last of the messages is a whole End
abbrev pub EndsWhole : List Message → Type 0
EndsWhole ms = (front : List Message) × (ms ≡ front ++ End true ∷ [])
