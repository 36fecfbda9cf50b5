-- The two ends of a link when it is closed.
use Rattle.std.specs.Prelude.{◌≡◌, Option, Some, None}
use Rattle.flow_model.specs.declared.Message.{Message}
use Rattle.epoch_link.specs.Ends.{Producing, Consuming}
use Rattle.stream_model.specs.StreamLaws.{IsPrefix}

-- the two ends of one link, or no link
abbrev pub IsOneLink : Option (Producing Message) → Option (Consuming Message) → Type 0
IsOneLink None None = Unit {0}
IsOneLink (Some p) (Some c) = p.link ≡ c.link
IsOneLink None (Some c) = ⊥
IsOneLink (Some p) None = ⊥

-- what was got is a part of what was sent, where there is a link
abbrev pub HasDelivered : Option (Producing Message) → Option (Consuming Message) → Type 0
HasDelivered None None = Unit {0}
HasDelivered (Some p) (Some c) = IsPrefix c.got p.sent
HasDelivered None (Some c) = Unit {0}
HasDelivered (Some p) None = Unit {0}
