-- The links between neighbours, and what a core has of those beside it.
use Rattle.std.specs.Prelude.{◌≡◌, ℕ, Option, Some, None, option_map, List, get_or}
use Rattle.atomic_table.specs.Seated.{TableId}
use Rattle.flow_model.specs.declared.Message.{Message}
use Rattle.epoch_link.specs.Link.{Delivered}
use Rattle.epoch_link.specs.ListLink.{BothEnds, new_link}
use Rattle.epoch_node.specs.Keeping.{Traffic}
use Rattle.jet_core.specs.declared.joints.Joint.{Joint}

abbrev pub Link : Type 0
Link = Option (BothEnds Message)

abbrev pub no_joint : Joint
no_joint = record { ask = None; answer = None }

-- two new links
pub record IsNewJoint (capacity : ℕ) (j : Joint) : Type 0 where
  pub ask : TableId
  pub answer : TableId
  pub is : j ≡ record { ask = Some (new_link ask capacity); answer = Some (new_link answer capacity) }

-- the links at this place of a line
abbrev pub joint_at : List Joint → ℕ → Joint
joint_at js place = get_or js place no_joint

-- what was got is a part of what was sent, and the rest fits, where there is a link
abbrev pub IsSound : Link → Type 0
IsSound None = Unit {0}
IsSound (Some l) = Delivered l.sent l.got l.capacity

abbrev pub got_on : Link → Option (List Message)
got_on link = option_map (λ l. l.got) link

abbrev pub sent_on : Link → Option (List Message)
sent_on link = option_map (λ l. l.sent) link

-- what went through the links of a core
abbrev pub traffic_between : Joint → Joint → Traffic
traffic_between previous next = record {
  asks_got = got_on next.ask;
  asks_sent = sent_on previous.ask;
  answers_got = got_on previous.answer;
  answers_sent = sent_on next.answer;
}
