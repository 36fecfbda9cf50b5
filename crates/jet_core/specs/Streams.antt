-- All that the cores of a line send, if none breaks; what each has sent is a part of it.
use Rattle.std.specs.Prelude.{◌≡◌, ◌⊎◌, Bool, true, false, Option, Some, None, List, [], ◌∷◌, ◌++◌, map}
use Rattle.flow_model.specs.declared.Message.{Message}
use Rattle.flow_model.specs.declared.Message.TheVariants.{End}
use Rattle.epoch_model.specs.Summary.{Summary}
use Rattle.stream_model.specs.Streams.{is_ended, requests, asks_for, answers_for, asked_of}
use Rattle.stream_model.specs.StreamLaws.{IsPrefix}
use Rattle.pass_parts.specs.Known.{known}
use Rattle.backward_pass.specs.Backward.{knows}
use Rattle.forward_pass.specs.Forward.{known_by}
use Rattle.epoch_node.specs.Cores.{StageView, Fresh, Asking, Answering, Done, Between, CoreView}
use Rattle.jet_core.specs.declared.joints.Joint.{Joint}
use Rattle.jet_core.specs.Joints.{sent_on}

-- what a core knows of its epoch, once it has begun
abbrev pub summary_at : StageView → Summary
summary_at (Fresh t) = known None
summary_at (Asking v) = knows v
summary_at (Answering f) = known_by f
summary_at (Done f) = known_by f
summary_at Between = known None

abbrev pub summaries_of : List CoreView → List Summary
summaries_of cs = map (λ c. summary_at c.stage) cs

-- all that the first of these asks, from the last to the first. After the last there is an End alone
abbrev pub all_asks : List Summary → List Message
all_asks [] = End true ∷ []
all_asks (e ∷ es) = asks_for e (all_asks es)

-- all that a core answers those after it, where this is all that it is answered
abbrev pub all_answers : Bool → Summary → List Summary → List Message → List Message
all_answers first e es answered =
    let asked = requests (all_asks es) in
    answers_for e (asked_of first e asked) asked answered

-- of a core that broke: it sent a part, and an End that is not whole
pub record IsBrokenOff (all sent : List Message) : Type 0 where
  pub front : List Message
  pub part : IsPrefix front all
  pub unended : is_ended front ≡ false
  pub is : sent ≡ front ++ End false ∷ []

abbrev pub IsPart : List Message → List Message → Type 0
IsPart all sent = IsPrefix sent all ⊎ IsBrokenOff all sent

-- where there is a link to send through
abbrev pub HasSentPart : List Message → Option (List Message) → Type 0
HasSentPart all None = Unit {0}
HasSentPart all (Some sent) = IsPart all sent

abbrev pub HasBegun : StageView → Type 0
HasBegun (Fresh t) = ⊥
HasBegun (Asking v) = Unit {0}
HasBegun (Answering f) = Unit {0}
HasBegun (Done f) = Unit {0}
HasBegun Between = ⊥

-- what one core has sent
pub record SendsPart (first : Bool) (answered : List Message) (c : CoreView) (cs : List CoreView) (previous next : Joint) : Type 0 where
  pub begun : HasBegun c.stage
  pub asks : HasSentPart (all_asks (summaries_of (c ∷ cs))) (sent_on previous.ask)
  pub answers : HasSentPart (all_answers first (summary_at c.stage) (summaries_of cs) answered) (sent_on next.answer)

-- what each of these has sent, where the first is answered this in all
abbrev pub AllSendPart : Bool → List Message → List CoreView → List Joint → Type 0
AllSendPart first answered [] js = Unit {0}
AllSendPart first answered (c ∷ cs) [] = ⊥
AllSendPart first answered (c ∷ cs) (j ∷ []) = ⊥
AllSendPart first answered (c ∷ cs) (j ∷ i ∷ js) =
    SendsPart first answered c cs j i × AllSendPart false (all_answers first (summary_at c.stage) (summaries_of cs) answered) cs (i ∷ js)

-- all have begun, and each has sent a part of what it is to send. Before the first core there is an End alone
abbrev pub AreParts : List CoreView → List Joint → Type 0
AreParts cs js = AllSendPart true (End true ∷ []) cs js
