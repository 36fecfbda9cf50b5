-- How much is left to do in a line whose cores have begun: each event that moves makes it less.
use Rattle.std.specs.Prelude.{ℕ, ◌+◌, ◌-◌, Bool, true, false, List, [], ◌∷◌, map, length}
use Rattle.flow_model.specs.declared.Message.{Message}
use Rattle.flow_model.specs.declared.Message.TheVariants.{End}
use Rattle.stream_model.specs.Passes.{Asking as AskingState}
use Rattle.stream_model.specs.Schedules.{NodeState, Phase, Fresh as NotBegun, Asks, Answers, asks_sent_in, asks_got_in, answers_sent_in, answers_got_in}
use Rattle.stream_model.specs.ScheduleLaws.{one_if}
use Rattle.stream_model.proofs.Progress.{unresolved}
use Rattle.pass_parts.specs.Ends.{got_by, sent_by}
use Rattle.backward_pass.specs.Backward.{state}
use Rattle.forward_pass.specs.Forward.{ForeView, fore_state}
use Rattle.epoch_node.specs.Cores.{StageView, Fresh, Asking, Answering, Done, Between, CoreView}
use Rattle.epoch_node.specs.Keeping.{Traffic}
use Rattle.jet_core.specs.declared.joints.Joint.{Joint}
use Rattle.jet_core.specs.Joints.{traffic_between}
use Rattle.jet_core.specs.Streams.{summary_at, all_asks, all_answers}

-- ---- the phase of the definitions that a core is in

-- a pass backwards that is over, and sent this
abbrev pub over_asking : ForeView → Traffic → AskingState
over_asking f w = record {
  left = [];
  asked = f.asked;
  pushed = 0;
  got = got_by w.asks_got;
  sent = sent_by true true w.asks_sent;
  is_whole = true;
  is_over = true;
}

abbrev pub phase_in : StageView → Traffic → Phase
phase_in (Fresh t) w = NotBegun
phase_in (Asking v) w = Asks (state v w.asks_got w.asks_sent)
phase_in (Answering f) w = Answers (over_asking f w) (fore_state f w.answers_got w.answers_sent)
phase_in (Done f) w = Answers (over_asking f w) (fore_state f w.answers_got w.answers_sent)
phase_in Between w = NotBegun

-- ---- what is left

abbrev pub one_unless : Bool → ℕ
one_unless true = 0
one_unless false = 1

-- sinks to walk, requests to answer, rows to resolve, and phases to end, where no more than so many requests come
abbrev pub steps_left : ℕ → Phase → ℕ
steps_left most NotBegun = 0
steps_left most (Asks a) = length a.left + one_if a.is_whole + most + 4
steps_left most (Answers a f) = length f.left + one_if f.is_whole + unresolved f.rows + one_unless f.is_over

-- messages to come, where these are all: one that breaks sends one more
abbrev pub messages_left : List Message → List Message → ℕ
messages_left all now = (length all + 1) - length now

-- of a core, where these are all its messages: those that it asks and is asked, and those that it is answered and answers
abbrev pub core_left : List Message → List Message → List Message → List Message → Phase → ℕ
core_left asks requests answered answers p =
    steps_left (length requests + 1) p
    + messages_left asks (asks_sent_in p)
    + messages_left requests (asks_got_in p)
    + messages_left answered (answers_got_in p)
    + messages_left answers (answers_sent_in p)

-- of nodes in a row, where the first is answered this in all
abbrev pub row_left : Bool → List Message → List NodeState → ℕ
row_left first answered [] = 0
row_left first answered (n ∷ ns) =
    let es = map (λ m. m.summary) ns in
    let answers = all_answers first n.summary es answered in
    core_left (all_asks (n.summary ∷ es)) (all_asks es) answered answers n.phase + row_left false answers ns

-- the nodes of the definitions
abbrev pub states : List CoreView → List Joint → List NodeState
states [] js = []
states (c ∷ cs) [] = []
states (c ∷ cs) (j ∷ []) = []
states (c ∷ cs) (j ∷ i ∷ js) = record { summary = summary_at c.stage; phase = phase_in c.stage (traffic_between j i) } ∷ states cs (i ∷ js)

-- of a line. Before the first core there is an End alone
abbrev pub work_left : List CoreView → List Joint → ℕ
work_left cs js = row_left true (End true ∷ []) (states cs js)
