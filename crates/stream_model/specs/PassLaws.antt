-- Event by event, passes that are not broken send what nodes are to send for what they got.
use Rattle.std.specs.Prelude.{◌≡◌, Bool, true, false, List, [], ◌∷◌, Some}
use Rattle.flow_model.specs.declared.Loc.{Loc}
use Rattle.flow_model.specs.declared.Message.TheVariants.{End}
use Rattle.epoch_model.specs.Summary.{Summary}
use Rattle.epoch_model.specs.Join.{rows_of}
use Rattle.stream_model.specs.Streams.{is_ended, requests, heard, asks_for, answers_for, asked_of, Node, IsDone}
use Rattle.stream_model.specs.StreamLaws.{IsPrefix}
use Rattle.stream_model.specs.Passes.{Links, Asking, asking_start, asking_after, Answering, answering_start, answering_after, rows_or_none}

-- at each moment a part is sent of what is to be sent for what was got, and at the end all of it; by then an End was
-- got
pub record AsksSent (first : Bool) (e : Summary) (a : Asking) : Type 0 where
  pub part : first ≡ false → IsPrefix a.sent (asks_for e a.got)
  pub whole : a.is_over ≡ true → first ≡ false → a.sent ≡ asks_for e a.got
  pub asked : a.is_over ≡ true → a.asked ≡ asked_of first e (requests a.got)
  pub ended : a.is_over ≡ true → is_ended a.got ≡ true

abbrev pub AskingSends : Type 0
AskingSends = (first last : Bool) (e : Summary) (schedule : List Links)
    → let a = asking_after first e schedule (asking_start last e) in
    a.is_whole ≡ true → AsksSent first e a

pub record AnswersSent (e : Summary) (asked ls : List Loc) (f : Answering) : Type 0 where
  pub part : IsPrefix f.sent (answers_for e asked ls f.got)
  pub whole : f.is_over ≡ true → f.sent ≡ answers_for e asked ls f.got
  pub rows : f.is_over ≡ true → f.rows ≡ Some (rows_of e (heard asked f.got))
  pub ended : f.is_over ≡ true → is_ended f.got ≡ true

abbrev pub AnsweringSends : Type 0
AnsweringSends = (first : Bool) (e : Summary) (asked ls : List Loc) (schedule : List Links)
    → let f = answering_after e asked schedule (answering_start true first ls) in
    f.is_whole ≡ true → AnswersSent e asked ls f

-- ---- a node that went through both

abbrev pub node_of : Summary → Asking → Answering → Node
node_of e a f = record {
  summary = e;
  asks_got = a.got;
  asks_sent = a.sent;
  answers_got = f.got;
  answers_sent = f.sent;
  asked = a.asked;
  rows = rows_or_none f.rows;
}

-- a node that asked and then answered, both to the end, and is whole, is done, whatever the links did in each event
abbrev pub PassesEndDone : Type 0
PassesEndDone = (first last : Bool) (e : Summary) (schedule later : List Links)
    → let a = asking_after first e schedule (asking_start last e) in
    let f = answering_after e a.asked later (answering_start a.is_whole first (requests a.got)) in
    a.is_over ≡ true → f.is_over ≡ true → f.is_whole ≡ true
    → IsDone first last (node_of e a f)
    × (last ≡ true → a.got ≡ End true ∷ [])
    × (first ≡ true → f.got ≡ End true ∷ [])
