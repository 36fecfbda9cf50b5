-- What a debugger hears of a dialogue.
use Rattle.std.specs.Prelude.{◌≡◌, ℕ, ◌≤◌, ◌==◌, Bool, true, not, ◌||◌, if◌then◌else◌, List, [], ◌∷◌, ◌++◌, length, map}
use Rattle.std.specs.List.{All, list_all}
use Rattle.replayer.specs.Jobs.{Job}
use Rattle.remote_frames.specs.Frames.{Heard, Packet, Bad, Again, heard}
use Rattle.debug_model.specs.Sessions.{SessionAt}
use Rattle.debug_model.specs.Answers.{answer}
use Rattle.debug_model.specs.Dialogues.{next, next_all, begun_at, up_to_end, dialogue}

-- a byte that stands for itself: none of `#` and `$`, which frames have, and of `}` and `*`, which escapes and runs
-- have
abbrev pub stands_for_itself : ℕ → Bool
stands_for_itself byte = not (byte == 0x23 || byte == 0x24 || byte == 0x7d || byte == 0x2a)

-- a packet that is written: 16384 such bytes at most
pub record IsWritten (packet : List ℕ) : Type 0 where
  pub plain : list_all stands_for_itself packet ≡ true
  pub short : length packet ≤ 16384

-- all packets of an answer are such, whatever was heard before
abbrev pub AnswersAreWritten : Type 0
AnswersAreWritten = (job : Job) (t : ℕ) (hs : List Heard) (bytes : List ℕ)
    → All IsWritten (answer job (next_all job (begun_at job t) hs) bytes)

-- what is to be heard of what is told: the packets of an answer; that a frame was bad, so that it is wanted again; and
-- the last answer
abbrev pub replies : Job → SessionAt → Heard → List Heard
replies job s (Packet bytes) = map Packet (answer job s bytes)
replies job s Bad = if s.acknowledged then Again ∷ [] else []
replies job s Again = if s.acknowledged then heard s.last else []

abbrev pub replies_all : Job → SessionAt → List Heard → List Heard
replies_all job s [] = []
replies_all job s (h ∷ hs) = replies job s h ++ replies_all job (next job s h) hs

-- it is heard of the dialogue, in order
abbrev pub DialogueIsHeard : Type 0
DialogueIsHeard = (job : Job) (t : ℕ) (bytes : List ℕ)
    → heard (dialogue job t bytes) ≡ replies_all job (begun_at job t) (up_to_end (heard bytes))
