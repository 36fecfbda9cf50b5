-- What is written for what is read: the dialogue of a debugger and a recorded run.
use Rattle.std.specs.Prelude.{ℕ, min, Bool, false, if◌then◌else◌, List, [], ◌∷◌, ◌++◌, codes}
use Rattle.log_model.specs.Logs.{steps}
use Rattle.replayer.specs.Jobs.{Job}
use Rattle.remote_frames.specs.Frames.{Heard, Packet, Bad, Again, heard}
use Rattle.debug_model.specs.Sessions.{SessionAt, begun}
use Rattle.debug_model.specs.Answers.{after, ends}

-- nothing, once frames aren't acknowledged
abbrev pub acknowledging : SessionAt → List ℕ → List ℕ
acknowledging s bytes = if s.acknowledged then bytes else []

-- what is written for what is heard: `+` and the answer to a packet, `-` for a bad frame, and the last answer again
abbrev pub told : Job → SessionAt → Heard → List ℕ
told job s (Packet bytes) = acknowledging s (codes "+") ++ (after job s bytes).last
told job s Bad = acknowledging s (codes "-")
told job s Again = acknowledging s s.last

-- where the session stands then
abbrev pub next : Job → SessionAt → Heard → SessionAt
next job s (Packet bytes) = after job s bytes
next job s Bad = s
next job s Again = s

-- the same of all that is heard, in order
abbrev pub told_all : Job → SessionAt → List Heard → List ℕ
told_all job s [] = []
told_all job s (h ∷ hs) = told job s h ++ told_all job (next job s h) hs

abbrev pub next_all : Job → SessionAt → List Heard → SessionAt
next_all job s [] = s
next_all job s (h ∷ hs) = next_all job (next job s h) hs

-- whether the session is over then
abbrev pub is_end : Heard → Bool
is_end (Packet bytes) = ends bytes
is_end Bad = false
is_end Again = false

-- what is heard up to the packet that ends the session, which is heard too
abbrev pub up_to_end : List Heard → List Heard
up_to_end [] = []
up_to_end (h ∷ hs) = h ∷ (if is_end h then [] else up_to_end hs)

-- a session begins at this time of a run. Past the run's steps it is their number
abbrev pub begun_at : Job → ℕ → SessionAt
begun_at job t = begun (min t (steps job.log))

-- what is written of all bytes that are read, by a session that begins at this time
abbrev pub dialogue : Job → ℕ → List ℕ → List ℕ
dialogue job t bytes = told_all job (begun_at job t) (up_to_end (heard bytes))
