-- What is seen of a session, and what it answers by where it stands.
use Rattle.std.specs.Prelude.{ℕ, List, [], ◌∷◌}
use Rattle.replayer.specs.Jobs.{Job}
use Rattle.remote_packets.specs.declared.packet.Packet.{Packet}
use Rattle.remote_packets.specs.declared.packet.Packet.TheVariants.{Go}
use Rattle.debug_model.specs.Sessions.{SessionAt}
use Rattle.debug_model.specs.Answers.{answer_to}

-- the job whose run it debugs, and where it stands
pub record SessionOf : Type 0 where
  pub job : Job
  pub at : SessionAt

-- the packets of the answer, by where the session stands after it: those by where it stood before, but for a move,
-- which is told the stop where it came to
abbrev pub answer_after : Job → SessionAt → List ℕ → Packet → List (List ℕ)
answer_after job s bytes (Go move) = s.stop ∷ []
answer_after job s bytes asked = answer_to job s bytes asked
