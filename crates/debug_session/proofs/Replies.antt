-- Answers, by where the session stands after them.
use Rattle.std.proofs.Common.{◌≡◌, ◌≢◌, ℕ, List, [], ◌∷◌, refl, sym, ap, ◌∙◌}
use Rattle.replayer.specs.Jobs.{Job}
use Rattle.remote_packets.specs.declared.packet.Packet.{Packet}
use Rattle.remote_packets.specs.declared.packet.Packet.TheVariants.{LastStop, Registers, Register, Memory, Change, Set, Clear, Go, Moves, Supported, Description, StartNoAck, Extended, Thread, Attached, Run, End, Command, Detach, Kill, Other}
use Rattle.debug_model.specs.Sessions.{SessionAt}
use Rattle.debug_model.specs.Answers.{answer_to, changed_by}
use Rattle.debug_session.specs.Sessions.{SessionOf, answer_after}

-- what is answered is the same before the change and after it
after_change : (job : Job) (s : SessionAt) (bytes : List ℕ) (asked : Packet) → asked ≢ Command
    → answer_after job (changed_by job s bytes asked) bytes asked ≡ answer_to job s bytes asked
after_change job s bytes LastStop other = refl
after_change job s bytes Registers other = refl
after_change job s bytes (Register number) other = refl
after_change job s bytes (Memory place length) other = refl
after_change job s bytes Change other = refl
after_change job s bytes (Set point) other = refl
after_change job s bytes (Clear point) other = refl
after_change job s bytes (Go move) other = refl
after_change job s bytes Moves other = refl
after_change job s bytes Supported other = refl
after_change job s bytes (Description offset length) other = refl
after_change job s bytes StartNoAck other = refl
after_change job s bytes Extended other = refl
after_change job s bytes Thread other = refl
after_change job s bytes Attached other = refl
after_change job s bytes (Run t) other = refl
after_change job s bytes End other = refl
after_change job s bytes Command other = absurd (other refl)
after_change job s bytes Detach other = refl
after_change job s bytes Kill other = refl
after_change job s bytes Other other = refl

-- so the one packet that is told after the change is the answer
pub reply_is : (before after : SessionOf) (bytes : List ℕ) (asked : Packet) (text : List ℕ) → asked ≢ Command
    → after ≡ record { job = before.job; at = changed_by before.job before.at bytes asked }
    → answer_after after.job after.at bytes asked ≡ text ∷ [] → text ∷ [] ≡ answer_to before.job before.at bytes asked
reply_is before after bytes asked text other changed told =
    sym told ∙ ap (λ (s : SessionOf). answer_after s.job s.at bytes asked) changed
    ∙ after_change before.job before.at bytes asked other
