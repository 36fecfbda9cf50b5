-- Who wrote the bytes that a watchpoint watches.
use Rattle.std.specs.Prelude.{◌≡◌, ℕ, ◌<◌, ◌≤◌, Bool, true, false, List, [], ◌∷◌, codes, Some}
use Rattle.std.specs.List.{Contains}
use Rattle.log_model.specs.Logs.{steps}
use Rattle.flow_model.specs.declared.StepSeen.{StepSeen}
use Rattle.flow_model.specs.Origins.{step_at}
use Rattle.replayer.specs.Jobs.{Job, IsJob, trace_of}
use Rattle.replayer.specs.Positions.{state_at}
use Rattle.remote_packets.specs.declared.packet.Packet.TheVariants.{Go}
use Rattle.remote_packets.specs.declared.packet.Move.TheVariants.{ReverseContinue}
use Rattle.remote_packets.specs.Packets.{packet_of}
use Rattle.run_travel.specs.declared.kind.WatchKind.{WatchKind}
use Rattle.run_travel.specs.declared.kind.WatchKind.TheVariants.{Writes, Reads, Both}
use Rattle.run_travel.specs.declared.watch.Watch.{Watch}
use Rattle.run_travel.specs.Accesses.{written_by}
use Rattle.run_travel.specs.Stops.{is_watched}
use Rattle.run_travel.specs.MoveLaws.{IsOfBoth}
use Rattle.debug_model.specs.Sessions.{SessionAt}
use Rattle.debug_model.specs.Answers.{answer, after}
use Rattle.debug_model.specs.StateLaws.{byte_at}

abbrev pub looks_for_writes : WatchKind → Bool
looks_for_writes Writes = true
looks_for_writes Reads = false
looks_for_writes Both = true

-- the bytes that a watchpoint watches are the same at two times
abbrev pub SameWatched : Job → Watch → ℕ → ℕ → Type 0
SameWatched job w t u = (place : ℕ) → is_watched w place ≡ true
    → byte_at (state_at record { job = job; time = t }) place ≡ byte_at (state_at record { job = job; time = u }) place

-- a watchpoint that looks for writes is set where the session stands, and the packet asks for a move back
pub record IsSearched (job : Job) (s : SessionAt) (w : Watch) (bytes : List ℕ) : Type 0 where
  pub job_is : IsJob job
  pub within : s.time ≤ steps job.log
  pub set : Contains s.points.watches w
  pub writes : looks_for_writes w.kind ≡ true
  pub back : packet_of bytes ≡ Go ReverseContinue

-- between the time to which a move back came, and the time from which it came, its watched bytes stay the same, but for
-- the step that was taken back
abbrev pub NothingIsWrittenBetween : Type 0
NothingIsWrittenBetween = (job : Job) (s : SessionAt) (w : Watch) (bytes : List ℕ) (t : ℕ) → IsSearched job s w bytes
    → (after job s bytes).time < t → t ≤ s.time → SameWatched job w t s.time

-- where the answer is that of the beginning, they are the same at all times before
abbrev pub NothingIsWrittenBefore : Type 0
NothingIsWrittenBefore = (job : Job) (s : SessionAt) (w : Watch) (bytes : List ℕ) (t : ℕ) → IsSearched job s w bytes
    → answer job s bytes ≡ codes "T05replaylog:begin;" ∷ [] → t ≤ s.time → SameWatched job w t s.time

-- ---- the step that was taken back

-- step k of the run writes a byte that is watched
pub record WritesWatched (job : Job) (w : Watch) (k : ℕ) : Type 0 where
  pub step : StepSeen
  pub there : step_at (trace_of job) k ≡ Some step
  pub byte : ℕ
  pub both : IsOfBoth w (written_by step step.call) byte

-- with one watchpoint alone, for writes, it wrote a watched byte, unless the answer is that of the beginning
abbrev pub TheStepWroteIt : Type 0
TheStepWroteIt = (job : Job) (s : SessionAt) (w : Watch) (bytes : List ℕ) → w.kind ≡ Writes
    → s.points ≡ record { breaks = []; watches = w ∷ [] } → packet_of bytes ≡ Go ReverseContinue
    → (answer job s bytes ≡ codes "T05replaylog:begin;" ∷ [] → ⊥) → WritesWatched job w (after job s bytes).time
