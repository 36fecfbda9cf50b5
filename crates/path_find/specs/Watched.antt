-- What is known of a path that is found while its run is gone through.
use Rattle.std.specs.Prelude.{◌≡◌, ℕ, ◌+◌, ◌<◌, ◌≤◌, List, Option, Some, None, Result, Ok, Err, IfSome}
use Rattle.no_memory.specs.declared.NoMemory.{NoMemory}
use Rattle.log_model.specs.Logs.{steps}
use Rattle.flow_model.specs.declared.Rule.{Rule}
use Rattle.flow_model.specs.declared.SinkPoint.{SinkPoint}
use Rattle.flow_model.specs.declared.SourceByte.{SourceByte}
use Rattle.flow_model.specs.declared.StepSeen.{StepSeen}
use Rattle.flow_model.specs.Origins.{step_at}
use Rattle.replayer.specs.Jobs.{Job, trace_of}
use Rattle.path_find.specs.declared.Pair.{Pair}
use Rattle.path_find.specs.declared.finding.SinkPath.{SinkPath}
use Rattle.path_find.specs.declared.trail.Trail.{Trail}
use Rattle.path_find.specs.declared.watching.Standing.{Standing}
use Rattle.path_find.specs.declared.watching.Standing.TheVariants.{Before, Met, Out}
use Rattle.path_find.specs.FirstPair.{sink_of, path_to_sink}
use Rattle.path_find.specs.Trails.{IsTrail, IsAfter}
use Rattle.path_find.specs.Sinks.{IsNotMet, shown_path}

-- the labels of a trail stand
abbrev pub IsSound : Standing → Type 0
IsSound (Before trail) = IsTrail trail
IsSound (Met found) = Unit {0}
IsSound (Out no_memory) = Unit {0}

-- what is known before the first step, with this trail
abbrev pub standing_before : Result Trail NoMemory → Standing
standing_before (Ok trail) = Before trail
standing_before (Err no_memory) = Out no_memory

-- what is known where the sink is met, and the path there was looked for
abbrev pub standing_of : Result (Option SinkPath) NoMemory → Standing
standing_of (Ok found) = Met found
standing_of (Err no_memory) = Out no_memory

-- what is known after a step with a trail: what came of it, if anything did, or the trail
abbrev pub standing_or : Trail → Option Standing → Standing
standing_or trail None = Before trail
standing_or trail (Some standing) = standing

-- a watcher of the path of a pair
pub record WatchingAt : Type 0 where
  pub pair : Pair
  pub standing : Standing

-- it is the path of a pair in a trace, by a rule, if there is one
abbrev pub IsPathIn : Rule → Pair → List StepSeen → Option SinkPath → Type 0
IsPathIn rule pair trace found = shown_path found ≡ path_to_sink rule pair.source trace (sink_of trace pair.sink)

-- what is known after so many steps of a trace
abbrev pub Knows : Rule → Pair → List StepSeen → ℕ → Standing → Type 0
Knows rule pair trace t (Before trail) = IsAfter rule pair.source trace t trail × IsNotMet pair.sink t trace
Knows rule pair trace t (Met found) = IsPathIn rule pair trace found × IfSome found (λ f. f.time < t)
Knows rule pair trace t (Out no_memory) = Unit {0}

-- no step was told yet
pub record HasBegun (rule : Rule) (pair : Pair) (w : WatchingAt) : Type 0 where
  pub pair_is : w.pair ≡ pair
  pub knows : (trace : List StepSeen) → Knows rule pair trace 0 w.standing

-- so many steps of a trace were told
pub record IsSeenTo (rule : Rule) (pair : Pair) (trace : List StepSeen) (t : ℕ) (w : WatchingAt) : Type 0 where
  pub pair_is : w.pair ≡ pair
  pub knows : Knows rule pair trace t w.standing

-- if it had begun, it has seen so many steps of the job now
abbrev pub has_seen : WatchingAt → WatchingAt → Job → ℕ → Type 0
has_seen was now job t = (rule : Rule) (pair : Pair) → HasBegun rule pair was → IsSeenTo rule pair (trace_of job) t now

-- what is known of a pair with this sink after one step more, where the trail was before it, of each trace that has the step
abbrev pub SeesStep : StepSeen → SinkPoint → Trail → Standing → Type 0
SeesStep step sink old new =
    (rule : Rule) (s : SourceByte) (trace : List StepSeen) → step_at trace step.number ≡ Some step
    → Knows rule (record { sink = sink; source = s }) trace step.number (Before old) → Knows rule (record { sink = sink; source = s }) trace (step.number + 1) new

-- one step more was told, of each trace that has it
abbrev pub FollowsStep : StepSeen → WatchingAt → WatchingAt → Type 0
FollowsStep step old new =
    (rule : Rule) (pair : Pair) (trace : List StepSeen) → step_at trace step.number ≡ Some step
    → IsSeenTo rule pair trace step.number old → IsSeenTo rule pair trace (step.number + 1) new

-- the path of a pair in a job's run, which ends within the run
pub record IsFound (rule : Rule) (pair : Pair) (job : Job) (found : Option SinkPath) : Type 0 where
  pub path : IsPathIn rule pair (trace_of job) found
  pub inside : IfSome found (λ f. f.time ≤ steps job.log)
