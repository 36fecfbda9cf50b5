-- What one epoch knows by itself.
use Rattle.std.specs.Prelude.{◌≡◌, ℕ, ◌-◌, List, map}
use Rattle.std.specs.List.{AllZip}
use Rattle.flow_model.specs.declared.Loc.{Loc}
use Rattle.flow_model.specs.declared.SourceByte.{SourceByte}
use Rattle.flow_model.specs.declared.SinkPoint.{SinkPoint}
use Rattle.flow_model.specs.declared.StepSeen.{StepSeen}
use Rattle.flow_model.specs.Origins.{Policy}
use Rattle.flow_model.specs.Ranges.{IsLocation}
use Rattle.report_model.specs.Query.{Query, policy_of}
use Rattle.report_model.specs.Rows.{Sink}
use Rattle.epoch_model.specs.Cutting.{epochs}
use Rattle.epoch_model.specs.Stretch.{past, born, sinks_of_epoch}

-- what a content comes from: source bytes that the epoch read, and locations at the epoch's start
pub record Terms : Type 0 where
  pub sources : List SourceByte
  pub starts : List Loc

-- a sink with the terms of its content
pub record SinkTerms : Type 0 where
  pub name : SinkPoint
  pub terms : Terms

-- of an epoch: the terms of each location at its end, and its sinks with their terms
pub record Summary : Type 0 where
  pub ends : Loc → Terms
  pub sinks : List SinkTerms

-- the terms of l after the n steps from time s on
abbrev pub terms : Policy → List StepSeen → ℕ → ℕ → Loc → Terms
terms policy trace s n l = record { sources = born policy trace s n l; starts = past policy.rule trace s n l }

-- a sink with the terms of its location at its time, in an epoch from time s on
abbrev pub sink_terms : Policy → List StepSeen → ℕ → Sink → SinkTerms
sink_terms policy trace s k = record { name = k.name; terms = terms policy trace s (k.time - s) k.loc }

-- e is the summary of the n steps from time s on
pub record IsSummary (q : Query) (trace : List StepSeen) (s n : ℕ) (e : Summary) : Type 0 where
  pub ends : (l : Loc) → IsLocation l → e.ends l ≡ terms (policy_of q) trace s n l
  pub sinks : e.sinks ≡ map (sink_terms (policy_of q) trace s) (sinks_of_epoch q trace s n)

-- es are, one by one, the summaries of the epochs that begin at time s and end at the cuts
abbrev pub AreSummaries : Query → List StepSeen → ℕ → List ℕ → List Summary → Type 0
AreSummaries q trace s cuts es =
    AllZip (λ epoch e. IsSummary q trace epoch.first (epoch.past_last - epoch.first) e) (epochs s cuts) es
