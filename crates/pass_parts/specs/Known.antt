-- What the passes know of their epoch.
use Rattle.std.specs.Prelude.{Bool, true, ◌&&◌, nat_lt, if◌then◌else◌, [], Option, Some, None}
use Rattle.flow_model.specs.declared.Loc.{Loc}
use Rattle.flow_model.specs.declared.Loc.TheVariants.{Reg, Mem}
use Rattle.epoch_model.specs.Summary.{Summary as EpochSummary}
use Rattle.epoch_summary.specs.declared.summary.Summary.{Summary}
use Rattle.epoch_summary.specs.Summaries.{summary_of}
use Rattle.merge_log.specs.Log.{start_term}

-- a lane that a register has, or an address
abbrev pub is_location : Loc → Bool
is_location (Reg r i) = nat_lt r 32 && nat_lt i 4
is_location (Mem p) = true

-- a lane that no register has counts as a location that the epoch doesn't touch. No node asks for one
abbrev pub located : EpochSummary → EpochSummary
located e = record e { ends = λ l. if is_location l then e.ends l else start_term l }

-- without a summary no location counts as touched
abbrev pub known : Option Summary → EpochSummary
known None = record { ends = start_term; sinks = [] }
known (Some s) = located (summary_of s)
