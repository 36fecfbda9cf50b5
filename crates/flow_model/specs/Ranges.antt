-- The ranges that locations, and the steps of a run, keep to.
use Rattle.std.specs.Prelude.{◌+◌, ◌^◌, ◌<◌, ◌≤◌, List, [], ◌∷◌, Option, Some, None}
use Rattle.isa.specs.Encodings.{Fits}
use Rattle.flow_model.specs.declared.Loc.{Loc}
use Rattle.flow_model.specs.declared.Loc.TheVariants.{Reg, Mem}
use Rattle.flow_model.specs.declared.StepSeen.{StepSeen}
use Rattle.flow_model.specs.declared.CallSeen.{CallSeen}
use Rattle.flow_model.specs.Flow.{Target}

-- a lane of a register, or an address
abbrev pub IsLocation : Loc → Type 0
IsLocation (Reg r i) = (r < 32) × (i < 4)
IsLocation (Mem p) = p < 2 ^ 32

abbrev pub AreLocations : List Loc → Type 0
AreLocations [] = Unit {0}
AreLocations (l ∷ ls) = IsLocation l × AreLocations ls

-- a table whose targets and origins are locations
abbrev pub IsTable : List Target → Type 0
IsTable [] = Unit {0}
IsTable (t ∷ ts) = IsLocation t.loc × AreLocations t.origins × IsTable ts

-- a read or a write that moves bytes: its channel, the offsets of its bytes, and their addresses
pub record IsTransferInRange (call : CallSeen) : Type 0 where
  pub channel : call.channel < 16
  pub offsets : call.offset + call.length ≤ 2 ^ 27
  pub places : call.place + call.length ≤ 2 ^ 32

abbrev pub IsCallInRange : Option CallSeen → Type 0
IsCallInRange None = Unit {0}
IsCallInRange (Some call) = 0 < call.length → IsTransferInRange call

-- the instruction has a word, so its registers are below 32
pub record IsInRange (s : StepSeen) : Type 0 where
  pub fits : Fits s.instr
  pub call : IsCallInRange s.call
