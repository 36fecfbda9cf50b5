-- The faults that reading answers with.
use Rattle.std.specs.Prelude.{◌≡◌, ℕ, Result, Err}
use Rattle.log_model.specs.declared.LogKind.{LogKind}
use Rattle.log_model.specs.declared.FaultInLog.{FaultInLog}

-- the fault is what was read
abbrev pub IsFaultOf : {A : Type 0} → Result A (LogKind × ℕ) → FaultInLog → Type 0
IsFaultOf read fault = read ≡ Err (fault.kind, fault.offset)
