-- Worked examples of the steps that rows need, computed by the checker.
use Rattle.std.proofs.Common.{◌≡◌, ℕ, List, [], ◌∷◌, map, refl}
use Rattle.std.specs.Prelude.{Option, Some, None}
use Rattle.isa.specs.declared.Instr.TheVariants.{Ecall}
use Rattle.isa.specs.declared.CallKind.TheVariants.{Read, Write}
use Rattle.flow_model.specs.declared.Rule.TheVariants.{Copy}
use Rattle.flow_model.specs.declared.InnerSink.{InnerSink}
use Rattle.flow_model.specs.declared.Loc.TheVariants.{Reg}
use Rattle.flow_model.specs.declared.StepSeen.{StepSeen}
use Rattle.flow_model.specs.declared.CallSeen.{CallSeen}
use Rattle.report_model.specs.Grammar.{everything}
use Rattle.report_model.specs.Query.{Query, Choice}
use Rattle.report_model.specs.Needed.{needed_steps}

abbrev step : ℕ → Option CallSeen → StepSeen
step t call = record { number = t; instr = Ecall; place = 0; call = call }

abbrev write : ℕ → ℕ → CallSeen
write channel offset = record { kind = Write; channel = channel; place = 0; offset = offset; length = 2 }

-- two bytes are written on channel 1, then two on channel 2, then two are read on channel 1, and two steps follow
abbrev five_steps : List StepSeen
five_steps =
    step 0 (Some (write 1 0)) ∷ step 1 (Some (write 2 0)) ∷
    step 2 (Some (record { kind = Read; channel = 1; place = 0; offset = 0; length = 2 })) ∷ step 3 None ∷ step 4 None ∷ []

abbrev query_of : List Choice → List InnerSink → Query
query_of sinks points = record { rule = Copy; sources = []; sinks = sinks; points = points }

abbrev point : ℕ → InnerSink
point t = record { time = t; loc = Reg 5 0 }

abbrev on_channel : ℕ → Choice
on_channel c = record { channel = Some c; offsets = None }

abbrev some_on_2 : ℕ → ℕ → Choice
some_on_2 from past = record { channel = Some 2; offsets = Some (record { from = from; past = past }) }

-- all bytes, one channel, a byte of it, no such byte, and nothing
of_bytes : map (λ sinks. needed_steps (query_of sinks []) five_steps) ((everything ∷ []) ∷ (on_channel 1 ∷ []) ∷ (some_on_2 1 2 ∷ []) ∷ (some_on_2 2 9 ∷ []) ∷ [] ∷ []) ≡ 2 ∷ 1 ∷ 2 ∷ 0 ∷ 0 ∷ []
of_bytes = refl

-- the last point inside the run counts, and one after its end doesn't
of_points : (needed_steps (query_of (everything ∷ []) (point 1 ∷ point 4 ∷ point 6 ∷ [])) five_steps ≡ 4) × (needed_steps (query_of [] (point 5 ∷ [])) five_steps ≡ 5)
of_points = (refl, refl)
