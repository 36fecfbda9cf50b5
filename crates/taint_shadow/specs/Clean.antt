-- Registers without labels, and what leaves the labels of all locations as they are.
use Rattle.std.specs.Prelude.{◌≡◌, ◌<◌, ℕ}
use Rattle.std.specs.Int.{bit_at}
use Rattle.isa.specs.declared.Instr.{Instr}
use Rattle.isa.specs.Encodings.{Fits}
use Rattle.rv_decode.specs.Registers.{registers_of}
use Rattle.rv_decode.specs.Accesses.{IsNoAccess}
use Rattle.flow_model.specs.declared.Rule.{Rule}
use Rattle.flow_model.specs.Flow.{flow}
use Rattle.taint_shadow.specs.declared.places.Places.{Places}
use Rattle.taint_shadow.specs.Labels.{LabelWords, nothing_label}
use Rattle.taint_shadow.specs.Places.{origin_lane}
use Rattle.taint_shadow.specs.Steps.{Turned}

-- no register whose bit is set has a label, as an origin
pub record AreClean (p : Places) (registers : ℕ) : Type 0 where
  pub lanes : (r : ℕ) → r < 32 → bit_at registers r ≡ 1 → (i : ℕ) → i < 4 → origin_lane p r i ≡ nothing_label

-- a step of any instruction with these registers that is neither a load nor a store, by any rule and at any place, leaves labels
-- and locations as they are
abbrev pub TurnsNothing : {A M : Type 0} → LabelWords A M → A → Places → ℕ → Type 0
TurnsNothing words labels p registers =
    (rule : Rule) (instr : Instr) (place : ℕ) → Fits instr → registers_of instr ≡ registers → IsNoAccess instr → Turned words labels p labels p (flow rule instr place)
