-- The flow of a load and of a store, by what they do.
use Rattle.std.proofs.Common.{◌≡◌, ◌<◌, ◌≤◌, ℕ, arith, subst, ◌&&◌, inl, inr}
use Rattle.std.specs.Prelude.{Some, List}
use Rattle.std.proofs.lemmas.Option.{none-some, same_Some}
use Rattle.isa.specs.declared.Instr.{Instr}
use Rattle.isa.specs.declared.Instr.TheVariants.{Lb, Lh, Lw, Lbu, Lhu, Sb, Sh, Sw}
use Rattle.flow_model.specs.declared.Rule.{Rule}
use Rattle.flow_model.specs.declared.Rule.TheVariants.{Copy, Keep, Compute, Index}
use Rattle.flow_model.specs.Flow.{Target, flow}
use Rattle.flow_rule.specs.declared.shape.Shape.TheVariants as shape
use Rattle.flow_rule.specs.Shapes.{targets_of, base_of, fills_by}
use Rattle.flow_rule.proofs.Shapes.{loaded_targets, signed_targets, stored_targets}
use Rattle.rv_decode.specs.declared.accesses.Load.{Load}
use Rattle.rv_decode.specs.declared.accesses.Store.{Store}
use Rattle.rv_decode.specs.Accesses.{load_of, store_of, IsSize}

pub few_bytes : (size : ℕ) → IsSize size → (1 ≤ size) × (size ≤ 4)
few_bytes size (inl e) = (omega (arith, e), omega (arith, e))
few_bytes size (inr (inl e)) = (omega (arith, e), omega (arith, e))
few_bytes size (inr (inr e)) = (omega (arith, e), omega (arith, e))

pub base_small : (rule : Rule) (a : ℕ) → a < 32 → base_of rule a < 32
base_small Copy a h = omega arith
base_small Keep a h = omega arith
base_small Compute a h = omega arith
base_small Index a h = h

abbrev loaded_by : Rule → ℕ → Load → List Target
loaded_by rule place l = targets_of (shape.Load l.rd (base_of rule l.base) place l.size (l.is_signed && fills_by rule))

pub load_flow : (rule : Rule) (instr : Instr) (place : ℕ) (l : Load) → load_of instr ≡ Some l → loaded_by rule place l ≡ flow rule instr place
load_flow rule (Lb d a imm) place l h = subst (λ (k : Load). loaded_by rule place k ≡ flow rule (Lb d a imm) place) (same_Some _ l h) (signed_targets rule d a place 1)
load_flow rule (Lh d a imm) place l h = subst (λ (k : Load). loaded_by rule place k ≡ flow rule (Lh d a imm) place) (same_Some _ l h) (signed_targets rule d a place 2)
load_flow rule (Lw d a imm) place l h = subst (λ (k : Load). loaded_by rule place k ≡ flow rule (Lw d a imm) place) (same_Some _ l h) (loaded_targets rule d a place 4)
load_flow rule (Lbu d a imm) place l h = subst (λ (k : Load). loaded_by rule place k ≡ flow rule (Lbu d a imm) place) (same_Some _ l h) (loaded_targets rule d a place 1)
load_flow rule (Lhu d a imm) place l h = subst (λ (k : Load). loaded_by rule place k ≡ flow rule (Lhu d a imm) place) (same_Some _ l h) (loaded_targets rule d a place 2)
load_flow rule other place l h = absurd (none-some l h)

abbrev stored_by : Rule → ℕ → Store → List Target
stored_by rule place s = targets_of (shape.Store s.source (base_of rule s.base) place s.size)

pub store_flow : (rule : Rule) (instr : Instr) (place : ℕ) (s : Store) → store_of instr ≡ Some s → stored_by rule place s ≡ flow rule instr place
store_flow rule (Sb a b imm) place s h = subst (λ (k : Store). stored_by rule place k ≡ flow rule (Sb a b imm) place) (same_Some _ s h) (stored_targets rule a b place 1)
store_flow rule (Sh a b imm) place s h = subst (λ (k : Store). stored_by rule place k ≡ flow rule (Sh a b imm) place) (same_Some _ s h) (stored_targets rule a b place 2)
store_flow rule (Sw a b imm) place s h = subst (λ (k : Store). stored_by rule place k ≡ flow rule (Sw a b imm) place) (same_Some _ s h) (stored_targets rule a b place 4)
store_flow rule other place s h = absurd (none-some s h)
