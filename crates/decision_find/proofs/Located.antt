-- What a look decides by are locations.
use Rattle.std.proofs.Common.{ℕ, ◌<◌, List, [], ◌∷◌, ◌++◌, arith}
use Rattle.isa.specs.declared.CallKind.{CallKind}
use Rattle.isa.specs.declared.CallKind.TheVariants as kind
use Rattle.isa.specs.declared.Instr.{Instr}
use Rattle.isa.specs.declared.Instr.TheVariants.{Jalr, Beq, Bne, Blt, Bge, Bltu, Bgeu, Lb, Lh, Lw, Lbu, Lhu, Sb, Sh, Sw, Ecall}
use Rattle.isa.specs.Encodings.{Fits}
use Rattle.flow_model.specs.declared.Loc.{Loc}
use Rattle.flow_model.specs.declared.Rule.{Rule}
use Rattle.flow_model.specs.declared.Rule.TheVariants.{Index}
use Rattle.flow_model.specs.Flow.{lanes, all_lanes}
use Rattle.flow_model.specs.Ranges.{AreLocations}
use Rattle.flow_model.proofs.Located.{in-lanes}
use Rattle.taint_shadow.proofs.Meaning.{AreHere, lanes_here, union_here}
use Rattle.decision_find.specs.Decides.{base_of_load, used, asked, decides}

located : (ls : List Loc) → AreHere ls → AreLocations ls
located [] h = tt
located (l ∷ ls) h = (h.0, located ls h.1)

both : (ls ms : List Loc) → AreLocations ls → AreLocations ms → AreLocations (ls ++ ms)
both [] ms h k = k
both (l ∷ ls) ms h k = (h.0, both ls ms h.1 k)

in_all_lanes : (a b : ℕ) → a < 32 → b < 32 → AreLocations (all_lanes a b 0)
in_all_lanes a b h k = located (all_lanes a b 0) (union_here (lanes a) (lanes b) (lanes_here a h) (lanes_here b k))

in_base : (rule : Rule) (a : ℕ) → a < 32 → AreLocations (base_of_load rule a)
in_base Index a h = tt
in_base rule a h = in-lanes a h

arguments : AreLocations (lanes 10 ++ lanes 11 ++ lanes 12)
arguments = both (lanes 10) (lanes 11 ++ lanes 12) (in-lanes 10 (omega arith)) (both (lanes 11) (lanes 12) (in-lanes 11 (omega arith)) (in-lanes 12 (omega arith)))

in_used : (k : CallKind) → AreLocations (used k)
in_used kind.Read = arguments
in_used kind.Write = arguments
in_used kind.Exit = in-lanes 10 (omega arith)
in_used k = tt

in_call : (k : CallKind) → AreLocations (asked k)
in_call k = both (used k) (lanes 17) (in_used k) (in-lanes 17 (omega arith))

pub decides_located : (rule : Rule) (kind : CallKind) (i : Instr) → Fits i → AreLocations (decides rule kind i)
decides_located rule kind (Jalr d a imm) h = in-lanes a h.1
decides_located rule kind (Beq a b imm) h = in_all_lanes a b h.0 h.1
decides_located rule kind (Bne a b imm) h = in_all_lanes a b h.0 h.1
decides_located rule kind (Blt a b imm) h = in_all_lanes a b h.0 h.1
decides_located rule kind (Bge a b imm) h = in_all_lanes a b h.0 h.1
decides_located rule kind (Bltu a b imm) h = in_all_lanes a b h.0 h.1
decides_located rule kind (Bgeu a b imm) h = in_all_lanes a b h.0 h.1
decides_located rule kind (Lb d a imm) h = in_base rule a h.1
decides_located rule kind (Lh d a imm) h = in_base rule a h.1
decides_located rule kind (Lw d a imm) h = in_base rule a h.1
decides_located rule kind (Lbu d a imm) h = in_base rule a h.1
decides_located rule kind (Lhu d a imm) h = in_base rule a h.1
decides_located rule kind (Sb a b imm) h = in-lanes a h.0
decides_located rule kind (Sh a b imm) h = in-lanes a h.0
decides_located rule kind (Sw a b imm) h = in-lanes a h.0
decides_located rule kind Ecall h = in_call kind
decides_located rule kind i h = tt
