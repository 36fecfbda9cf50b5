-- The origins in the flow table ascend.
use Rattle.std.proofs.Common.{◌≡◌, ℕ, ◌-◌, List, [], ◌∷◌, Bool, true, false, cond, ap}
use Rattle.std.specs.Prelude.{nat_lt, ◌==◌, if◌then◌else◌}
use Rattle.std.specs.List.{AllByRecursion}
use Rattle.std.specs.Ordering.{nat_cmp, ordering_then}
use Rattle.std.specs.Cmp.{tied_itself}
use Rattle.std.specs.declared.cmp.Ordering.{Ordering}
use Rattle.std.specs.declared.cmp.Ordering.TheVariants.{Less}
use Rattle.std.proofs.lemmas.Cmp.{nat_cmp_total}
use Rattle.std.proofs.lemmas.List.Elements.{All-from_recursion}
use Rattle.isa.specs.declared.Instr.{Instr}
use Rattle.isa.specs.declared.Instr.TheVariants.{Lw}
use Rattle.isa.specs.declared.CallKind.{CallKind}
use Rattle.isa.specs.declared.CallKind.TheVariants as kind
use Rattle.flow_model.specs.declared.Loc.{Loc}
use Rattle.flow_model.specs.declared.Loc.TheVariants.{Reg}
use Rattle.flow_model.specs.declared.Rule.{Rule}
use Rattle.flow_model.specs.declared.Rule.TheVariants.{Copy, Keep, Index}
use Rattle.lists.specs.Sets.{Ascends, union}
use Rattle.flow_model.specs.Orders.{loc_cmp}
use Rattle.flow_model.specs.Flow.{Target, lanes, computed, kept_or_computed, with_base, byte_of, signed_load, flow, cleared}
use Rattle.flow_model.specs.OriginLaws.{FlowAscends, ClearedAscends}
use Rattle.lists.proofs.Algebra.{Ascends-union}
use Rattle.flow_model.proofs.Orders.{loc_total}

abbrev TableAscends : List Target → Type 0
TableAscends = AllByRecursion (λ (t : Target). Ascends loc_cmp t.origins)

chosen : (b : Bool) (xs ys : List Loc) → Ascends loc_cmp xs → Ascends loc_cmp ys → Ascends loc_cmp (cond b xs ys)
chosen true xs ys h g = h
chosen false xs ys h g = g

chosen_each : (b : Bool) (f g : ℕ → List Loc) (i : ℕ) → Ascends loc_cmp (f i) → Ascends loc_cmp (g i) → Ascends loc_cmp (cond b f g i)
chosen_each true f g i h k = h
chosen_each false f g i h k = k

chosen_table : (b : Bool) (ts us : List Target) → TableAscends ts → TableAscends us → TableAscends (cond b ts us)
chosen_table true ts us h k = h
chosen_table false ts us h k = k

lanes_ascend : (r : ℕ) → Ascends loc_cmp (lanes r)
lanes_ascend r = chosen (r == 0) [] (Reg r 0 ∷ Reg r 1 ∷ Reg r 2 ∷ Reg r 3 ∷ []) tt ((e, (e, (e, tt))), ((e, (e, tt)), ((e, tt), (tt, tt)))) where
  e : ordering_then (nat_cmp r r) Less ≡ Less
  e = ap (λ (o : Ordering). ordering_then o Less) (tied_itself nat_cmp_total r)

union_ascends : (xs ys : List Loc) → Ascends loc_cmp ys → Ascends loc_cmp (union loc_cmp xs ys)
union_ascends = Ascends-union loc_total

computed_ascends : (rule : Rule) (f : ℕ → List Loc) (i : ℕ) → Ascends loc_cmp (f i) → Ascends loc_cmp (computed rule f i)
computed_ascends Copy f i h = tt
computed_ascends Keep f i h = tt
computed_ascends rule f i h = h

kept_ascends : (rule : Rule) (kept f : ℕ → List Loc) (i : ℕ) → Ascends loc_cmp (kept i) → Ascends loc_cmp (f i) → Ascends loc_cmp (kept_or_computed rule kept f i)
kept_ascends Copy kept f i g h = tt
kept_ascends Keep kept f i g h = g
kept_ascends rule kept f i g h = h

with_base_ascends : (rule : Rule) (a : ℕ) (origins : List Loc) → Ascends loc_cmp origins → Ascends loc_cmp (with_base rule a origins)
with_base_ascends Index a origins h = union_ascends (lanes a) origins h
with_base_ascends rule a origins h = h

byte_ascends : (rule : Rule) (a address i : ℕ) → Ascends loc_cmp (with_base rule a (byte_of address i))
byte_ascends rule a address i = with_base_ascends rule a (byte_of address i) (tt, tt)

signed_load_ascends : (rule : Rule) (a address n i : ℕ) → Ascends loc_cmp (signed_load rule a address n i)
signed_load_ascends Copy a address n i = chosen (nat_lt i n) (byte_of address i) [] (tt, tt) tt
signed_load_ascends Keep a address n i = chosen (nat_lt i n) (byte_of address i) [] (tt, tt) tt
signed_load_ascends rule a address n i = byte_ascends rule a address (if nat_lt i n then i else n - 1)

-- origins that ascend, by the form that they have
ruleset ascending = (lanes_ascend, chosen_table, computed_ascends, kept_ascends, byte_ascends, with_base_ascends, signed_load_ascends, union_ascends, chosen, chosen_each)

table_ascends : (rule : Rule) (instr : Instr) (place : ℕ) → TableAscends (flow rule instr place)
table_ascends rule (Lw d a imm) place = search ascending depth 16 parts 12
table_ascends rule instr place = search ascending depth 16 parts 12

pub flow_ascends : FlowAscends
flow_ascends rule instr place = All-from_recursion _ (flow rule instr place) (table_ascends rule instr place)

call_ascends : (k : CallKind) → TableAscends (cleared k)
call_ascends kind.Read = search parts 9
call_ascends k = search parts 9

pub cleared_ascends : ClearedAscends
cleared_ascends k = All-from_recursion _ (cleared k) (call_ascends k)
