-- The targets and origins of an instruction that fits are locations, and so are those of a step. Crates above cite these
-- lemmas.
use Rattle.std.proofs.Common.{ℕ, length, get_or, ◌+◌, ◌-◌, ◌<◌, ◌==◌, nat_lt, List, [], ◌∷◌, zero, suc, ◌≡◌, subst, refl, ltb-true, arith, Bool, true, false, if◌then◌else◌, cond}
use Rattle.std.specs.List.{AllByRecursion}
use Rattle.std.specs.Prelude.{nat_le, ◌%◌, ◌/◌, ◌&&◌, Option, Some, None, map, slice_get}
use Rattle.isa.specs.Encodings.{Fits}
use Rattle.isa.specs.declared.Instr.{Instr}
use Rattle.isa.specs.declared.Instr.TheVariants.{Lw}
use Rattle.isa.specs.declared.CallKind.{CallKind}
use Rattle.isa.specs.declared.CallKind.TheVariants as kind
use Rattle.flow_model.specs.declared.Loc.{Loc}
use Rattle.flow_model.specs.declared.Loc.TheVariants.{Reg, Mem}
use Rattle.flow_model.specs.declared.Rule.{Rule}
use Rattle.flow_model.specs.declared.Rule.TheVariants.{Copy, Keep, Index}
use Rattle.lists.specs.Sets.{union}
use Rattle.lists.proofs.Algebra.{All-union}
use Rattle.flow_model.specs.Orders.{loc_cmp}
use Rattle.isa.specs.Machine.{wrap}
use Rattle.flow_model.specs.Flow.{Target, lane, lanes, computed, kept_or_computed, with_base, byte_of, signed_load, left_lanes, right_lanes, flow, cleared, origins_by, loc_eq, is_received, from_call, from_instruction_or}
use Rattle.flow_model.specs.declared.StepSeen.{StepSeen}
use Rattle.flow_model.specs.declared.CallSeen.{CallSeen}
use Rattle.flow_model.specs.Ranges.{IsLocation, AreLocations, IsTable}

either : (b : Bool) (xs ys : List Loc) → AreLocations xs → AreLocations ys → AreLocations (if b then xs else ys)
either true xs ys h k = h
either false xs ys h k = k

either_each : (b : Bool) (f g : ℕ → List Loc) (i : ℕ) → AreLocations (f i) → AreLocations (g i) → AreLocations (cond b f g i)
either_each true f g i h k = h
either_each false f g i h k = k

either_table : (b : Bool) (ts us : List Target) → IsTable ts → IsTable us → IsTable (cond b ts us)
either_table true ts us h k = h
either_table false ts us h k = k

pub located-each : (ls : List Loc) → AreLocations ls → AllByRecursion IsLocation ls
located-each [] h = tt
located-each (l ∷ ls) h = (h.0, located-each ls h.1)

each-located : (ls : List Loc) → AllByRecursion IsLocation ls → AreLocations ls
each-located [] h = tt
each-located (l ∷ ls) h = (h.0, each-located ls h.1)

pub located-get_or : (ls : List Loc) (i : ℕ) (d : Loc) → AreLocations ls → i < length ls → IsLocation (get_or ls i d)
located-get_or [] i d h k = absurd (omega arith)
located-get_or (l ∷ ls) zero d h k = h.0
located-get_or (l ∷ ls) (suc i) d h k = located-get_or ls i d h.1 (omega arith)

in-union : (ls ms : List Loc) → AreLocations ls → AreLocations ms → AreLocations (union loc_cmp ls ms)
in-union ls ms h k = each-located _ (All-union loc_cmp IsLocation ls ms (located-each ls h) (located-each ms k))

in-lane : (r i : ℕ) → r < 32 → i < 4 → AreLocations (lane r i)
in-lane r i h k = either (r == 0) [] (Reg r i ∷ []) tt ((h, k), tt)

pub in-lanes : (r : ℕ) → r < 32 → AreLocations (lanes r)
in-lanes r h = either (r == 0) [] (Reg r 0 ∷ Reg r 1 ∷ Reg r 2 ∷ Reg r 3 ∷ []) tt ((h, omega arith), ((h, omega arith), ((h, omega arith), ((h, omega arith), tt))))

in-byte : (a : ℕ) → AreLocations (Mem (wrap a) ∷ [])
in-byte a = (omega arith, tt)

in-computed : (rule : Rule) (f : ℕ → List Loc) (i : ℕ) → AreLocations (f i) → AreLocations (computed rule f i)
in-computed Copy f i h = tt
in-computed Keep f i h = tt
in-computed rule f i h = h

in-kept : (rule : Rule) (kept f : ℕ → List Loc) (i : ℕ) → AreLocations (kept i) → AreLocations (f i) → AreLocations (kept_or_computed rule kept f i)
in-kept Copy kept f i g h = tt
in-kept Keep kept f i g h = g
in-kept rule kept f i g h = h

in-left : (k a i : ℕ) → a < 32 → i < 4 → AreLocations (left_lanes k a i)
in-left k a i h l = either ((k % 8 == 0) && nat_le (k / 8) i) (lane a (i - k / 8)) [] (in-lane a (i - k / 8) h (omega arith)) tt

in-right : (k a i : ℕ) → a < 32 → AreLocations (right_lanes k a i)
in-right k a i h = by (k % 8 == 0) (nat_lt (i + k / 8) 4) refl where
  by : (b c : Bool) → nat_lt (i + k / 8) 4 ≡ c → AreLocations (if b && c then lane a (i + k / 8) else [])
  by true true e = in-lane a (i + k / 8) h (ltb-true (i + k / 8) 4 e)
  by true false e = tt
  by false c e = tt

in-base : (rule : Rule) (a : ℕ) (ls : List Loc) → a < 32 → AreLocations ls → AreLocations (with_base rule a ls)
in-base Index a ls h k = in-union (lanes a) ls (in-lanes a h) k
in-base rule a ls h k = k

in-signed : (rule : Rule) (a place n i : ℕ) → a < 32 → AreLocations (signed_load rule a place n i)
in-signed Copy a place n i h = either (nat_lt i n) (byte_of place i) [] (in-byte (place + i)) tt
in-signed Keep a place n i h = either (nat_lt i n) (byte_of place i) [] (in-byte (place + i)) tt
in-signed rule a place n i h = let j = if nat_lt i n then i else n - 1 in in-base rule a (byte_of place j) h (in-byte (place + j))

-- locations, by the form that their list has
ruleset located = (in-lanes, in-lane, in-left, in-right, either_table, in-computed, in-kept, in-byte, in-base, in-signed, in-union, either, either_each, arith)

pub flow_table : (rule : Rule) (i : Instr) (place : ℕ) → Fits i → IsTable (flow rule i place)
flow_table rule (Lw d a imm) place h = search located depth 20 parts 12
flow_table rule i place h = search located depth 20 parts 12

pub cleared_table : (k : CallKind) → IsTable (cleared k)
cleared_table kind.Read = search arith parts 20
cleared_table k = search arith parts 20

pub looked_up : (ts : List Target) (l : Loc) → IsTable ts → IsLocation l → AreLocations (origins_by ts l)
looked_up [] l a h = (h, tt)
looked_up (t ∷ ts) l a h = by (loc_eq t.loc l) (looked_up ts l a.2 h) where
  by : (b : Bool) → AreLocations (origins_by ts l) → AreLocations (if b then t.origins else origins_by ts l)
  by true ih = a.1
  by false ih = ih

pub of_call : (call : CallSeen) (l : Loc) → IsLocation l → AreLocations (from_call call l)
of_call call l h = by (is_received call l) where
  by : (b : Bool) → AreLocations (if b then [] else origins_by (cleared call.kind) l)
  by true = tt
  by false = looked_up (cleared call.kind) l (cleared_table call.kind) h

pub of_step : (rule : Rule) (step : StepSeen) (call : Option CallSeen) (l : Loc) → Fits step.instr → IsLocation l → AreLocations (from_instruction_or rule step call l)
of_step rule step None l f h = looked_up (flow rule step.instr step.place) l (flow_table rule step.instr step.place f) h
of_step rule step (Some call) l f h = of_call call l h

-- the origins of a target of a table are locations
pub origins_located : (ts : List Target) (i : ℕ) (ls : List Loc) → IsTable ts → slice_get (map (λ t. t.origins) ts) i ≡ Some ls → AreLocations ls
origins_located [] i ls a e = cc
origins_located (t ∷ ts) zero ls a e = let same : t.origins ≡ ls = cc in subst AreLocations same a.1
origins_located (t ∷ ts) (suc i) ls a e = origins_located ts i ls a.2 e

-- and so is a target
pub target_located : (ts : List Target) (i : ℕ) (l : Loc) → IsTable ts → slice_get (map (λ t. t.loc) ts) i ≡ Some l → IsLocation l
target_located [] i l a e = cc
target_located (t ∷ ts) zero l a e = let same : t.loc ≡ l = cc in subst IsLocation same a.0
target_located (t ∷ ts) (suc i) l a e = target_located ts i l a.2 e
