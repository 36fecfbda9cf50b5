-- What flows by a rule: at most one location where content is only moved, and no more than by the rules after it.
use Rattle.std.proofs.Common.{◌≡◌, ℕ, zero, suc, ◌+◌, ◌^◌, ◌<◌, ◌≤◌, Bool, true, false, cond, List, [], ◌∷◌, length, refl, arith, ap, subst, inl, inr, ⊎_elim, Option, Some, None, ◌-◌, ◌/◌, ◌%◌, ltb-true, ◌∙◌}
use Rattle.std.specs.Prelude.{Contains, ◌==◌, ◌&&◌, ◌-◌, ◌/◌, ◌%◌, nat_lt, nat_le, ◌||◌}
use Rattle.std.specs.Ordering.{eq_by_cmp}
use Rattle.isa.specs.declared.Instr.{Instr}
use Rattle.isa.specs.declared.Instr.TheVariants.{Lw}
use Rattle.isa.proofs.Window.{wrap-lt}
use Rattle.isa.specs.Machine.{wrap}
use Rattle.isa.specs.declared.CallKind.{CallKind}
use Rattle.flow_model.specs.declared.Loc.{Loc}
use Rattle.flow_model.specs.declared.Loc.TheVariants.{Reg, Mem}
use Rattle.flow_model.specs.declared.Rule.{Rule}
use Rattle.flow_model.specs.declared.StepSeen.{StepSeen}
use Rattle.flow_model.specs.declared.CallSeen.{CallSeen}
use Rattle.flow_model.specs.Flow.{Target, flow, from, from_instruction_or, cleared, is_received, origins_by, loc_eq, computed, kept_or_computed, with_base, byte_of, lane, lanes, signed_load, left_lanes, right_lanes}
use Rattle.answer_meaning.specs.StepLaws.{OnlyMoves, ByCopy, ByKeep, MovesAreSingle, FlowsWithin}
use Rattle.lists.specs.Sets.{has, union}
use Rattle.lists.proofs.Algebra.{has-union, has-Contains, Contains-has}
use Rattle.flow_model.specs.declared.Rule.TheVariants.{Copy, Keep, Compute, Index}
use Rattle.flow_model.specs.declared.SourceByte.{SourceByte}
use Rattle.flow_model.specs.Orders.{loc_cmp}
use Rattle.flow_model.specs.Origins.{origins, after_step, step_at}
use Rattle.flow_model.proofs.Orders.{loc_total, loc_same}
use Rattle.answer_meaning.specs.RunLaws.{under, OriginsWithin}
use Rattle.std.proofs.Math.Bool.{or-true}
use Rattle.flow_model.proofs.Members.{contains-after_step}
use Rattle.isa.specs.declared.CallKind.TheVariants as kind

-- a register's lane, or an address
abbrev pub IsPlace : Loc → Type 0
IsPlace (Reg r i) = Unit {0}
IsPlace (Mem p) = p < 2 ^ 32

-- nothing, or one location of which Q is true
pub data AtMostOne (Q : Loc → Type 0) (ls : List Loc) : Type 0 where
  Nothing : ls ≡ [] → AtMostOne Q ls
  One : (k : Loc) → Q k → ls ≡ k ∷ [] → AtMostOne Q ls

-- ---- among a union

-- each of the first locations is one of the others
pub record Within (ls ms : List Loc) : Type 0 where
  pub inside : (k : Loc) → has loc_cmp k ls ≡ true → has loc_cmp k ms ≡ true

pub within_same : {ls : List Loc} → Within ls ls
within_same = record { inside = λ k h. h }

pub within_none : {ls : List Loc} → Within [] ls
within_none = record { inside = λ k h. cc }

pub within_first : (l : Loc) {ns : List Loc} → Within (l ∷ []) (l ∷ ns)
within_first l {ns = ns} = record { inside = λ k h. by k (eq_by_cmp loc_cmp k l) h }
  where
    by : (k : Loc) (b : Bool) → (b || false) ≡ true → (b || has loc_cmp k ns) ≡ true
    by k true h = refl
    by k false h = cc

pub within_later : (l : Loc) {ms ns : List Loc} → Within ms ns → Within ms (l ∷ ns)
within_later l f = record { inside = λ k h. ap (λ (b : Bool). eq_by_cmp loc_cmp k l || b) (f.inside k h) ∙ or-true (eq_by_cmp loc_cmp k l) }

pub within_union : (ls : List Loc) {ms : List Loc} → Within ms (union loc_cmp ls ms)
within_union ls {ms = ms} = record { inside = λ k h. has-union loc_total ls ms k ∙ ap (λ (b : Bool). has loc_cmp k ls || b) h ∙ or-true (has loc_cmp k ls) }

-- ---- lanes that are kept

within_kept : (b : Bool) {xs ys : List Loc} → Within xs ys → Within (cond b xs []) ys
within_kept true h = h
within_kept false h = within_none

-- a lane is one of the four
lane_within : (a i : ℕ) → i < 4 → Within (lane a i) (lanes a)
lane_within a i h = by (a == 0) i h
  where
    by : (b : Bool) (i : ℕ) → i < 4 → Within (cond b [] (Reg a i ∷ [])) (cond b [] (Reg a 0 ∷ Reg a 1 ∷ Reg a 2 ∷ Reg a 3 ∷ []))
    by true i h = within_same
    by false zero h = within_first _
    by false (suc zero) h = within_later _ (within_first _)
    by false (suc (suc zero)) h = within_later _ (within_later _ (within_first _))
    by false (suc (suc (suc zero))) h = within_later _ (within_later _ (within_later _ (within_first _)))
    by false (suc (suc (suc (suc i)))) h = absurd (omega arith)

within_left : (k a i : ℕ) → i < 4 → Within (left_lanes k a i) (lanes a)
within_left k a i h = within_kept ((k % 8 == 0) && nat_le (k / 8) i) (lane_within a (i - k / 8) (omega arith))

within_right : (k a i : ℕ) → i < 4 → Within (right_lanes k a i) (lanes a)
within_right k a i h = by (k % 8 == 0) (nat_lt (i + k / 8) 4) refl
  where
    by : (b c : Bool) → nat_lt (i + k / 8) 4 ≡ c → Within (cond (b && c) (lane a (i + k / 8)) []) (lanes a)
    by true true e = lane_within a (i + k / 8) (ltb-true (i + k / 8) 4 e)
    by true false e = within_none
    by false c e = within_none

-- ---- one step by two rules

-- what the origins of a target by two rules have to do with each other, for each kind of flow
pub record Relates (few many : Rule) (R : List Loc → List Loc → Type 0) : Type 0 where
  pub none : R [] []
  pub moves : (r i : ℕ) → R (lane r i) (lane r i)
  pub loads : (address i : ℕ) → R (byte_of address i) (byte_of address i)
  pub computes : (origins : ℕ → List Loc) (i : ℕ) → R (computed few origins i) (computed many origins i)
  pub keeps : (kept origins : ℕ → List Loc) (i : ℕ) → R (kept i) (kept i) → Within (kept i) (origins i)
      → R (kept_or_computed few kept origins i) (kept_or_computed many kept origins i)
  pub bases : (a : ℕ) (ls : List Loc) → R ls ls → R (with_base few a ls) (with_base many a ls)
  pub extends : (a place n i : ℕ) → R (signed_load few a place n i) (signed_load many a place n i)

module _ {few many : Rule} {R : List Loc → List Loc → Type 0} (c : Relates few many R) where
  -- the same targets, with such origins
  abbrev Related : List Target → List Target → Type 0
  Related [] [] = Unit {0}
  Related (t ∷ ts) (u ∷ us) = (t.loc ≡ u.loc) × R t.origins u.origins × Related ts us
  Related ts us = ⊥

  either : (b : Bool) {xs xs' ys ys' : List Loc} → R xs xs' → R ys ys' → R (cond b xs ys) (cond b xs' ys')
  either true h g = h
  either false h g = g

  either_each : (b : Bool) (f f' g g' : ℕ → List Loc) (i : ℕ) → R (f i) (f' i) → R (g i) (g' i) → R (cond b f g i) (cond b f' g' i)
  either_each true f f' g g' i h k = h
  either_each false f f' g g' i h k = k

  either_table : (b : Bool) (ts us : List Target) → Related ts us → Related (cond b [] ts) (cond b [] us)
  either_table true ts us h = tt
  either_table false ts us h = h

  looked_up : (ts us : List Target) (l : Loc) → R (l ∷ []) (l ∷ []) → Related ts us → R (origins_by ts l) (origins_by us l)
  looked_up [] [] l h r = h
  looked_up (t ∷ ts) (u ∷ us) l h r = subst (λ (k : Loc). R (origins_by (t ∷ ts) l) (cond (loc_eq k l) u.origins (origins_by us l))) r.0 (either (loc_eq t.loc l) r.1 (looked_up ts us l h r.2))
  looked_up ts us l h r = absurd r

  -- by the form that the origins have
  related_flow : (i : Instr) (place : ℕ) → Related (flow few i place) (flow many i place)
  related_flow (Lw d a imm) place = search (either_table, c.moves, c.computes, c.keeps, c.bases, c.loads, c.extends, c.none, either_each, either, within_left, within_right, within_kept, arith) depth 16 parts 16
  related_flow i place = search (either_table, c.moves, c.computes, c.keeps, c.bases, c.loads, c.extends, c.none, either_each, either, within_left, within_right, within_kept, arith) depth 16 parts 16

  related_cleared : (k : CallKind) → Related (cleared k) (cleared k)
  related_cleared kind.Read = search (c.none) parts 20
  related_cleared k = search (c.none) parts 20

  related : (step : StepSeen) (l : Loc) → R (l ∷ []) (l ∷ []) → R (from few step l) (from many step l)
  related step l h = by step.call
    where
      by : (o : Option CallSeen) → R (from_instruction_or few step o l) (from_instruction_or many step o l)
      by None = looked_up (flow few step.instr step.place) (flow many step.instr step.place) l h (related_flow step.instr step.place)
      by (Some call) = either (is_received call l) c.none (looked_up (cleared call.kind) (cleared call.kind) l h (related_cleared call.kind))

-- ---- rules by which content is moved

module _ (Q : Loc → Type 0) (of_lane : (r i : ℕ) → Q (Reg r i)) (of_byte : (a : ℕ) → Q (Mem (wrap a))) where
  one_if : (b : Bool) (l : Loc) → Q l → AtMostOne Q (cond b [] (l ∷ []))
  one_if true l h = Nothing refl
  one_if false l h = One l h refl

  one_byte : (b : Bool) (a : ℕ) → AtMostOne Q (cond b (Mem (wrap a) ∷ []) [])
  one_byte true a = One (Mem (wrap a)) (of_byte a) refl
  one_byte false a = Nothing refl

  by_copy : Relates Copy Copy (λ ls ms. AtMostOne Q ls)
  by_copy = record {
    none = Nothing refl;
    moves = λ r i. one_if (r == 0) (Reg r i) (of_lane r i);
    loads = λ address i. One (Mem (wrap (address + i))) (of_byte (address + i)) refl;
    computes = λ origins i. Nothing refl;
    keeps = λ kept origins i h w. Nothing refl;
    bases = λ a ls h. h;
    extends = λ a place n i. one_byte (nat_lt i n) (place + i);
  }

  by_keep : Relates Keep Keep (λ ls ms. AtMostOne Q ls)
  by_keep = record {
    none = by_copy.none;
    moves = by_copy.moves;
    loads = by_copy.loads;
    computes = by_copy.computes;
    keeps = λ kept origins i h w. h;
    bases = by_copy.bases;
    extends = by_copy.extends;
  }

  one_from : {rule : Rule} → OnlyMoves rule → (step : StepSeen) (l : Loc) → Q l → AtMostOne Q (from rule step l)
  one_from ByCopy step l h = related by_copy step l (One l h refl)
  one_from ByKeep step l h = related by_keep step l (One l h refl)

pub single_place : (rule : Rule) → OnlyMoves rule → (step : StepSeen) (l : Loc) → IsPlace l → AtMostOne IsPlace (from rule step l)
single_place rule only step l p = one_from IsPlace (λ r i. tt) wrap-lt only step l p

pub moves_are_single : MovesAreSingle
moves_are_single rule only step l = by (one_from (λ k. Unit {0}) (λ r i. tt) (λ a. tt) only step l tt)
  where
    by : AtMostOne (λ k. Unit {0}) (from rule step l) → length (from rule step l) ≤ 1
    by (Nothing e) = omega (arith, ap length e)
    by (One k p e) = omega (arith, ap length e)

-- ---- rules that nest

abbrev pub Nest : Rule → Rule → Type 0
Nest few many = Relates few many Within

pub copy_in_keep : Nest Copy Keep
copy_in_keep = record {
  none = within_same;
  moves = λ r i. within_same;
  loads = λ address i. within_same;
  computes = λ origins i. within_same;
  keeps = λ kept origins i h w. within_none;
  bases = λ a ls h. within_same;
  extends = λ a place n i. within_same;
}

pub keep_in_compute : Nest Keep Compute
keep_in_compute = record {
  none = within_same;
  moves = λ r i. within_same;
  loads = λ address i. within_same;
  computes = λ origins i. within_none;
  keeps = λ kept origins i h w. w;
  bases = λ a ls h. within_same;
  extends = λ a place n i. load (nat_lt i n) place n i;
}
  where
    load : (b : Bool) (place n i : ℕ) → Within (cond b (byte_of place i) []) (byte_of place (cond b i (n - 1)))
    load true place n i = within_same
    load false place n i = within_none

pub compute_in_index : Nest Compute Index
compute_in_index = record {
  none = within_same;
  moves = λ r i. within_same;
  loads = λ address i. within_same;
  computes = λ origins i. within_same;
  keeps = λ kept origins i h w. within_same;
  bases = λ a ls h. within_union (lanes a);
  extends = λ a place n i. within_union (lanes a);
}

module _ {few many : Rule} (c : Nest few many) where
  pub flows_within : FlowsWithin few many
  flows_within step l k h =
      Contains-has loc_total loc_same (from many step l) k ((related c step l within_same).inside k (has-Contains loc_total (from few step l) k h))

  -- ---- along a trace

  pub origins_within : OriginsWithin few many
  origins_within introduces trace zero l b h = h
  origins_within introduces trace (suc t) l b h = by (λ k. origins_within introduces trace t k b) (step_at trace t) h
    where
      before : Rule → Loc → List SourceByte
      before rule = origins (under rule introduces) trace t

      by : ((k : Loc) → Contains (before few k) b → Contains (before many k) b) → (o : Option StepSeen)
          → Contains (after_step (under few introduces) o (before few) l) b → Contains (after_step (under many introduces) o (before many) l) b
      by ih None h = ih l h
      by ih (Some step) h =
          (contains-after_step (under many introduces) step (before many) l b).1
          (⊎_elim inl (λ some. let there = flows_within step l some.1 (some.0, some.2, some.3) in inr (there.0, some.1, there.1, there.2, ih some.1 some.4))
          ((contains-after_step (under few introduces) step (before few) l b).0 h))
