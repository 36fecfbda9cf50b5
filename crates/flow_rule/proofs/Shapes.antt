-- The shape of each kind of instruction has the targets of its row in the flow table, and sizes and registers in range. Crates
-- above cite the lemmas of the targets of loads and stores.
use Rattle.std.proofs.Common.{◌≡◌, ◌<◌, ◌≤◌, ℕ, ℤ, ◌==◌, Bool, true, false, if◌then◌else◌, List, [], ◌∷◌, map, arith, rules, ap, sym, subst, refl, ◌⊎◌, inl, inr}
use Rattle.std.specs.List.{AllByRecursion, range_with_len}
use mir.Syntax.{w32}
use mir.Val.{SFits, to_z, of_z}
use Rattle.std.proofs.lemmas.Int.{to_z-of_z}
use Rattle.isa.specs.Encodings.{Fits}
use Rattle.isa.specs.declared.Instr.{Instr}
use Rattle.flow_model.specs.declared.Loc.{Loc}
use Rattle.flow_model.specs.declared.Loc.TheVariants.{Reg}
use Rattle.flow_model.specs.declared.Rule.{Rule}
use Rattle.flow_model.specs.declared.Rule.TheVariants.{Copy, Keep, Index}
use Rattle.flow_model.specs.Flow as model
use Rattle.flow_rule.specs.declared.shape.Shape.{Shape}
use Rattle.flow_rule.specs.declared.shape.Shape.TheVariants.{Move, Mixed, Load, Store}
use Rattle.flow_rule.specs.declared.shape.Mixing.{Mixing}
use Rattle.flow_rule.specs.declared.shape.Mixing.TheVariants.{AllLanes, FirstLane}
use Rattle.flow_rule.specs.declared.shuffle.Shuffle.{Shuffle}
use Rattle.flow_rule.specs.Flows.{by_lane}
use Rattle.flow_rule.specs.Shuffles.{shuffled_lanes, AreLanes, Chooses}
use Rattle.flow_rule.specs.Shapes.{targets_of, HasSizes, HasRegisters, computed_shape, kept_or_computed_shape, moved_shape_or, base_of, fills_by, mixed_lanes}

-- a shape has these targets, sizes in range, and registers in range where X holds
abbrev pub IsRow : Type 0 → List model.Target → Shape → Type 0
IsRow X targets s = (targets_of s ≡ targets) × HasSizes s × (X → HasRegisters s)

abbrev pub IsShapeOf : Rule → ℕ → Shape → Instr → Type 0
IsShapeOf rule place s i = IsRow (Fits i) (model.flow rule i place) s

-- a shape that is known, of an instruction that is known
pub known : {i j : Instr} {s t : Shape} (rule : Rule) (place : ℕ) → s ≡ t → i ≡ j → IsShapeOf rule place t j → IsShapeOf rule place s i
known {i} {j} {s} {t} rule place same e h = subst (λ (u : Shape). IsShapeOf rule place u i) (sym same) (subst (IsShapeOf rule place t) (sym e) h)

-- of an instruction that is one of several
abbrev OneOf : Instr → List Instr → Type 0
OneOf i [] = ⊥
OneOf i (j ∷ []) = i ≡ j
OneOf i (j ∷ k ∷ js) = (i ≡ j) ⊎ OneOf i (k ∷ js)

pub known_among : {s t : Shape} (rule : Rule) (place : ℕ) (i : Instr) (js : List Instr) → s ≡ t → OneOf i js
    → AllByRecursion (IsShapeOf rule place t) js → IsShapeOf rule place s i
known_among rule place i [] same e h = absurd e
known_among rule place i (j ∷ []) same e h = known rule place same e h.0
known_among rule place i (j ∷ k ∷ js) same (inl e) h = known rule place same e h.0
known_among rule place i (j ∷ k ∷ js) same (inr e) h = known_among rule place i (k ∷ js) same e h.1

computed_row : {X : Type 0} (rule : Rule) (d : ℕ) (s : Shape) (f : ℕ → List Loc) → (X → d < 32) → IsRow X (model.to_register d f) s
    → IsRow X (model.to_register d (model.computed rule f)) (computed_shape rule d s)
computed_row Copy d s f small h = (refl, tt, small)
computed_row Keep d s f small h = (refl, tt, small)
computed_row rule d s f small h = h

pub mixed_row : (rule : Rule) (mixing : Mixing) (d a b : ℕ)
    → IsRow ((d < 32) × (a < 32) × (b < 32)) (model.to_register d (model.computed rule (mixed_lanes mixing a b))) (computed_shape rule d (Mixed mixing d a b))
mixed_row rule mixing d a b = computed_row rule d (Mixed mixing d a b) (mixed_lanes mixing a b) (λ f. f.0) (refl, tt, λ f. f)

-- the same lanes make the same targets
same_targets : (d : ℕ) (f g : ℕ → List Loc) → by_lane f ≡ by_lane g → model.to_register d f ≡ model.to_register d g
same_targets d f g e = by (d == 0) where
  of : (ℕ → List Loc) → List model.Target
  of h = map (λ i. record { loc = Reg d i; origins = h i }) (range_with_len 0 4)

  by : (b : Bool) → (if b then [] else of f) ≡ (if b then [] else of g)
  by true = refl
  by false = cc

kept_row : {X : Type 0} (rule : Rule) (d r : ℕ) (kept : Shuffle) (lanes : ℕ → ℕ → List Loc) (s : Shape) (f : ℕ → List Loc) → (X → (d < 32) × (r < 32)) → AreLanes kept → Chooses kept lanes
    → IsRow X (model.to_register d f) s → IsRow X (model.to_register d (model.kept_or_computed rule (lanes r) f)) (kept_or_computed_shape rule d r kept s)
kept_row Copy d r kept lanes s f small few chosen h = (refl, tt, λ x. (small x).0)
kept_row Keep d r kept lanes s f small few chosen h = (same_targets d (shuffled_lanes kept r) (lanes r) (chosen r), few, small)
kept_row rule d r kept lanes s f small few chosen h = h

moved_row : {X : Type 0} (d a b : ℕ) (s : Shape) (f : ℕ → List Loc) → (X → (d < 32) × (a < 32) × (b < 32)) → IsRow X (model.to_register d f) s
    → IsRow X (model.to_register d (model.moved_or a b f)) (moved_shape_or d a b s)
moved_row {X} d a b s f small h = by (a == 0) (b == 0) where
  by : (x y : Bool) → IsRow X (model.to_register d (λ i. if x then model.lane b i else if y then model.lane a i else f i)) (if x then Move d b else if y then Move d a else s)
  by true y = (refl, tt, λ x. ((small x).0, (small x).2))
  by false true = (refl, tt, λ x. ((small x).0, (small x).1))
  by false false = h

pub moved_mixed_row : (rule : Rule) (mixing : Mixing) (d a b : ℕ)
    → IsRow ((d < 32) × (a < 32) × (b < 32)) (model.to_register d (model.moved_or a b (model.computed rule (mixed_lanes mixing a b))))
    (moved_shape_or d a b (computed_shape rule d (Mixed mixing d a b)))
moved_mixed_row rule mixing d a b = moved_row d a b _ (model.computed rule (mixed_lanes mixing a b)) (λ f. f) (mixed_row rule mixing d a b)

base_small : (rule : Rule) (a : ℕ) → a < 32 → base_of rule a < 32
base_small Index a h = h
base_small rule a h = omega arith

pub loaded_targets : (rule : Rule) (d a place n : ℕ) → targets_of (Load d (base_of rule a) place n false) ≡ model.to_register d (model.loaded_byte rule a place n)
loaded_targets Copy d a place n = refl
loaded_targets rule d a place n = refl

pub signed_targets : (rule : Rule) (d a place n : ℕ) → targets_of (Load d (base_of rule a) place n (fills_by rule)) ≡ model.to_register d (model.signed_load rule a place n)
signed_targets Copy d a place n = refl
signed_targets rule d a place n = refl

pub stored_targets : (rule : Rule) (a b place n : ℕ) → targets_of (Store b (base_of rule a) place n) ≡ model.to_memory place n (λ i. model.with_base rule a (model.lane b i))
stored_targets Copy a b place n = refl
stored_targets rule a b place n = refl

pub load_row : {X : Type 0} (rule : Rule) (d a place n : ℕ) → (1 ≤ n) × (n ≤ 4)
    → IsRow ((d < 32) × (a < 32) × X) (model.to_register d (model.loaded_byte rule a place n)) (Load d (base_of rule a) place n false)
load_row rule d a place n sized = (loaded_targets rule d a place n, sized, λ f. (f.0, base_small rule a f.1))

pub signed_row : {X : Type 0} (rule : Rule) (d a place n : ℕ) → (1 ≤ n) × (n ≤ 4)
    → IsRow ((d < 32) × (a < 32) × X) (model.to_register d (model.signed_load rule a place n)) (Load d (base_of rule a) place n (fills_by rule))
signed_row rule d a place n sized = (signed_targets rule d a place n, sized, λ f. (f.0, base_small rule a f.1))

pub store_row : {X : Type 0} (rule : Rule) (a b place n : ℕ) → (1 ≤ n) × (n ≤ 4)
    → IsRow ((a < 32) × (b < 32) × X) (model.to_memory place n (λ i. model.with_base rule a (model.lane b i))) (Store b (base_of rule a) place n)
store_row rule a b place n sized = (stored_targets rule a b place n, sized, λ f. (f.1, base_small rule a f.0))

-- an immediate as it is passed on is the same
pub bitwise_row : {X : Type 0} (rule : Rule) (d a : ℕ) (kept : Shuffle) (byte : ℕ) (imm : ℤ) → SFits w32 imm → AreLanes kept
    → Chooses kept (model.unchanged_lanes byte (to_z w32 (of_z w32 imm)))
    → IsRow ((d < 32) × (a < 32) × X) (model.to_register d (model.kept_or_computed rule (model.unchanged_lanes byte imm a) (model.lane a)))
    (kept_or_computed_shape rule d a kept (Move d a))
bitwise_row rule d a kept byte imm fits few chosen =
    let same = subst (λ (z : ℤ). Chooses kept (model.unchanged_lanes byte z)) (to_z-of_z w32 imm fits) chosen in
    kept_row rule d a kept (model.unchanged_lanes byte imm) (Move d a) (model.lane a) (λ f. (f.0, f.1)) few same (refl, tt, λ f. (f.0, f.1))

-- with x0 as the other source all lanes are those of one register
alone : (a : ℕ) → model.all_lanes a 0 0 ≡ model.lanes a
alone a = search rules

pub first_alone_row : {X : Type 0} (rule : Rule) (d a : ℕ)
    → IsRow ((d < 32) × (a < 32) × X) (model.to_register d (model.computed rule (model.in_first_lane (model.lanes a))))
    (computed_shape rule d (Mixed FirstLane d a 0))
first_alone_row rule d a =
    let same = ap (λ (ls : List Loc). model.to_register d (model.in_first_lane ls)) (alone a) in
    computed_row rule d (Mixed FirstLane d a 0) (model.in_first_lane (model.lanes a)) (λ f. f.0) (same, tt, λ f. (f.0, f.1, omega arith))

pub shifted_row : {X : Type 0} (rule : Rule) (d a : ℕ) (kept : Shuffle) (lanes : ℕ → ℕ → List Loc) → AreLanes kept → Chooses kept lanes
    → IsRow ((d < 32) × (a < 32) × X) (model.to_register d (model.kept_or_computed rule (lanes a) (λ i. model.lanes a)))
    (kept_or_computed_shape rule d a kept (Mixed AllLanes d a 0))
shifted_row rule d a kept lanes few chosen =
    let same = ap (λ (ls : List Loc). model.to_register d (λ i. ls)) (alone a) in
    kept_row rule d a kept lanes (Mixed AllLanes d a 0) (λ i. model.lanes a) (λ f. (f.0, f.1)) few chosen (same, tt, λ f. (f.0, f.1, omega arith))
