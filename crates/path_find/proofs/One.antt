-- The one path is a path, and so are its beginnings; a path exists exactly where the source byte is among the origins, and leads over locations. Crates above cite these lemmas.
use Rattle.std.proofs.Common.{◌≡◌, ℕ, zero, suc, ◌+◌, ◌≤◌, Bool, true, false, if◌then◌else◌, List, [], ◌∷◌, length, refl, ap, sym, ◌∙◌, subst, arith, add-one, below_more, slice_index_or, Some}
use Rattle.std.specs.Prelude.{Option, Some, None, is_some, ◌&&◌, Contains}
use Rattle.std.specs.List.{find, AllByRecursion}
use Rattle.std.specs.Option.{option_or}
use Rattle.std.specs.Ordering.{eq_by_cmp}
use Rattle.std.proofs.lemmas.Option.{same_Some}
use Rattle.lists.specs.Sets.{has}
use Rattle.lists.proofs.Algebra.{tied_by}
use Rattle.flow_model.specs.declared.Loc.{Loc}
use Rattle.flow_model.specs.declared.Rule.{Rule}
use Rattle.flow_model.specs.declared.SourceByte.{SourceByte}
use Rattle.flow_model.specs.declared.StepSeen.{StepSeen}
use Rattle.flow_model.specs.declared.CallSeen.{CallSeen}
use Rattle.flow_model.specs.Orders.{source_cmp}
use Rattle.flow_model.specs.Flow.{from, is_received}
use Rattle.flow_model.specs.Origins.{byte_at, step_at, origins}
use Rattle.flow_model.proofs.Orders.{source_same}
use Rattle.path_find.specs.declared.Arrival.{Arrival}
use Rattle.path_find.specs.Paths.{puts, brings, IsLeft, IsLatest, IsRead, IsHop, IsPath, first_of, earlier_path, arrived, path_if_put, path_after, path}
use Rattle.path_find.specs.PathLaws.{OnePathIsPath, BeginningIsPath, HopIsFromFirst, PathIsShort, PathsAreOrigins, OnePathIsOrigin, PathIsLocated}
use Rattle.path_find.proofs.Origins.{one_is, path_had, contains_had, had_contains}
use Rattle.std.proofs.lemmas.List.Elements.{recursion_from_All, All-from_recursion, All-contains}
use Rattle.isa.specs.Encodings.{Fits}
use Rattle.flow_model.specs.Ranges.{IsLocation}
use Rattle.flow_model.proofs.Located.{of_step, located-each}

-- the location whose path is the first that there is
record FirstPath (f : Loc → Option (List Arrival)) (ls : List Loc) (p : List Arrival) : Type 0 where
  loc : Loc
  first : find (λ m. is_some (f m)) ls ≡ Some loc
  among : Contains ls loc
  has : f loc ≡ Some p

first_path : (f : Loc → Option (List Arrival)) (ls : List Loc) (p : List Arrival) → first_of f ls ≡ Some p → FirstPath f ls p
first_path f [] p e = absurd cc
first_path f (l ∷ ls) p e = by (first_path f ls p) (f l) refl e where
  further : (m : Loc) (k : ℕ) → slice_index_or (l ∷ ls) (k + 1) m ≡ slice_index_or ls k m
  further m k = ap (λ (n : ℕ). slice_index_or (l ∷ ls) n m) (add-one k)

  by : (first_of f ls ≡ Some p → FirstPath f ls p) → (o : Option (List Arrival)) → f l ≡ o → option_or o (first_of f ls) ≡ Some p → FirstPath f (l ∷ ls) p
  by ih None was e =
      let more = ih e in
      record {
        loc = more.loc;
        first = ap (λ (o : Option (List Arrival)). if is_some o then Some l else find (λ m. is_some (f m)) ls) was ∙ more.first;
        among = (more.among.0 + 1, omega (arith, more.among.1), further more.loc more.among.0 ∙ more.among.2);
        has = more.has;
      }
  by ih (Some q) was e = record {
    loc = l;
    first = ap (λ (o : Option (List Arrival)). if is_some o then Some l else find (λ m. is_some (f m)) ls) was;
    among = (0, omega arith, refl);
    has = was ∙ e;
  }

module _ (rule : Rule) (s : SourceByte) (trace : List StepSeen) where
  -- how the latest arrival of the one path came about
  pub record LatestHop (t : ℕ) (l : Loc) (a : Arrival) (rest : List Arrival) : Type 0 where
    pub latest : IsLatest rule trace t l a
    pub step : StepSeen
    pub is_step : step_at trace a.number ≡ Some step
    pub is_put : puts rule step a.loc ≡ true
    pub rest_is : earlier_path rule s step (path rule s trace a.number) a.loc ≡ Some rest

  later : (t : ℕ) (l : Loc) (a : Arrival) (rest : List Arrival) → IsLeft rule l (step_at trace t) → LatestHop t l a rest → LatestHop (suc t) l a rest
  later t l a rest left c = record {
    latest = record {
      there = c.latest.there;
      before = omega (arith, c.latest.before);
      still = λ u low high. below_more (λ v. a.number + 1 ≤ v → IsLeft rule l (step_at trace v)) t (λ v less least. c.latest.still v least less) (λ least. left) u (omega (arith, high)) low;
    };
    step = c.step;
    is_step = c.is_step;
    is_put = c.is_put;
    rest_is = c.rest_is;
  }

  pub latest_hop : (t : ℕ) (l : Loc) (a : Arrival) (rest : List Arrival) → path rule s trace t l ≡ Some (a ∷ rest) → LatestHop t l a rest
  latest_hop zero l a rest e = absurd cc
  latest_hop (suc t) l a rest e = by (latest_hop t l a rest) (step_at trace t) refl e where
    now : (step : StepSeen) → step_at trace t ≡ Some step → puts rule step l ≡ true → (o : Option (List Arrival)) → earlier_path rule s step (path rule s trace t) l ≡ o
        → arrived t l o ≡ Some (a ∷ rest) → LatestHop (suc t) l a rest
    now step at put None was e = absurd cc
    now step at put (Some r) was e =
        let first : Arrival = record { number = t; loc = l } in
        let same : first ≡ a = cc in
        let tail : r ≡ rest = cc in
        subst (λ (x : Arrival). LatestHop (suc t) l x rest) same (record {
          latest = record { there = refl; before = omega arith; still = λ u low high. absurd (omega arith) };
          step = step;
          is_step = at;
          is_put = put;
          rest_is = was ∙ ap Some tail;
        })

    by : (path rule s trace t l ≡ Some (a ∷ rest) → LatestHop t l a rest) → (o : Option StepSeen) → step_at trace t ≡ o
        → path_after rule s t o (path rule s trace t) l ≡ Some (a ∷ rest) → LatestHop (suc t) l a rest
    by ih None at e = later t l a rest (subst (IsLeft rule l) (sym at) tt) (ih e)
    by ih (Some step) at e = put (puts rule step l) refl e where
      put : (b : Bool) → puts rule step l ≡ b → path_if_put b rule s t step (path rule s trace t) l ≡ Some (a ∷ rest) → LatestHop (suc t) l a rest
      put true is e = now step at is (earlier_path rule s step (path rule s trace t) l) refl e
      put false is e = later t l a rest (subst (IsLeft rule l) (sym at) is) (ih e)

  never_nil : (t : ℕ) (l : Loc) → path rule s trace t l ≡ Some [] → ⊥
  never_nil zero l e = cc
  never_nil (suc t) l e = by (never_nil t l) (step_at trace t) e where
    no_arrival : (o : Option (List Arrival)) → arrived t l o ≡ Some [] → ⊥
    no_arrival None e = cc
    no_arrival (Some r) e = cc

    put : (path rule s trace t l ≡ Some [] → ⊥) → (step : StepSeen) (b : Bool) → path_if_put b rule s t step (path rule s trace t) l ≡ Some [] → ⊥
    put ih step true e = no_arrival (earlier_path rule s step (path rule s trace t) l) e
    put ih step false e = ih e

    by : (path rule s trace t l ≡ Some [] → ⊥) → (o : Option StepSeen) → path_after rule s t o (path rule s trace t) l ≡ Some [] → ⊥
    by ih None e = ih e
    by ih (Some step) e = put ih step (puts rule step l) e

  -- nothing is before an arrival: a read brought s
  read_alone : (t : ℕ) (step : StepSeen) (l : Loc) → earlier_path rule s step (path rule s trace t) l ≡ Some [] → brings s step.call l ≡ true
  read_alone t step l e = by (brings s step.call l) refl e where
    by : (b : Bool) → brings s step.call l ≡ b → option_or (if b then Some [] else None) (first_of (path rule s trace t) (from rule step l)) ≡ Some [] → brings s step.call l ≡ true
    by true is e = is
    by false is e = let f = first_path (path rule s trace t) (from rule step l) [] e in absurd (never_nil t f.loc f.has)

  -- something is before it: the path to the first location that has one
  earlier_hop : (t : ℕ) (step : StepSeen) (l : Loc) (b : Arrival) (bs : List Arrival) → earlier_path rule s step (path rule s trace t) l ≡ Some (b ∷ bs)
      → FirstPath (path rule s trace t) (from rule step l) (b ∷ bs)
  earlier_hop t step l b bs e = by (brings s step.call l) e where
    by : (c : Bool) → option_or (if c then Some [] else None) (first_of (path rule s trace t) (from rule step l)) ≡ Some (b ∷ bs) → FirstPath (path rule s trace t) (from rule step l) (b ∷ bs)
    by true e = absurd cc
    by false e = first_path (path rule s trace t) (from rule step l) (b ∷ bs) e

  was_read : (a : Arrival) (step : StepSeen) → step_at trace a.number ≡ Some step → (c : Option CallSeen) → step.call ≡ c → brings s c a.loc ≡ true → IsRead s trace a
  was_read a step at None is e = absurd cc
  was_read a step at (Some call) is e = by (is_received call a.loc) refl e where
    by : (b : Bool) → is_received call a.loc ≡ b → (b && eq_by_cmp source_cmp s (byte_at call a.loc)) ≡ true → IsRead s trace a
    by true there e = record {
      step = step;
      is_step = at;
      call = call;
      is_call = is;
      is_there = there;
      is_byte = sym (source_same s (byte_at call a.loc) (tied_by (source_cmp s (byte_at call a.loc)) e));
    }
    by false there e = absurd cc

  -- the location that the first hop came from is that of the previous arrival
  hop_from : (t : ℕ) (l : Loc) (a b : Arrival) (bs : List Arrival) (c : LatestHop t l a (b ∷ bs)) (f : FirstPath (path rule s trace a.number) (from rule c.step a.loc) (b ∷ bs)) → b.loc ≡ f.loc
  hop_from t l a b bs c f = (latest_hop a.number f.loc b bs f.has).latest.there

  pub beginning : (t : ℕ) (l : Loc) (a b : Arrival) (bs : List Arrival) → path rule s trace t l ≡ Some (a ∷ b ∷ bs) → path rule s trace a.number b.loc ≡ Some (b ∷ bs)
  beginning t l a b bs e =
      let c = latest_hop t l a (b ∷ bs) e in
      let f = earlier_hop a.number c.step a.loc b bs c.rest_is in
      ap (path rule s trace a.number) (hop_from t l a b bs c f) ∙ f.has

  pub is_path : (p : List Arrival) (t : ℕ) (l : Loc) → path rule s trace t l ≡ Some p → IsPath rule s trace t l p
  is_path [] t l e = never_nil t l e
  is_path (a ∷ []) t l e =
      let c = latest_hop t l a [] e in
      (c.latest, was_read a c.step c.is_step c.step.call refl (read_alone a.number c.step a.loc c.rest_is))
  is_path (a ∷ b ∷ bs) t l e =
      let c = latest_hop t l a (b ∷ bs) e in
      let f = earlier_hop a.number c.step a.loc b bs c.rest_is in
      let hop : IsHop rule trace a b = record {
        step = c.step;
        is_step = c.is_step;
        is_put = c.is_put;
        flows = subst (Contains (from rule c.step a.loc)) (sym (hop_from t l a b bs c f)) f.among;
      } in
      (c.latest, hop, is_path (b ∷ bs) a.number b.loc (beginning t l a b bs e))

pub one_path_is_path : OnePathIsPath
one_path_is_path rule s trace t l p e = is_path rule s trace p t l e

pub beginning_is_path : BeginningIsPath
beginning_is_path = beginning

find_same : (f g : Loc → Bool) → ((m : Loc) → f m ≡ g m) → (ls : List Loc) → find f ls ≡ find g ls
find_same f g h [] = refl
find_same f g h (l ∷ ls) = ap (λ (b : Bool). if b then Some l else find f ls) (h l) ∙ ap (λ (o : Option Loc). if g l then Some l else o) (find_same f g h ls)

pub hop_is_from_first : HopIsFromFirst
hop_is_from_first policy s trace t l a b bs step chosen e at =
    let rule = policy.rule in
    let c = latest_hop rule s trace t l a (b ∷ bs) e in
    let same : c.step ≡ step = same_Some c.step step (sym c.is_step ∙ at) in
    let f = earlier_hop rule s trace a.number c.step a.loc b bs c.rest_is in
    ap (λ (x : StepSeen). find (λ m. has source_cmp s (origins policy trace a.number m)) (from rule x a.loc)) (sym same)
    ∙ find_same _ _ (λ m. sym (one_is policy s chosen trace a.number m)) (from rule c.step a.loc)
    ∙ f.first ∙ ap Some (sym (hop_from rule s trace t l a b bs c f))

short : (rule : Rule) (s : SourceByte) (trace : List StepSeen) (p : List Arrival) (t : ℕ) (l : Loc) → IsPath rule s trace t l p → length p ≤ t
short rule s trace [] t l h = absurd h
short rule s trace (a ∷ []) t l h = omega (arith, h.0.before)
short rule s trace (a ∷ b ∷ bs) t l h = omega (arith, h.0.before, short rule s trace (b ∷ bs) a.number b.loc h.2)

pub path_is_short : PathIsShort
path_is_short rule s trace t l p h = short rule s trace p t l h

-- ---- a path exists exactly where the source byte is among the origins

there_is : {X : Type 0} (o : Option X) → is_some o ≡ true → (x : X) × (o ≡ Some x)
there_is None e = absurd cc
there_is (Some x) e = (x, refl)

pub one_path_is_origin : OnePathIsOrigin
one_path_is_origin policy s trace t l chosen = (
  λ c. there_is (path policy.rule s trace t l) (one_is policy s chosen trace t l ∙ had_contains policy s chosen trace t l c),
  λ p. contains_had policy s chosen trace t l (sym (one_is policy s chosen trace t l) ∙ ap is_some p.1),
)

pub paths_are_origins : PathsAreOrigins
paths_are_origins policy s trace t l chosen = (
  λ c. let p = (one_path_is_origin policy s trace t l chosen).0 c in (p.0, is_path policy.rule s trace p.0 t l p.1),
  λ p. contains_had policy s chosen trace t l (path_had policy s chosen trace p.0 t l p.1),
)

-- ---- what flows to a location comes from locations, so a path leads over locations

abbrev AllFit : List StepSeen → Type 0
AllFit trace = AllByRecursion (λ x. Fits x.instr) trace

step_fits : (trace : List StepSeen) (t : ℕ) (step : StepSeen) → AllFit trace → step_at trace t ≡ Some step → Fits step.instr
step_fits [] t step h e = absurd cc
step_fits (x ∷ xs) zero step h e = let same : x ≡ step = cc in subst (λ (y : StepSeen). Fits y.instr) same h.0
step_fits (x ∷ xs) (suc t) step h e = step_fits xs t step h.1 e

module _ (rule : Rule) (s : SourceByte) (trace : List StepSeen) (fit : AllFit trace) where
  at_end : (t : ℕ) (l : Loc) (a : Arrival) → IsLocation l → IsLatest rule trace t l a → IsLocation a.loc
  at_end t l a here h = subst IsLocation (sym h.there) here

  -- a hop comes from a location
  behind_hop : (a b : Arrival) → IsLocation a.loc → IsHop rule trace a b → IsLocation b.loc
  behind_hop a b here h =
      let origins = of_step rule h.step h.step.call a.loc (step_fits trace a.number h.step fit h.is_step) here in
      All-contains IsLocation (from rule h.step a.loc) b.loc (All-from_recursion IsLocation (from rule h.step a.loc) (located-each (from rule h.step a.loc) origins)) h.flows

  each : (p : List Arrival) (t : ℕ) (l : Loc) → IsLocation l → IsPath rule s trace t l p → AllByRecursion (λ a. IsLocation a.loc) p
  each [] t l here h = tt
  each (a ∷ []) t l here h = (at_end t l a here h.0, tt)
  each (a ∷ b ∷ bs) t l here h = let first = at_end t l a here h.0 in (first, each (b ∷ bs) a.number b.loc (behind_hop a b first h.1) h.2)

pub path_is_located : PathIsLocated
path_is_located rule s trace t l p fit here h =
    All-from_recursion (λ a. IsLocation a.loc) p (each rule s trace (recursion_from_All (λ x. Fits x.instr) trace fit) p t l here h)
