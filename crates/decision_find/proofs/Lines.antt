-- The lines of a text of decisions: one for each place, which tells the decisions there.
use Rattle.std.proofs.Common.{◌≡◌, ℕ, suc, ◌+◌, Bool, true, false, if◌then◌else◌, List, [], ◌∷◌, ◌++◌, map, length, refl, ap, ap₂, sym, ◌∙◌, subst, arith, inl, inr, zero, ◌<◌}
use Rattle.std.specs.Prelude.{◌⊎◌, ◌||◌, ◌↔◌, Contains}
use Rattle.std.specs.List.{flat_map, list_any, sum_by, AllByRecursion}
use Rattle.std.specs.Ordering.{is_eq, eq_by_cmp}
use Rattle.std.specs.Cmp.{tied_itself}
use Rattle.std.proofs.lemmas.Bool.{or_cases}
use Rattle.std.proofs.lemmas.List.Elements.{All-from_recursion}
use Rattle.std.proofs.lemmas.List.Folds.{Any-from_list_any, list_any_at}
use Rattle.std.proofs.lemmas.List.Recursion.{is_sum_by}
use Rattle.lists.specs.Sets.{has, Ascends}
use Rattle.lists.proofs.Algebra.{tied_by, has-Contains, Contains-has, has-set_of, has-union, Ascends-set_of, Ascends-union, IsBelow-tied, none_below}
use Rattle.lists.proofs.Tests.{true-false}
use Rattle.flow_model.specs.declared.SourceByte.{SourceByte}
use Rattle.flow_model.specs.Orders.{source_cmp}
use Rattle.flow_model.proofs.Orders.{source_total, source_same}
use Rattle.report_model.proofs.Members.{Some_in, Any-some, some-Contains, Contains-some, some-each, some-gives, filter-some, some-filter, map-some, some-map, some-left, some-right, some-append}
use Rattle.printed_names.specs.Lines.{lines_end}
use Rattle.decision_find.specs.declared.Place.{Place}
use Rattle.decision_find.specs.Decisions.{Decision, decision, decisions, is_some_byte, decided_at, decided_from, decided, moments_seen}
use Rattle.decision_find.specs.Places.{place_cmp, place_of, places, is_at, decided_there, sources_of}
use Rattle.decision_find.specs.Text.{place_line}
use Rattle.decision_find.specs.TextLaws.{PlaceLine, place_line_text, IsLineOf, TextsTellDecisions, DecidedThereAre, IsDecision, DecidedAreDecisions}
use Rattle.decision_find.proofs.Orders.{place_total, place_same}
use Rattle.flow_model.specs.declared.Loc.{Loc}
use Rattle.flow_model.specs.declared.StepSeen.{StepSeen}
use Rattle.flow_model.specs.Origins.{Policy}
use Rattle.replay_model.specs.Run.{Moment, start, advance, moment_after, trace}

-- ---- the decisions of a place

at_place : (p : Place) (d : Decision) → is_at p d ≡ true → place_of d ≡ p
at_place p d e = sym (place_same p (place_of d) (tied_by (place_cmp p (place_of d)) e))

is_there : (p : Place) (d : Decision) → place_of d ≡ p → is_at p d ≡ true
is_there p d e = ap (eq_by_cmp place_cmp p) e ∙ ap is_eq (tied_itself place_total p)

pub decided_there_are : DecidedThereAre
decided_there_are ds p d = (to, from) where
  to : Contains (decided_there p ds) d → Contains ds d × (place_of d ≡ p)
  to c =
      let kept = filter-some (λ x. x ≡ d) (is_at p) ds (some-Contains (decided_there p ds) d c) in (
        Contains-some ds d (some-each (λ x. (is_at p x ≡ true) × (x ≡ d)) (λ x. x ≡ d) (λ x h. h.1) ds kept),
        some-gives (λ x. (is_at p x ≡ true) × (x ≡ d)) (place_of d ≡ p) (λ x h. ap place_of (sym h.1) ∙ at_place p x h.0) ds kept,
      )

  from : Contains ds d × (place_of d ≡ p) → Contains (decided_there p ds) d
  from h =
      Contains-some (decided_there p ds) d (some-filter (λ x. x ≡ d) (is_at p) ds
      (some-each (λ x. x ≡ d) (λ x. (is_at p x ≡ true) × (x ≡ d)) (λ x e. (is_there p x (ap place_of e ∙ h.1), e)) ds (some-Contains ds d h.0)))

-- ---- the places of decisions

abbrev HasDecision : List Decision → Place → Type 0
HasDecision ds p = (d : Decision) × Contains ds d × (place_of d ≡ p)

with_decision : (ds : List Decision) (p : Place) → Contains (places ds) p → HasDecision ds p
with_decision ds p c =
    let among = Contains-has place_total place_same (map place_of ds) p (sym (has-set_of place_total (map place_of ds) p) ∙ has-Contains place_total (places ds) p c) in
    let one = Any-some (λ d. place_of d ≡ p) ds (map-some (λ x. x ≡ p) place_of ds (some-Contains (map place_of ds) p among)) in
    (one.1, (one.0, one.2, one.3), one.4)

has_place : (ds : List Decision) (d : Decision) → Contains ds d → has place_cmp (place_of d) (places ds) ≡ true
has_place ds d c =
    let among = some-map (λ x. x ≡ place_of d) place_of ds (some-each (λ x. x ≡ d) (λ x. place_of x ≡ place_of d) (λ x e. ap place_of e) ds (some-Contains ds d c)) in
    has-set_of place_total (map place_of ds) (place_of d) ∙ has-Contains place_total (map place_of ds) (place_of d) (Contains-some (map place_of ds) (place_of d) among)

with_place : (ds : List Decision) (p : Place) → HasDecision ds p → Contains (places ds) p
with_place ds p h = subst (Contains (places ds)) h.2 (Contains-has place_total place_same (places ds) (place_of h.0) (has_place ds h.0 h.1))

-- ---- the source bytes of some decisions

has_sources : (ds : List Decision) (b : SourceByte) → has source_cmp b (sources_of ds) ≡ list_any (λ d. has source_cmp b d.sources) ds
has_sources [] b = refl
has_sources (d ∷ ds) b = has-union source_total d.sources (sources_of ds) b ∙ ap (λ (x : Bool). has source_cmp b d.sources || x) (has_sources ds b)

abbrev HasSource : List Decision → SourceByte → Type 0
HasSource ds b = (d : Decision) × Contains ds d × Contains d.sources b

sources_are : (ds : List Decision) (b : SourceByte) → Contains (sources_of ds) b ↔ HasSource ds b
sources_are ds b = (to, from) where
  to : Contains (sources_of ds) b → HasSource ds b
  to c =
      let one = Any-from_list_any (λ d. has source_cmp b d.sources) ds (sym (has_sources ds b) ∙ has-Contains source_total (sources_of ds) b c) in
      (one.1, (one.0, one.2, one.3), Contains-has source_total source_same one.1.sources b one.4)

  from : HasSource ds b → Contains (sources_of ds) b
  from (d, c, among) =
      Contains-has source_total source_same (sources_of ds) b (has_sources ds b ∙ list_any_at (λ d. has source_cmp b d.sources) ds c.0 d c.1
      (ap (λ (x : Decision). has source_cmp b x.sources) c.2 ∙ has-Contains source_total d.sources b among))

pub sources_ascend : (ds : List Decision) → Ascends source_cmp (sources_of ds)
sources_ascend [] = tt
sources_ascend (d ∷ ds) = Ascends-union source_total d.sources (sources_of ds) (sources_ascend ds)

-- ---- how many there are

abbrev total : (Place → ℕ) → List Place → ℕ
total f [] = 0
total f (p ∷ ps) = f p + total f ps

abbrev one_if : Bool → ℕ
one_if true = 1
one_if false = 0

count_more : (p : Place) (d : Decision) (ds : List Decision) → length (decided_there p (d ∷ ds)) ≡ one_if (is_at p d) + length (decided_there p ds)
count_more p d ds = by (is_at p d) where
  by : (b : Bool) → length (if b then d ∷ decided_there p ds else decided_there p ds) ≡ one_if b + length (decided_there p ds)
  by true = omega arith
  by false = omega arith

not_at : (d : Decision) (ps : List Place) → has place_cmp (place_of d) ps ≡ false → total (λ p. one_if (is_at p d)) ps ≡ 0
not_at d [] e = refl
not_at d (p ∷ ps) e = by (not_at d ps) (is_at p d) refl where
  by : (has place_cmp (place_of d) ps ≡ false → total (λ p. one_if (is_at p d)) ps ≡ 0) → (b : Bool) → is_at p d ≡ b → one_if b + total (λ p. one_if (is_at p d)) ps ≡ 0
  by ih true is =
      let same : eq_by_cmp place_cmp (place_of d) p ≡ true = ap (eq_by_cmp place_cmp (place_of d)) (sym (at_place p d is)) ∙ ap is_eq (tied_itself place_total (place_of d)) in
      true-false (sym (ap (λ (x : Bool). x || has place_cmp (place_of d) ps) same) ∙ e)
  by ih false is = let none = ih (rest (eq_by_cmp place_cmp (place_of d) p) (has place_cmp (place_of d) ps) e) in omega (arith, none)
    where
      rest : (a b : Bool) → (a || b) ≡ false → b ≡ false
      rest true b e = absurd cc
      rest false b e = e

-- each place once, and that of the decision among them
at_one : (d : Decision) (ps : List Place) → Ascends place_cmp ps → has place_cmp (place_of d) ps ≡ true → total (λ p. one_if (is_at p d)) ps ≡ 1
at_one d [] a e = absurd cc
at_one d (p ∷ ps) a e = by (at_one d ps a.1) (is_at p d) refl where
  by : (has place_cmp (place_of d) ps ≡ true → total (λ p. one_if (is_at p d)) ps ≡ 1) → (b : Bool) → is_at p d ≡ b → one_if b + total (λ p. one_if (is_at p d)) ps ≡ 1
  by ih true is =
      let below = IsBelow-tied place_total p (place_of d) ps (tied_by (place_cmp p (place_of d)) is) a.0 in
      let none = not_at d ps (none_below place_total (place_of d) ps below) in
      omega (arith, none)
  by ih false is = let one = ih (later (or_cases (eq_by_cmp place_cmp (place_of d) p) (has place_cmp (place_of d) ps) e)) in omega (arith, one)
    where
      later : (eq_by_cmp place_cmp (place_of d) p ≡ true) ⊎ (has place_cmp (place_of d) ps ≡ true) → has place_cmp (place_of d) ps ≡ true
      later (inl here) =
          let same = place_same (place_of d) p (tied_by (place_cmp (place_of d) p) here) in
          let yes = is_there p d same in
          absurd cc
      later (inr more) = more

joined : (f g h : Place → ℕ) (ps : List Place) → ((p : Place) → f p ≡ g p + h p) → total f ps ≡ total g ps + total h ps
joined f g h [] e = refl
joined f g h (p ∷ ps) e = omega (arith, e p, joined f g h ps e)

counted_once : (ds : List Decision) (ps : List Place) → Ascends place_cmp ps → AllByRecursion (λ d. has place_cmp (place_of d) ps ≡ true) ds → total (λ p. length (decided_there p ds)) ps ≡ length ds
counted_once [] ps a h = none ps where
  none : (ps : List Place) → total (λ p. 0) ps ≡ 0
  none [] = refl
  none (p ∷ ps) = let rest = none ps in omega (arith, rest)
counted_once (d ∷ ds) ps a h =
    let more = joined (λ p. length (decided_there p (d ∷ ds))) (λ p. one_if (is_at p d)) (λ p. length (decided_there p ds)) ps (λ p. count_more p d ds) in
    omega (arith, more, at_one d ps a h.0, counted_once ds ps a h.1)

-- ---- the lines

-- a place with its decisions
record IsDecided (ds : List Decision) (p : Place) : Type 0 where
  earliest : Decision
  later : List Decision
  there : decided_there p ds ≡ earliest ∷ later

decided_at_place : (ds : List Decision) (p : Place) → Contains (places ds) p → IsDecided ds p
decided_at_place ds p c = by (decided_there p ds) refl where
  some : HasDecision ds p
  some = with_decision ds p c

  by : (es : List Decision) → decided_there p ds ≡ es → IsDecided ds p
  by [] e = absurd (empty (subst (λ (xs : List Decision). Contains xs some.0) e ((decided_there_are ds p some.0).1 (some.1, some.2)))) where
    empty : Contains [] some.0 → ⊥
    empty c = omega (arith, c.1)
  by (d ∷ rest) e = record { earliest = d; later = rest; there = e }

module _ (ds : List Decision) where
  abbrev line_of : (p : Place) → IsDecided ds p → PlaceLine
  line_of p h = record { place = p; instr = h.earliest.instr; count = length (h.earliest ∷ h.later); first = h.earliest.time; sources = sources_of (h.earliest ∷ h.later) }

  abbrev lines_of : (ps : List Place) → AllByRecursion (IsDecided ds) ps → List PlaceLine
  lines_of [] h = []
  lines_of (p ∷ ps) h = line_of p h.0 ∷ lines_of ps h.1

  their_text : (ps : List Place) (h : AllByRecursion (IsDecided ds) ps) → flat_map (λ p. place_line p (decided_there p ds)) ps ≡ flat_map place_line_text (lines_of ps h)
  their_text [] h = refl
  their_text (p ∷ ps) h = ap₂ (λ (x y : List ℕ). x ++ y) (ap (place_line p) h.0.there) (their_text ps h.1)

  their_number : (ps : List Place) (h : AllByRecursion (IsDecided ds) ps) → length ps ≡ length (lines_of ps h)
  their_number [] h = refl
  their_number (p ∷ ps) h = ap suc (their_number ps h.1)

  their_places : (ps : List Place) (h : AllByRecursion (IsDecided ds) ps) → map (λ x. x.place) (lines_of ps h) ≡ ps
  their_places [] h = refl
  their_places (p ∷ ps) h = ap (λ (qs : List Place). p ∷ qs) (their_places ps h.1)

  their_counts : (ps : List Place) (h : AllByRecursion (IsDecided ds) ps) → sum_by (λ x. x.count) (lines_of ps h) ≡ total (λ p. length (decided_there p ds)) ps
  their_counts ps h = sym (is_sum_by counts (λ x. x.count) refl (λ x xs. refl) (lines_of ps h)) ∙ same ps h where
    counts : List PlaceLine → ℕ
    counts [] = 0
    counts (x ∷ xs) = x.count + counts xs

    same : (ps : List Place) (h : AllByRecursion (IsDecided ds) ps) → counts (lines_of ps h) ≡ total (λ p. length (decided_there p ds)) ps
    same [] h = refl
    same (p ∷ ps) h = ap₂ (λ (m n : ℕ). m + n) (ap length (sym h.0.there)) (same ps h.1)

  is_line : (p : Place) (h : IsDecided ds p) → IsLineOf ds (line_of p h)
  is_line p h = record {
    earliest = h.earliest;
    later = h.later;
    there = h.there;
    instr = refl;
    count = refl;
    first = refl;
    sources = λ b. subst (λ (es : List Decision). Contains (sources_of (h.earliest ∷ h.later)) b ↔ HasSource es b) (sym h.there) (sources_are (h.earliest ∷ h.later) b);
    ascending = sources_ascend (h.earliest ∷ h.later);
  }

  are_lines : (ps : List Place) (h : AllByRecursion (IsDecided ds) ps) → AllByRecursion (IsLineOf ds) (lines_of ps h)
  are_lines [] h = tt
  are_lines (p ∷ ps) h = (is_line p h.0, are_lines ps h.1)

  each_decided : (ps : List Place) → ((p : Place) → Some_in (λ q. q ≡ p) ps → Contains (places ds) p) → AllByRecursion (IsDecided ds) ps
  each_decided [] h = tt
  each_decided (p ∷ ps) h = (decided_at_place ds p (h p (inl refl)), each_decided ps (λ q k. h q (inr k)))

  each_placed : (es : List Decision) → ((d : Decision) → Some_in (λ e. e ≡ d) es → Contains ds d) → AllByRecursion (λ d. has place_cmp (place_of d) (places ds) ≡ true) es
  each_placed [] h = tt
  each_placed (e ∷ es) h = (has_place ds e (h e (inl refl)), each_placed es (λ d k. h d (inr k)))

pub texts_tell_decisions : TextsTellDecisions
texts_tell_decisions ds = record {
  lines = lines;
  is_text = ap₂ (λ (x : List ℕ) (n : ℕ). x ++ lines_end n) (their_text ds (places ds) all) (their_number ds (places ds) all);
  each = All-from_recursion (IsLineOf ds) lines (are_lines ds (places ds) all);
  places = λ p. (to p, from p);
  ascending = subst (Ascends place_cmp) (sym named) (Ascends-set_of place_total (map place_of ds));
  counted = their_counts ds (places ds) all
      ∙ counted_once ds (places ds) (Ascends-set_of place_total (map place_of ds)) (each_placed ds ds (λ d k. Contains-some ds d k));
}
  where
    all : AllByRecursion (IsDecided ds) (places ds)
    all = each_decided ds (places ds) (λ p k. Contains-some (places ds) p k)

    lines : List PlaceLine
    lines = lines_of ds (places ds) all

    named : map (λ x. x.place) lines ≡ places ds
    named = their_places ds (places ds) all

    to : (p : Place) → (x : PlaceLine) × Contains lines x × (x.place ≡ p) → HasDecision ds p
    to p h =
        let at_p = some-each (λ x. x ≡ h.0) (λ x. x.place ≡ p) (λ x e. ap (λ (z : PlaceLine). z.place) e ∙ h.2) lines (some-Contains lines h.0 h.1) in
        let among = some-map (λ q. q ≡ p) (λ (x : PlaceLine). x.place) lines at_p in
        with_decision ds p (subst (λ (qs : List Place). Contains qs p) named (Contains-some (map (λ (x : PlaceLine). x.place) lines) p among))

    from : (p : Place) → HasDecision ds p → (x : PlaceLine) × Contains lines x × (x.place ≡ p)
    from p h =
        let there = some-Contains (map (λ (x : PlaceLine). x.place) lines) p (subst (λ (qs : List Place). Contains qs p) (sym named) (with_place ds p h)) in
        let one = Any-some (λ x. x.place ≡ p) lines (map-some (λ q. q ≡ p) (λ (x : PlaceLine). x.place) lines there) in
        (one.1, (one.0, one.2, one.3), one.4)

-- ---- the decisions of a run, moment by moment

module _ (policy : Policy) (trace : List StepSeen) (d : Decision) where
  -- d is the decision of a location that decides at the moment
  record IsAt (m : Moment) : Type 0 where
    loc : Loc
    decides : Contains (decisions policy.rule m.state) loc
    is : d ≡ decision policy trace m loc
    has_source : is_some_byte d.sources ≡ true

  at_moment : (m : Moment) → Some_in (λ x. x ≡ d) (decided_at policy trace m) → IsAt m
  at_moment m h =
      let kept = filter-some (λ x. x ≡ d) (λ x. is_some_byte x.sources) (map (decision policy trace m) (decisions policy.rule m.state)) h in
      let of = map-some _ (decision policy trace m) (decisions policy.rule m.state) kept in
      let one = Any-some (λ l. (is_some_byte (decision policy trace m l).sources ≡ true) × (decision policy trace m l ≡ d)) (decisions policy.rule m.state) of in
      record { loc = one.1; decides = (one.0, one.2, one.3); is = sym one.4.1; has_source = ap (λ (x : Decision). is_some_byte x.sources) (sym one.4.1) ∙ one.4.0 }

  listed_at : (m : Moment) → IsAt m → Some_in (λ x. x ≡ d) (decided_at policy trace m)
  listed_at m h =
      let there = some-Contains (decisions policy.rule m.state) h.loc h.decides in
      let made = some-each (λ l. l ≡ h.loc) (λ l. (is_some_byte (decision policy trace m l).sources ≡ true) × (decision policy trace m l ≡ d))
      (λ l e. let same : decision policy trace m l ≡ d = ap (decision policy trace m) e ∙ sym h.is in (ap (λ (x : Decision). is_some_byte x.sources) same ∙ h.has_source, same))
      (decisions policy.rule m.state) there in
      some-filter (λ x. x ≡ d) (λ x. is_some_byte x.sources) (map (decision policy trace m) (decisions policy.rule m.state))
      (some-map (λ x. (is_some_byte x.sources ≡ true) × (x ≡ d)) (decision policy trace m) (decisions policy.rule m.state) made)

  record IsWithin (n : ℕ) (m : Moment) : Type 0 where
    time : ℕ
    below : time < n
    at : IsAt (moment_after time m)

  within : (n : ℕ) (m : Moment) → Some_in (λ x. x ≡ d) (decided_from policy trace n m) → IsWithin n m
  within zero m h = absurd h
  within (suc n) m h = by (within n (advance m)) (some-append (λ x. x ≡ d) (decided_at policy trace m) (decided_from policy trace n (advance m)) h) where
    by : (Some_in (λ x. x ≡ d) (decided_from policy trace n (advance m)) → IsWithin n (advance m))
        → Some_in (λ x. x ≡ d) (decided_at policy trace m) ⊎ Some_in (λ x. x ≡ d) (decided_from policy trace n (advance m)) → IsWithin (suc n) m
    by ih (inl h) = record { time = 0; below = omega arith; at = at_moment m h }
    by ih (inr h) = let later = ih h in let low = later.below in record { time = suc later.time; below = omega arith; at = later.at }

  listed_from : (t n : ℕ) (m : Moment) → t < n → IsAt (moment_after t m) → Some_in (λ x. x ≡ d) (decided_from policy trace n m)
  listed_from t zero m low at = absurd (omega arith)
  listed_from zero (suc n) m low at = some-left (λ x. x ≡ d) (decided_at policy trace m) (decided_from policy trace n (advance m)) (listed_at m at)
  listed_from (suc t) (suc n) m low at =
      some-right (λ x. x ≡ d) (decided_at policy trace m) (decided_from policy trace n (advance m)) (listed_from t n (advance m) (omega arith) at)

pub decided_are_decisions : DecidedAreDecisions
decided_are_decisions policy s log d = (to, from) where
  to : Contains (decided policy s log) d → IsDecision policy s log d
  to c =
      let w = within policy (trace s log) d (moments_seen log.end) (start s log) (some-Contains (decided policy s log) d c) in
      record { time = w.time; loc = w.at.loc; seen = w.below; decides = w.at.decides; is = w.at.is; has_source = w.at.has_source }

  from : IsDecision policy s log d → Contains (decided policy s log) d
  from h =
      Contains-some (decided policy s log) d (listed_from policy (trace s log) d h.time (moments_seen log.end) (start s log) h.seen
      (record { loc = h.loc; decides = h.decides; is = h.is; has_source = h.has_source }))
