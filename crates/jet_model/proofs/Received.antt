-- The source bytes of a trace are those that its log received.
use Rattle.std.proofs.Common.{◌≡◌, ℕ, zero, suc, ◌+◌, ◌-◌, ◌<◌, ◌≤◌, nat_eq, List, [], ◌∷◌, ◌++◌, Bool, true, false, refl, sym, ap, ap₂, subst, ◌∙◌, arith, map, length, inl, inr}
use Rattle.std.specs.Prelude.{◌⊎◌, Some, None, Option}
use Rattle.std.specs.List.{filter, flat_map, range_with_len, AllByRecursion}
use Rattle.std.specs.Option.{option_and_then}
use Rattle.std.specs.Cmp.{nat_cmp_is}
use Rattle.std.specs.declared.cmp.Ordering.TheVariants.{Less, Equal}
use Rattle.std.proofs.lemmas.List.Concat.{flat_map-cons}
use Rattle.std.proofs.lemmas.Bool.{eqb-true, eqb-false, cases_lt}
use Rattle.isa.specs.Machine.{State}
use Rattle.isa.specs.declared.CallKind.{CallKind}
use Rattle.isa.specs.declared.CallKind.TheVariants as kind
use Rattle.flow_model.specs.declared.SourceByte.{SourceByte}
use Rattle.flow_model.specs.declared.StepSeen.{StepSeen}
use Rattle.flow_model.specs.declared.CallSeen.{CallSeen}
use Rattle.flow_model.specs.Origins.{step_at}
use Rattle.flow_model.specs.Orders.{source_cmp}
use Rattle.flow_model.proofs.Orders.{source_total, source_same, source_cmp-channel}
use Rattle.lists.specs.Sets.{set_of, has, IsBelow, Ascends}
use Rattle.lists.proofs.Algebra.{Ascends-set_of, has-set_of, has-Contains, Contains-has, same_list, IsBelow-append}
use Rattle.lists.proofs.Filters.{filter-set_of}
use Rattle.lists.proofs.Tests.{same-tests}
use Rattle.log_model.specs.Logs.{Log, IsLog}
use Rattle.log_model.specs.Moved.{received}
use Rattle.report_model.specs.Query.{Query, has_source}
use Rattle.report_model.specs.Influence.{source_at, sources_of_call, sources_of_step, sources_of, chosen_sources}
use Rattle.report_model.proofs.Members.{some-append, Some_in, some-Contains, Contains-some, some-each, some-left, some-right, map-some, some-map, some-range}
use Rattle.report_model.proofs.Turned.{in_trace}
use Rattle.replay_model.specs.Run.{trace}
use Rattle.replay_model.specs.Comparison.{divergence}
use Rattle.replay_model.specs.Received.{IsReceived}
use Rattle.replay_model.proofs.Received.{reads_are_received, none_received}
use Rattle.jet_model.specs.Sources.{source_on, sources_on, received_sources}

-- ---- the order

by_offset : (c o p : ℕ) → o < p → source_cmp (source_on c o) (source_on c p) ≡ Less
by_offset c o p h = rw (sym (nat_cmp_is c c Equal refl), sym (nat_cmp_is o p Less h)) refl

below_offsets : (c o a n : ℕ) → o < a → IsBelow source_cmp (source_on c o) (map (source_on c) (range_with_len a n))
below_offsets c o a zero h = tt
below_offsets c o a (suc n) h = (by_offset c o a h, below_offsets c o (a + 1) n (omega (arith, h)))

offsets_ascend : (c a n : ℕ) → Ascends source_cmp (map (source_on c) (range_with_len a n))
offsets_ascend c a zero = tt
offsets_ascend c a (suc n) = (below_offsets c a (a + 1) n (omega arith), offsets_ascend c (a + 1) n)

ascends_append : (xs ys : List SourceByte) → Ascends source_cmp xs → Ascends source_cmp ys → AllByRecursion (λ x. IsBelow source_cmp x ys) xs → Ascends source_cmp (xs ++ ys)
ascends_append [] ys h k below = k
ascends_append (x ∷ xs) ys h k below = (IsBelow-append source_total x xs ys h.0 below.0, ascends_append xs ys h.1 k below.1)

module _ (count : ℕ → ℕ) where
  abbrev block : ℕ → List SourceByte
  block c = sources_on c (count c)

  abbrev blocks : ℕ → ℕ → List SourceByte
  blocks a n = flat_map block (range_with_len a n)

  blocks-cons : (a n : ℕ) → blocks a (suc n) ≡ block a ++ blocks (a + 1) n
  blocks-cons a n = flat_map-cons block a (range_with_len (a + 1) n)

  below_block : (x : SourceByte) (c a n : ℕ) → x.channel < c → IsBelow source_cmp x (map (source_on c) (range_with_len a n))
  below_block x c a zero h = tt
  below_block x c a (suc n) h = (source_cmp-channel x (source_on c a) h, below_block x c (a + 1) n h)

  below_blocks : (x : SourceByte) (a n : ℕ) → x.channel < a → IsBelow source_cmp x (blocks a n)
  below_blocks x a zero h = tt
  below_blocks x a (suc n) h = subst (IsBelow source_cmp x) (sym (blocks-cons a n)) (IsBelow-append source_total x (block a) (blocks (a + 1) n) (below_block x a 0 (count a) h) (below_blocks x (a + 1) n (omega (arith, h))))

  each_below : (c b n d m : ℕ) → c < b → AllByRecursion (λ x. IsBelow source_cmp x (blocks b n)) (map (source_on c) (range_with_len d m))
  each_below c b n d zero h = tt
  each_below c b n d (suc m) h = (below_blocks (source_on c d) b n h, each_below c b n (d + 1) m h)

  blocks_ascend : (a n : ℕ) → Ascends source_cmp (blocks a n)
  blocks_ascend a zero = tt
  blocks_ascend a (suc n) = subst (Ascends source_cmp) (sym (blocks-cons a n))
      (ascends_append (block a) (blocks (a + 1) n) (offsets_ascend a 0 (count a)) (blocks_ascend (a + 1) n) (each_below a (a + 1) n 0 (count a) (omega arith)))

  -- ---- the members

  from_offsets : (c o x a n : ℕ) → Some_in (λ i. source_on c i ≡ source_on x o) (range_with_len a n) → (c ≡ x) × (o < a + n)
  from_offsets c o x a zero h = absurd h
  from_offsets c o x a (suc n) (inl e) = let p = ap (λ (b : SourceByte). b.channel) e in let q = ap (λ (b : SourceByte). b.offset) e in (p, omega (arith, q))
  from_offsets c o x a (suc n) (inr h) = let r = from_offsets c o x (a + 1) n h in (r.0, omega (arith, r.1))

  from_blocks : (c o a n : ℕ) → Some_in (λ y. y ≡ source_on c o) (blocks a n) → (c < a + n) × (o < count c)
  from_blocks c o a zero h = absurd h
  from_blocks c o a (suc n) h = by (some-append (λ y. y ≡ source_on c o) (block a) (blocks (a + 1) n) (subst (Some_in (λ y. y ≡ source_on c o)) (blocks-cons a n) h)) (from_blocks c o (a + 1) n) where
    by : Some_in (λ y. y ≡ source_on c o) (block a) ⊎ Some_in (λ y. y ≡ source_on c o) (blocks (a + 1) n) → (Some_in (λ y. y ≡ source_on c o) (blocks (a + 1) n) → (c < a + 1 + n) × (o < count c)) → (c < a + suc n) × (o < count c)
    by (inl g) rest =
        let r = from_offsets a o c 0 (count a) (map-some (λ y. y ≡ source_on c o) (source_on a) (range_with_len 0 (count a)) g) in
        (omega (arith, r.0), subst (λ (k : ℕ). o < count k) r.0 (omega (arith, r.1)))
    by (inr g) rest = let r = rest g in (omega (arith, r.0), r.1)

  in_block : (c o : ℕ) → o < count c → Some_in (λ y. y ≡ source_on c o) (block c)
  in_block c o h = some-map (λ y. y ≡ source_on c o) (source_on c) (range_with_len 0 (count c)) (some-each _ (λ i. source_on c i ≡ source_on c o) (λ i e. ap (source_on c) e) (range_with_len 0 (count c)) (some-range 0 (count c) o (omega arith) (omega (arith, h))))

  in_blocks : (c o a n : ℕ) → a ≤ c → c < a + n → o < count c → Some_in (λ y. y ≡ source_on c o) (blocks a n)
  in_blocks c o a zero low high h = absurd (omega (arith, low, high))
  in_blocks c o a (suc n) low high h = subst (Some_in (λ y. y ≡ source_on c o)) (sym (blocks-cons a n)) (by (in_blocks c o (a + 1) n) (nat_eq a c) refl) where
    by : (a + 1 ≤ c → c < a + 1 + n → o < count c → Some_in (λ y. y ≡ source_on c o) (blocks (a + 1) n)) → (b : Bool) → nat_eq a c ≡ b → Some_in (λ y. y ≡ source_on c o) (block a ++ blocks (a + 1) n)
    by rest true e = let same : c ≡ a = sym (eqb-true a c e) in some-left _ (block a) (blocks (a + 1) n) (subst (λ (k : ℕ). Some_in (λ y. y ≡ source_on c o) (block k)) same (in_block c o h))
    by rest false e = some-right _ (block a) (blocks (a + 1) n) (rest (omega (arith, low, eqb-false a c e)) (omega (arith, high)) h)

-- ---- the source bytes of a trace

record IsReadAt (trace : List StepSeen) (b : SourceByte) (n : ℕ) : Type 0 where
  step : StepSeen
  is_step : step_at trace n ≡ Some step
  listed : Some_in (λ c. c ≡ b) (sources_of_step step.call)

-- a source byte of the trace is one of a step
from_trace : (trace : List StepSeen) (b : SourceByte) → Some_in (λ c. c ≡ b) (sources_of trace) → (n : ℕ) × IsReadAt trace b n
from_trace [] b h = absurd h
from_trace (s ∷ ss) b h = by (some-append (λ c. c ≡ b) (sources_of_step s.call) (sources_of ss) (subst (Some_in (λ c. c ≡ b)) (flat_map-cons (λ (t : StepSeen). sources_of_step t.call) s ss) h)) (from_trace ss b) where
  by : Some_in (λ c. c ≡ b) (sources_of_step s.call) ⊎ Some_in (λ c. c ≡ b) (sources_of ss) → (Some_in (λ c. c ≡ b) (sources_of ss) → (n : ℕ) × IsReadAt ss b n) → (n : ℕ) × IsReadAt (s ∷ ss) b n
  by (inl g) rest = (0, record { step = s; is_step = refl; listed = g })
  by (inr g) rest = let r = rest g in (suc r.0, record { step = r.1.step; is_step = r.1.is_step; listed = r.1.listed })

-- the byte is one of a read
record IsReadBy (call : CallSeen) (b : SourceByte) : Type 0 where
  reads : call.kind ≡ kind.Read
  on : call.channel ≡ b.channel
  from : call.offset ≤ b.offset
  to : b.offset < call.offset + call.length

from_range : (call : CallSeen) (b : SourceByte) (a n : ℕ) → Some_in (λ i. source_at call i ≡ b) (range_with_len a n) → (call.channel ≡ b.channel) × (call.offset + a ≤ b.offset) × (b.offset < call.offset + a + n)
from_range call b a zero h = absurd h
from_range call b a (suc n) (inl e) = let p = ap (λ (c : SourceByte). c.offset) e in (ap (λ (c : SourceByte). c.channel) e, omega (arith, p), omega (arith, p))
from_range call b a (suc n) (inr h) = let r = from_range call b (a + 1) n h in (r.0, omega (arith, r.1), omega (arith, r.2))

from_call : (call : CallSeen) (k : CallKind) (b : SourceByte) → call.kind ≡ k → Some_in (λ c. c ≡ b) (sources_of_call call k) → IsReadBy call b
from_call call kind.Read b e h =
    let r = from_range call b 0 call.length (map-some (λ c. c ≡ b) (source_at call) (range_with_len 0 call.length) h) in
    record { reads = e; on = r.0; from = omega (arith, r.1); to = omega (arith, r.2) }
from_call call k b e h = absurd h

in_call : (call : CallSeen) (k : CallKind) (b : SourceByte) → call.kind ≡ k → IsReadBy call b → Some_in (λ c. c ≡ b) (sources_of_call call k)
in_call call kind.Read b e r =
    let i = b.offset - call.offset in
    let there : call.offset + i ≡ b.offset = omega (arith, r.from) in
    some-map (λ c. c ≡ b) (source_at call) (range_with_len 0 call.length)
    (some-each _ (λ j. source_at call j ≡ b) (λ j same. ap (source_at call) same ∙ ap₂ (λ (c o : ℕ). record { channel = c; offset = o }) r.on there) (range_with_len 0 call.length)
    (some-range 0 call.length i (omega arith) (omega (arith, r.from, r.to))))
in_call call k b e r = let f = sym e ∙ r.reads in cc

by_call : (trace : List StepSeen) (b : SourceByte) (n : ℕ) (step : StepSeen) (call : Option CallSeen) → step_at trace n ≡ Some step → step.call ≡ call → Some_in (λ c. c ≡ b) (sources_of_step call) → IsReceived trace b.channel b.offset
by_call trace b n step None s e h = absurd h
by_call trace b n step (Some call) s e h =
    let r = from_call call call.kind b refl h in
    (n, record { call = call; there = ap (option_and_then (λ (t : StepSeen). t.call)) s ∙ e; reads = r.reads; on = r.on; from = r.from; to = r.to })

received-from : (trace : List StepSeen) (b : SourceByte) → Some_in (λ c. c ≡ b) (sources_of trace) → IsReceived trace b.channel b.offset
received-from trace b h = let t = from_trace trace b h in by_call trace b t.0 t.1.step t.1.step.call t.1.is_step refl t.1.listed

step_of_call : (trace : List StepSeen) (n : ℕ) (call : CallSeen) (o : Option StepSeen) → step_at trace n ≡ o → option_and_then (λ (t : StepSeen). t.call) o ≡ Some call → (step : StepSeen) × (step_at trace n ≡ Some step) × (step.call ≡ Some call)
step_of_call trace n call None e h = cc
step_of_call trace n call (Some step) e h = (step, e, h)

received-in : (trace : List StepSeen) (b : SourceByte) → IsReceived trace b.channel b.offset → Some_in (λ c. c ≡ b) (sources_of trace)
received-in trace b r =
    let s = step_of_call trace r.0 r.1.call (step_at trace r.0) refl r.1.there in
    let listed = in_call r.1.call r.1.call.kind b refl (record { reads = r.1.reads; on = r.1.on; from = r.1.from; to = r.1.to }) in
    in_trace (λ c. c ≡ b) trace r.0 s.0 s.1 (subst (λ (o : Option CallSeen). Some_in (λ c. c ≡ b) (sources_of_step o)) (sym s.2) listed)

-- ---- the sources of a fitting log

module _ (start : State) (log : Log) (is_log : IsLog log) (agrees : divergence start log ≡ None) where
  abbrev steps_of : List StepSeen
  steps_of = trace start log

  abbrev count_of : ℕ → ℕ
  count_of c = length (received c log.records)

  channel_below : (c o : ℕ) → o < count_of c → c < 16
  channel_below c o h = elim (cases_lt c 16) [
    | inl less ↦ less
    | inr more ↦ absurd (omega (arith, ap length (none_received start log is_log agrees c (omega (arith, more, is_log.inputs))), h))
  ]

  to_log : (b : SourceByte) → has source_cmp b (set_of source_cmp (sources_of steps_of)) ≡ true → has source_cmp b (received_sources log) ≡ true
  to_log b h =
      let there = Contains-has source_total source_same (sources_of steps_of) b (sym (has-set_of source_total (sources_of steps_of) b) ∙ h) in
      let below = (reads_are_received start log is_log agrees b.channel b.offset).0 (received-from steps_of b (some-Contains (sources_of steps_of) b there)) in
      has-Contains source_total (received_sources log) b (Contains-some (received_sources log) b (in_blocks count_of b.channel b.offset 0 16 (omega arith) (channel_below b.channel b.offset below) below))

  from_log : (b : SourceByte) → has source_cmp b (received_sources log) ≡ true → has source_cmp b (set_of source_cmp (sources_of steps_of)) ≡ true
  from_log b h =
      let there = from_blocks count_of b.channel b.offset 0 16 (some-Contains (received_sources log) b (Contains-has source_total source_same (received_sources log) b h)) in
      let read = (reads_are_received start log is_log agrees b.channel b.offset).1 there.1 in
      has-set_of source_total (sources_of steps_of) b ∙ has-Contains source_total (sources_of steps_of) b (Contains-some (sources_of steps_of) b (received-in steps_of b read))

  all_received : set_of source_cmp (sources_of steps_of) ≡ received_sources log
  all_received = same_list source_total source_same (set_of source_cmp (sources_of steps_of)) (received_sources log) (Ascends-set_of source_total (sources_of steps_of)) (blocks_ascend count_of 0 16)
      (λ b. same-tests _ _ (to_log b) (from_log b))

pub sources_are_received : (q : Query) (start : State) (log : Log) → IsLog log → divergence start log ≡ None → chosen_sources q (trace start log) ≡ filter (has_source q) (received_sources log)
sources_are_received q start log is_log agrees =
    sym (filter-set_of source_total (has_source q) (λ x y e. ap (has_source q) (source_same x y e)) (sources_of (trace start log))) ∙ ap (filter (has_source q)) (all_received start log is_log agrees)
