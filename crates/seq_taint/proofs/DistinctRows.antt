-- No output byte stands twice in the rows of a trace whose writes follow each other on each channel, and no point does.
use Rattle.std.proofs.Common.{◌≡◌, ℕ, zero, suc, ◌+◌, ◌<◌, ◌≤◌, List, [], ◌∷◌, ◌++◌, nat_eq, map, subst, append_assoc, append-nil, ap, sym, refl, ◌∙◌, Bool, true, false, cond, arith}
use Rattle.std.specs.Prelude.{◌==◌, Option, Some, None}
use Rattle.std.specs.List.{filter, range_with_len, AllByRecursion}
use Rattle.std.specs.Cmp.{tied_itself}
use Rattle.std.specs.declared.cmp.Ordering.TheVariants.{Less, Equal}
use Rattle.std.proofs.lemmas.Bool.{eqb-true}
use Rattle.isa.specs.declared.CallKind.{CallKind}
use Rattle.isa.specs.declared.CallKind.TheVariants as kind
use Rattle.flow_model.specs.declared.StepSeen.{StepSeen}
use Rattle.flow_model.specs.declared.CallSeen.{CallSeen}
use Rattle.flow_model.specs.declared.SinkByte.{SinkByte}
use Rattle.flow_model.specs.declared.InnerSink.{InnerSink}
use Rattle.flow_model.specs.declared.SinkPoint.TheVariants.{Out, At}
use Rattle.flow_model.specs.Orders.{inner_cmp}
use Rattle.flow_model.proofs.Orders.{inner_total}
use Rattle.lists.specs.Sets.{IsBelow, Ascends}
use Rattle.lists.proofs.Filters.{Ascends-filter}
use Rattle.lists.proofs.Lists.{all-append}
use Rattle.replay_model.specs.Offsets.{call_at, AreWritesApart}
use Rattle.report_model.specs.Query.{Query, has_sink}
use Rattle.report_model.specs.Rows.{Sink, row, sink_at, point_sink, points_at, sinks_of_call, sinks_of_step, sinks_from, rows_as_written, at_time}
use Rattle.sink_collect.specs.Distinct.{IsApartFrom, AreDistinct}

-- the names of output bytes and points, each unlike those after it
abbrev IsNewFor : Sink → List Sink → Type 0
IsNewFor s ss = AllByRecursion (λ r. s.name ≡ r.name → ⊥) ss

abbrev HaveNames : List Sink → Type 0
HaveNames [] = Unit {0}
HaveNames (s ∷ ss) = IsNewFor s ss × HaveNames ss

-- an output byte of the channel c lies at the offset o or above
abbrev IsAbove : ℕ → ℕ → Sink → Type 0
IsAbove c o s = (b : SinkByte) → s.name ≡ Out b → c ≡ b.channel → o ≤ b.offset

-- a point is later than t
abbrev IsLater : ℕ → Sink → Type 0
IsLater t s = (p : InnerSink) → s.name ≡ At p → t < p.time

-- a test keeps some of those of which P holds
all-kept : {X : Type 0} (P : X → Type 0) (t : X → Bool) (xs : List X) → AllByRecursion P xs → AllByRecursion P (filter t xs)
all-kept P t [] a = tt
all-kept P t (x ∷ xs) a = by (t x) (all-kept P t xs a.1) where
  by : (b : Bool) → AllByRecursion P (filter t xs) → AllByRecursion P (cond b (x ∷ filter t xs) (filter t xs))
  by true ih = (a.0, ih)
  by false ih = ih

-- ---- the bytes of one write

bytes_above : (t : ℕ) (call : CallSeen) (c o m n : ℕ) → (c ≡ call.channel → o ≤ call.offset) → AllByRecursion (IsAbove c o) (map (sink_at t call) (range_with_len m n))
bytes_above t call c o m zero h = tt
bytes_above t call c o m (suc n) h = (above, bytes_above t call c o (m + 1) n h) where
  above : IsAbove c o (sink_at t call m)
  above b e same =
      let channel : call.channel ≡ b.channel = cc in
      let offset : call.offset + m ≡ b.offset = cc in
      let k = h (same ∙ sym channel) in omega (arith, offset, k)

-- a byte below an offset is none of those at the offset or above
new_for : (s : Sink) (b : SinkByte) (o : ℕ) (rs : List Sink) → s.name ≡ Out b → b.offset < o → AllByRecursion (IsAbove b.channel o) rs → IsNewFor s rs
new_for s b o [] e h a = tt
new_for s b o (r ∷ rs) e h a = (λ same. let at = a.0 b (sym same ∙ e) refl in absurd (omega (arith, at, h)), new_for s b o rs e h a.1)

later_bytes : (t : ℕ) (call : CallSeen) (i m n : ℕ) → i < m → IsNewFor (sink_at t call i) (map (sink_at t call) (range_with_len m n))
later_bytes t call i m zero h = tt
later_bytes t call i m (suc n) h =
    (apart, later_bytes t call i (m + 1) n (omega (arith, h))) where
      byte : ℕ → SinkByte
      byte k = record { channel = call.channel; offset = call.offset + k }

      apart : Out (byte i) ≡ Out (byte m) → ⊥
      apart e =
          let same : byte i ≡ byte m = cc in
          let equal : call.offset + i ≡ call.offset + m = ap (λ (b : SinkByte). b.offset) same in
          absurd (omega (arith, equal, h))

bytes_named : (t : ℕ) (call : CallSeen) (m n : ℕ) (rest : List Sink) → m + n ≤ call.length → (0 < call.length → AllByRecursion (IsAbove call.channel (call.offset + call.length)) rest) → HaveNames rest
    → HaveNames (map (sink_at t call) (range_with_len m n) ++ rest)
bytes_named t call m zero rest h a d = d
bytes_named t call m (suc n) rest h a d =
    let first = sink_at t call m in (
      all-append _ (map (sink_at t call) (range_with_len (m + 1) n)) rest (later_bytes t call m (m + 1) n (omega arith))
          (new_for first (record { channel = call.channel; offset = call.offset + m }) (call.offset + call.length) rest refl (omega arith) (a (omega arith))),
      bytes_named t call (m + 1) n rest (omega arith) a d,
    )

-- ---- the bytes of a step

by_above : (t : ℕ) (call : CallSeen) (k : CallKind) (c o : ℕ) → call.kind ≡ k → (call.kind ≡ kind.Write → 0 < call.length → c ≡ call.channel → o ≤ call.offset) → AllByRecursion (IsAbove c o) (sinks_of_call t call k)
by_above t call kind.Write c o e h = by call.length refl where
  by : (n : ℕ) → call.length ≡ n → AllByRecursion (IsAbove c o) (map (sink_at t call) (range_with_len 0 n))
  by zero f = tt
  by (suc n) f = bytes_above t call c o 0 (suc n) (h e (omega arith))
by_above t call kind.Read c o e h = tt
by_above t call kind.Clock c o e h = tt
by_above t call kind.Other c o e h = tt
by_above t call kind.Exit c o e h = tt

in_above : (t : ℕ) (call : Option CallSeen) (c o : ℕ) → ((b : CallSeen) → call ≡ Some b → b.kind ≡ kind.Write → 0 < b.length → c ≡ b.channel → o ≤ b.offset) → AllByRecursion (IsAbove c o) (sinks_of_step t call)
in_above t None c o h = tt
in_above t (Some call) c o h = by_above t call call.kind c o refl (h call refl)

by_named : (t : ℕ) (call : CallSeen) (k : CallKind) (rest : List Sink) → call.kind ≡ k → (call.kind ≡ kind.Write → 0 < call.length → AllByRecursion (IsAbove call.channel (call.offset + call.length)) rest) → HaveNames rest
    → HaveNames (sinks_of_call t call k ++ rest)
by_named t call kind.Write rest e a d = bytes_named t call 0 call.length rest (omega arith) (a e) d
by_named t call kind.Read rest e a d = d
by_named t call kind.Clock rest e a d = d
by_named t call kind.Other rest e a d = d
by_named t call kind.Exit rest e a d = d

in_named : (t : ℕ) (call : Option CallSeen) (rest : List Sink)
    → ((a : CallSeen) → call ≡ Some a → a.kind ≡ kind.Write → 0 < a.length → AllByRecursion (IsAbove a.channel (a.offset + a.length)) rest) → HaveNames rest
    → HaveNames (sinks_of_step t call ++ rest)
in_named t None rest a d = d
in_named t (Some call) rest a d = by_named t call call.kind rest refl (a call refl) d

bytes_later : (t u : ℕ) (call : CallSeen) (is : List ℕ) → AllByRecursion (IsLater t) (map (sink_at u call) is)
bytes_later t u call [] = tt
bytes_later t u call (i ∷ is) = (λ p e. cc, bytes_later t u call is)

by_later : (t u : ℕ) (call : CallSeen) (k : CallKind) → AllByRecursion (IsLater t) (sinks_of_call u call k)
by_later t u call kind.Write = bytes_later t u call (range_with_len 0 call.length)
by_later t u call kind.Read = tt
by_later t u call kind.Clock = tt
by_later t u call kind.Other = tt
by_later t u call kind.Exit = tt

in_later : (t u : ℕ) (call : Option CallSeen) → AllByRecursion (IsLater t) (sinks_of_step u call)
in_later t u None = tt
in_later t u (Some call) = by_later t u call call.kind

-- of the bytes of a step a test keeps some
kept_first : (t : Sink → Bool) (ss rest : List Sink) → HaveNames (ss ++ rest) → HaveNames (filter t ss ++ rest)
kept_first t [] rest a = a
kept_first t (s ∷ ss) rest a = by (t s) (kept_first t ss rest a.1) where
  kept_new : (xs : List Sink) → IsNewFor s (xs ++ rest) → IsNewFor s (filter t xs ++ rest)
  kept_new [] n = n
  kept_new (x ∷ xs) n = one (t x) (kept_new xs n.1) where
    one : (b : Bool) → IsNewFor s (filter t xs ++ rest) → IsNewFor s (cond b (x ∷ filter t xs) (filter t xs) ++ rest)
    one true ih = (n.0, ih)
    one false ih = ih

  by : (b : Bool) → HaveNames (filter t ss ++ rest) → HaveNames (cond b (s ∷ filter t ss) (filter t ss) ++ rest)
  by true ih = (kept_new ss a.0, ih)
  by false ih = ih

-- ---- the points at a time

module _ (t : ℕ) where
  points_above : (c o : ℕ) (points : List InnerSink) → AllByRecursion (IsAbove c o) (map point_sink points)
  points_above c o [] = tt
  points_above c o (p ∷ ps) = (λ b e. cc, points_above c o ps)

  points_later : (u : ℕ) → t < u → (points : List InnerSink) → AllByRecursion (IsLater t) (map point_sink (at_time u points))
  points_later u l [] = tt
  points_later u l (p ∷ ps) = by (nat_eq p.time u) refl (points_later u l ps) where
    by : (b : Bool) → nat_eq p.time u ≡ b → AllByRecursion (IsLater t) (map point_sink (at_time u ps)) → AllByRecursion (IsLater t) (map point_sink (cond b (p ∷ at_time u ps) (at_time u ps)))
    by true e ih = ((λ r f. let same : p ≡ r = cc in let now = eqb-true p.time u e in let times : p.time ≡ r.time = ap (λ (x : InnerSink). x.time) same in omega (arith, now, times, l)), ih)
    by false e ih = ih

  -- a point is none of those above it, and none of the later ones
  new_point : (p : InnerSink) (ps : List InnerSink) → IsBelow inner_cmp p ps → IsNewFor (point_sink p) (map point_sink ps)
  new_point p [] b = tt
  new_point p (q ∷ qs) b = (apart, new_point p qs b.1) where
    apart : At p ≡ At q → ⊥
    apart e =
        let same : p ≡ q = cc in
        let tie : inner_cmp p q ≡ Equal = ap (inner_cmp p) (sym same) ∙ tied_itself inner_total p in
        let no : Less ≡ Equal = sym b.0 ∙ tie in cc

  new_for_later : (p : InnerSink) (rest : List Sink) → p.time ≤ t → AllByRecursion (IsLater t) rest → IsNewFor (point_sink p) rest
  new_for_later p [] l a = tt
  new_for_later p (r ∷ rs) l a = (λ same. let after = a.0 p (sym same) in absurd (omega (arith, after, l)), new_for_later p rs l a.1)

  points_named : (points : List InnerSink) (rest : List Sink) → Ascends inner_cmp points → AllByRecursion (λ p. p.time ≤ t) points → AllByRecursion (IsLater t) rest → HaveNames rest → HaveNames (map point_sink points ++ rest)
  points_named [] rest a h l d = d
  points_named (p ∷ ps) rest a h l d =
      (all-append _ (map point_sink ps) rest (new_point p ps a.0) (new_for_later p rest h.0 l), points_named ps rest a.1 h.1 l d)

  now : (points : List InnerSink) → AllByRecursion (λ p. p.time ≤ t) (at_time t points)
  now [] = tt
  now (p ∷ ps) = by (nat_eq p.time t) refl (now ps) where
    by : (b : Bool) → nat_eq p.time t ≡ b → AllByRecursion (λ q. q.time ≤ t) (at_time t ps) → AllByRecursion (λ q. q.time ≤ t) (cond b (p ∷ at_time t ps) (at_time t ps))
    by true e ih = (let same = eqb-true p.time t e in omega (arith, same), ih)
    by false e ih = ih

  due_named : (points : List InnerSink) (rest : List Sink) → Ascends inner_cmp points → AllByRecursion (IsLater t) rest → HaveNames rest → HaveNames (map point_sink (at_time t points) ++ rest)
  due_named points rest a l d = points_named (at_time t points) rest (Ascends-filter inner_cmp (λ p. p.time == t) points a) (now points) l d

-- ---- the sinks of a trace

module _ (q : Query) where
  from_above : (t : ℕ) (ss : List StepSeen) (c o : ℕ) → ((k : ℕ) (b : CallSeen) → call_at ss k ≡ Some b → b.kind ≡ kind.Write → 0 < b.length → c ≡ b.channel → o ≤ b.offset)
      → AllByRecursion (IsAbove c o) (sinks_from q t ss)
  from_above t [] c o h = points_above t c o (at_time t q.points)
  from_above t (s ∷ ss) c o h =
      let bytes = filter (λ x. has_sink q x.name) (sinks_of_step t s.call) in
      all-append (IsAbove c o) (points_at q t ++ bytes) (sinks_from q (t + 1) ss)
      (all-append (IsAbove c o) (points_at q t) bytes (points_above t c o (at_time t q.points)) (all-kept (IsAbove c o) (λ x. has_sink q x.name) (sinks_of_step t s.call) (in_above t s.call c o (h 0))))
      (from_above (t + 1) ss c o (λ k. h (suc k)))

  from_later : (t u : ℕ) (ss : List StepSeen) → t < u → AllByRecursion (IsLater t) (sinks_from q u ss)
  from_later t u [] l = points_later t u l q.points
  from_later t u (s ∷ ss) l =
      let bytes = filter (λ x. has_sink q x.name) (sinks_of_step u s.call) in
      all-append (IsLater t) (points_at q u ++ bytes) (sinks_from q (u + 1) ss)
      (all-append (IsLater t) (points_at q u) bytes (points_later t u l q.points) (all-kept (IsLater t) (λ x. has_sink q x.name) (sinks_of_step u s.call) (in_later t u s.call)))
      (from_later t (u + 1) ss (omega (arith, l)))

  from_named : (t : ℕ) (ss : List StepSeen) → Ascends inner_cmp q.points → AreWritesApart ss → HaveNames (sinks_from q t ss)
  from_named t [] o h = subst HaveNames (append-nil (points_at q t)) (due_named t q.points [] o tt tt)
  from_named t (s ∷ ss) o h =
      let bytes = filter (λ x. has_sink q x.name) (sinks_of_step t s.call) in
      let rest = sinks_from q (t + 1) ss in
      let named = kept_first (λ x. has_sink q x.name) (sinks_of_step t s.call) rest (in_named t s.call rest
      (λ a at w l. from_above (t + 1) ss a.channel (a.offset + a.length) (λ k b bt v m e. h.follow 0 (suc k) a b (omega arith) at bt w v l m e))
      (from_named (t + 1) ss o (record { follow = λ j k a b less. h.follow (suc j) (suc k) a b (omega (arith, less)) }))) in
      let later = all-append (IsLater t) bytes rest (all-kept (IsLater t) (λ x. has_sink q x.name) (sinks_of_step t s.call) (in_later t t s.call)) (from_later t (t + 1) ss (omega arith)) in
      subst HaveNames (sym (append_assoc (points_at q t) bytes rest)) (due_named t q.points (bytes ++ rest) o later named)

-- ---- the rows

rows_apart : (q : Query) (trace : List StepSeen) (s : Sink) (ss : List Sink) → IsNewFor s ss → IsApartFrom (row q trace s) (map (row q trace) ss)
rows_apart q trace s [] a = tt
rows_apart q trace s (r ∷ ss) a = (a.0, rows_apart q trace s ss a.1)

rows_distinct : (q : Query) (trace : List StepSeen) (ss : List Sink) → HaveNames ss → AreDistinct (map (row q trace) ss)
rows_distinct q trace [] a = tt
rows_distinct q trace (s ∷ ss) a = (rows_apart q trace s ss a.0, rows_distinct q trace ss a.1)

pub distinct_rows : (q : Query) (trace : List StepSeen) → Ascends inner_cmp q.points → AreWritesApart trace → AreDistinct (rows_as_written q trace)
distinct_rows q trace o h = rows_distinct q trace (sinks_from q 0 trace) (from_named q 0 trace o h)
