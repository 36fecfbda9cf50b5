-- What follows for a moment where nothing differs. Crates above cite these lemmas.
use Rattle.std.proofs.Common.{◌≡◌, ℕ, zero, suc, ◌+◌, ◌<◌, ◌≤◌, Bool, true, false, List, [], ◌∷◌, ◌++◌, pos, Option, Some, None, refl, arith, ap, sym, ◌∙◌}
use Rattle.std.specs.Prelude.{◌==◌, if◌then◌else◌}
use Rattle.std.specs.List.{AllByRecursion}
use Rattle.std.specs.Ordering.{int_eq}
use Rattle.std.proofs.lemmas.Bool.{lt-ltb, le-ltb}
use Rattle.std.proofs.lemmas.Bool.Decides.{Decides-int_eq, not_from_Decides}
use Rattle.isa.specs.Machine.{State, Outcome, Retired, Called, Trapped, next}
use Rattle.isa.specs.declared.Call.{Call}
use Rattle.isa.specs.declared.CallKind.{CallKind}
use Rattle.isa.specs.declared.CallKind.TheVariants as kind
use Rattle.log_model.specs.declared.CallRecord.{CallRecord}
use Rattle.log_model.specs.declared.CallRecord.TheVariants.{Read, Write, Clock, Other}
use Rattle.log_model.specs.declared.RunEnd.{RunEnd}
use Rattle.log_model.specs.declared.RunEnd.TheVariants.{Exit, Trap, Limit}
use Rattle.log_model.specs.Logs.{Log, at_of, end_at}
use Rattle.replay_model.specs.declared.Field.TheVariants as field
use Rattle.replay_model.specs.declared.Divergence.{Divergence}
use Rattle.replay_model.specs.Run.{Moment, start, advance, moment_after}
use Rattle.replay_model.specs.Comparison.{Compared, compared, first_different, Expected, PlainStep, CallOf, EndOf, expected, kept_event, call_event, seen_event, fields, trap_kind, differing, difference_at, difference, or_later, divergence_from, divergence, at_step}

-- ---- a list of comparisons

tested : (b : Bool) (rest : Option Compared) (c : Compared) → (if b then rest else Some c) ≡ None → (b ≡ true) × (rest ≡ None)
tested true rest c e = (refl, e)
tested false rest c e = (cc, cc)

-- where nothing differs, the first doesn't, and nothing after it does
-- a field that doesn't differ is passed over
pub first_different-same : (c : Compared) (cs : List Compared) → c.kept ≡ c.seen → first_different (c ∷ cs) ≡ first_different cs
first_different-same c cs e = ap (λ (b : Bool). if b then first_different cs else Some c) ((Decides-int_eq c.kept c.seen).1 e)

pub first_agrees : (c : Compared) (cs : List Compared) → first_different (c ∷ cs) ≡ None → (c.kept ≡ c.seen) × (first_different cs ≡ None)
first_agrees c cs e =
    let both = tested (int_eq c.kept c.seen) (first_different cs) c e in
    ((Decides-int_eq c.kept c.seen).0 both.0, both.1)

pub rest_agrees : (cs ds : List Compared) → first_different (cs ++ ds) ≡ None → first_different ds ≡ None
rest_agrees [] ds e = e
rest_agrees (c ∷ cs) ds e = rest_agrees cs ds (first_agrees c (cs ++ ds) e).1

-- two fields are the same
abbrev pub IsSame : Compared → Type 0
IsSame c = c.kept ≡ c.seen

-- nothing differs exactly where each field is the same
pub all_agree : (cs : List Compared) → first_different cs ≡ None → AllByRecursion IsSame cs
all_agree [] e = tt
all_agree (c ∷ cs) e = let both = first_agrees c cs e in (both.0, all_agree cs both.1)

pub none_differs : (cs : List Compared) → AllByRecursion IsSame cs → first_different cs ≡ None
none_differs [] h = refl
none_differs (c ∷ cs) h = first_different-same c cs h.0 ∙ none_differs cs h.1

pub differs : (cs : List Compared) (d : Compared) → first_different cs ≡ Some d → d.kept ≡ d.seen → ⊥
differs [] d e h = cc
differs (c ∷ cs) d e h = by (differs cs d) (int_eq c.kept c.seen) refl e
  where
    by : (first_different cs ≡ Some d → d.kept ≡ d.seen → ⊥) → (b : Bool) → int_eq c.kept c.seen ≡ b → (if b then first_different cs else Some c) ≡ Some d → ⊥
    by ih true t e = ih e h
    by ih false t e =
        let same : c ≡ d = cc in
        let equal : c.kept ≡ c.seen = ap (λ (x : Compared). x.kept) same ∙ h ∙ sym (ap (λ (x : Compared). x.seen) same) in
        not_from_Decides (int_eq c.kept c.seen) (Decides-int_eq c.kept c.seen) t equal

-- ---- the event

event_kind : ℕ → CallKind
event_kind n = if n == 1 then kind.Read else if n == 2 then kind.Write else if n == 3 then kind.Clock else if n == 4 then kind.Other else kind.Exit

kind_again : (k : CallKind) → event_kind (call_event k) ≡ k
unfolding event_kind
kind_again kind.Read = refl
kind_again k = refl

pub call_event_range : (k : CallKind) → (0 < call_event k) × (call_event k < 6)
call_event_range kind.Read = (omega arith, omega arith)
call_event_range k = (omega arith, omega arith)

-- a code is of one kind of call
pub same_kind : (j k : CallKind) → call_event j ≡ call_event k → j ≡ k
same_kind j k e = sym (kind_again j) ∙ ap event_kind e ∙ kind_again k

plain_outcome : (o : Outcome) → 0 ≡ seen_event o → (s : State) × (o ≡ Retired s)
plain_outcome (Retired s) e = (s, refl)
plain_outcome (Called call) e = absurd (omega (arith, (call_event_range call.kind).0))
plain_outcome (Trapped kind) e = absurd (omega arith)

call_outcome : (k : CallKind) (o : Outcome) → call_event k ≡ seen_event o → (call : Call) × (o ≡ Called call) × (call.kind ≡ k)
call_outcome k (Retired s) e = absurd (omega (arith, (call_event_range k).0))
call_outcome k (Called call) e = (call, refl, sym (kind_again call.kind) ∙ ap event_kind (sym e) ∙ kind_again k)
call_outcome k (Trapped kind) e = absurd (omega (arith, (call_event_range k).1))

trap_outcome : (o : Outcome) → 6 ≡ seen_event o → o ≡ Trapped (trap_kind o)
trap_outcome (Retired s) e = absurd (omega arith)
trap_outcome (Called call) e = absurd (omega (arith, (call_event_range call.kind).1))
trap_outcome (Trapped kind) e = refl

-- ---- what the log expects

pub expects_plain_at_end : (t : ℕ) (end : RunEnd) → t < end_at end → expected t [] end ≡ PlainStep
expects_plain_at_end t end h = ap (λ (b : Bool). if b then PlainStep else EndOf end) (lt-ltb t (end_at end) h)

pub expects_plain_before : (t : ℕ) (r : CallRecord) (rs : List CallRecord) (end : RunEnd) → t < at_of r → expected t (r ∷ rs) end ≡ PlainStep
expects_plain_before t r rs end h = ap (λ (b : Bool). if b then PlainStep else CallOf r) (lt-ltb t (at_of r) h)

pub expects_call : (t : ℕ) (r : CallRecord) (rs : List CallRecord) (end : RunEnd) → at_of r ≤ t → expected t (r ∷ rs) end ≡ CallOf r
expects_call t r rs end h = ap (λ (b : Bool). if b then PlainStep else CallOf r) (le-ltb t (at_of r) h)

pub expects_end : (t : ℕ) (end : RunEnd) → end_at end ≤ t → expected t [] end ≡ EndOf end
expects_end t end h = ap (λ (b : Bool). if b then PlainStep else EndOf end) (le-ltb t (end_at end) h)

-- ---- the outcome of a step where nothing differs

same_event : (m : Moment) (inputs : ℕ) (e : Expected) → differing m inputs e ≡ None → (kept_event e ≡ seen_event (next m.state)) × (first_different (fields m.state inputs e) ≡ None)
same_event m inputs e d =
    let both = first_agrees _ (fields m.state inputs e) d in
    let equal : pos (kept_event e) ≡ pos (seen_event (next m.state)) = both.0 in
    (cc, both.1)

pub plain_agrees : (m : Moment) (inputs : ℕ) → difference_at m inputs PlainStep ≡ None → (s : State) × (next m.state ≡ Retired s)
plain_agrees m inputs d = plain_outcome (next m.state) (same_event m inputs PlainStep d).0

-- the kind of call that a record is of
abbrev pub kind_by : CallRecord → CallKind
kind_by (Read at args result bytes) = kind.Read
kind_by (Write at args result bytes) = kind.Write
kind_by (Clock at value) = kind.Clock
kind_by (Other at number) = kind.Other

-- a record is expected as a call of its kind
pub event_by : (r : CallRecord) → call_event (kind_by r) ≡ kept_event (CallOf r)
event_by (Read at args result bytes) = refl
event_by r = refl

pub record CallAgrees (m : Moment) (inputs : ℕ) (r : CallRecord) : Type 0 where
  pub call : Call
  pub calls : next m.state ≡ Called call
  pub kind : call.kind ≡ kind_by r
  pub lawful : first_different (fields m.state inputs (CallOf r)) ≡ None

pub call_agrees : (m : Moment) (inputs : ℕ) (r : CallRecord) → difference_at m inputs (CallOf r) ≡ None → CallAgrees m inputs r
call_agrees m inputs r d =
    let same = same_event m inputs (CallOf r) d in
    let seen = call_outcome (kind_by r) (next m.state) (event_by r ∙ same.0) in
    record { call = seen.0; calls = seen.1; kind = seen.2; lawful = same.1 }

pub exit_agrees : (m : Moment) (inputs at code : ℕ) → difference_at m inputs (EndOf (Exit at code)) ≡ None → (call : Call) × (next m.state ≡ Called call) × (call.kind ≡ kind.Exit)
exit_agrees m inputs at code d = call_outcome kind.Exit (next m.state) (same_event m inputs (EndOf (Exit at code)) d).0

pub trap_agrees : (m : Moment) (inputs at kind pc : ℕ) → difference_at m inputs (EndOf (Trap at kind pc)) ≡ None → next m.state ≡ Trapped (trap_kind (next m.state))
trap_agrees m inputs at kind pc d = trap_outcome (next m.state) (same_event m inputs (EndOf (Trap at kind pc)) d).0

-- ---- divergence

none_first : (t : ℕ) (d : Option Compared) (later : Option Divergence) → or_later t d later ≡ None → (d ≡ None) × (later ≡ None)
none_first t None later e = (refl, e)
none_first t (Some c) later e = (cc, cc)

-- nothing differs at any of the next n moments
pub agrees_at : (log : Log) (n k : ℕ) (m : Moment) → divergence_from log n m ≡ None → k < n → difference log (moment_after k m) ≡ None
agrees_at log zero k m d h = absurd (omega arith)
agrees_at log (suc n) zero m d h = (none_first m.time (difference log m) (divergence_from log n (advance m)) d).0
agrees_at log (suc n) (suc k) m d h =
    agrees_at log n k (advance m) (none_first m.time (difference log m) (divergence_from log n (advance m)) d).1 (omega arith)

-- all that is compared at a moment
abbrev pub compares : Moment → ℕ → Expected → List Compared
compares m inputs e = compared field.Event (kept_event e) (seen_event (next m.state)) ∷ fields m.state inputs e

pub later_agrees : (log : Log) (n : ℕ) (m : Moment) → divergence_from log (suc n) m ≡ None → divergence_from log n (advance m) ≡ None
later_agrees log n m d = (none_first m.time (difference log m) (divergence_from log n (advance m)) d).1

difference_differs : (m : Moment) (inputs : ℕ) (e : Expected) (c : Compared) → difference_at m inputs e ≡ Some c → c.kept ≡ c.seen → ⊥
difference_differs m inputs (EndOf (Limit at)) c e h = cc
difference_differs m inputs kept c e h = differs (compares m inputs kept) c e h

or_later_differs : (log : Log) (m : Moment) (o : Option Compared) (later : Option Divergence) (d : Divergence) → difference log m ≡ o → or_later m.time o later ≡ Some d → (later ≡ Some d → d.kept ≡ d.seen → ⊥) → d.kept ≡ d.seen → ⊥
or_later_differs log m None later d o e ih h = ih e h
or_later_differs log m (Some c) later d o e ih h =
    let same : at_step m.time c ≡ d = cc in
    difference_differs m log.inputs (expected m.time m.left log.end) c o (ap (λ (x : Divergence). x.kept) same ∙ h ∙ sym (ap (λ (x : Divergence). x.seen) same))

divergence_from_differs : (log : Log) (n : ℕ) (m : Moment) (d : Divergence) → divergence_from log n m ≡ Some d → d.kept ≡ d.seen → ⊥
divergence_from_differs log zero m d e h = cc
divergence_from_differs log (suc n) m d e h =
    or_later_differs log m (difference log m) (divergence_from log n (advance m)) d refl e (divergence_from_differs log n (advance m) d) h

-- what differs isn't the same
pub divergence_differs : (s : State) (log : Log) (d : Divergence) → divergence s log ≡ Some d → d.kept ≡ d.seen → ⊥
divergence_differs s log d e h = divergence_from_differs log (end_at log.end + 1) (start s log) d e h
