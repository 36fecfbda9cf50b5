-- One step of a check, against what the log has next.
use Rattle.std.proofs.Common.{◌≡◌, ℕ, ◌-◌, ◌<◌, ◌≤◌, ◌⊎◌, inl, inr, Bool, true, false, List, [], ◌∷◌, Option, None, refl, arith, ap, sym, ◌∙◌, subst}
use Rattle.std.specs.Prelude.{nat_lt, if◌then◌else◌}
use Rattle.std.specs.List.{AllByRecursion}
use Rattle.std.proofs.lemmas.Bool.{ltb-true, ltb-false}
use Rattle.log_model.specs.declared.CallRecord.{CallRecord}
use Rattle.log_model.specs.declared.RunEnd.{RunEnd}
use Rattle.log_model.specs.declared.RunEnd.TheVariants.{Exit, Trap, Limit}
use Rattle.log_model.specs.Logs.{Log, IsRecord, at_of, end_at, steps, steps_by}
use Rattle.log_model.proofs.Ends.{end_at-le-steps_by}
use Rattle.replay_model.proofs.Offsets.{steps_within}
use Rattle.replay_model.specs.Run.{Moment}
use Rattle.replay_model.specs.Comparison.{Compared, Expected, PlainStep, CallOf, EndOf, expected, first_different, difference, difference_at}
use Rattle.replay_run.specs.Runs.{RunAt, IsUnderLog}
use Rattle.replay_run.specs.Expects.{expected_of}
use Rattle.replay_run.proofs.Steps.{records_left, before_end}
use Rattle.replay_run.specs.declared.expected.Expected.{Expected as Expects}
use Rattle.replay_run.specs.declared.expected.Expected.TheVariants as expects
use Rattle.replayer.specs.Comparisons.{IsFormed, compares, is_limit, is_trap}

-- ---- what is due

plain_or_end : (b : Bool) (end e : RunEnd) → (if b then PlainStep else EndOf end) ≡ EndOf e → b ≡ false
plain_or_end true end e h = cc
plain_or_end false end e h = refl

plain_or_call : (b : Bool) (r : CallRecord) (e : RunEnd) → (if b then PlainStep else CallOf r) ≡ EndOf e → ⊥
plain_or_call true r e h = cc
plain_or_call false r e h = cc

formed_by : (b : Bool) (q : CallRecord) → IsRecord q → IsFormed (if b then PlainStep else CallOf q)
formed_by true q h = tt
formed_by false q h = h

plain_or_end_formed : (b : Bool) (end : RunEnd) → IsFormed (if b then PlainStep else EndOf end)
plain_or_end_formed true end = tt
plain_or_end_formed false end = tt

formed_in : (t : ℕ) (left : List CallRecord) (end : RunEnd) → AllByRecursion IsRecord left → IsFormed (expected t left end)
formed_in t [] end all = plain_or_end_formed (nat_lt t (end_at end)) end
formed_in t (q ∷ qs) end all = formed_by (nat_lt t (at_of q)) q all.0

-- what the log has next has the ranges of a log
pub formed : (r : RunAt) (x : Expected) → IsUnderLog r → x ≡ expected r.moment.time r.moment.left r.log.end → IsFormed x
formed r x under e = subst IsFormed (sym e) (formed_in r.moment.time r.moment.left r.log.end (records_left r under))

end_due_by : (t : ℕ) (left : List CallRecord) (end e : RunEnd) → expected t left end ≡ EndOf e → end_at end ≤ t
end_due_by t [] end e h = ltb-false t (end_at end) (plain_or_end (nat_lt t (end_at end)) end e h)
end_due_by t (r ∷ rs) end e h = absurd (plain_or_call (nat_lt t (at_of r)) r e h)

-- the end comes at its time
pub end_due : (log : Log) (m : Moment) (x : Expected) (e : RunEnd) → x ≡ expected m.time m.left log.end → x ≡ EndOf e → end_at log.end ≤ m.time
end_due log m x e h i = end_due_by m.time m.left log.end e (sym h ∙ i)

end_not_due : (b : Bool) (end : RunEnd) → ((e : RunEnd) → (if b then PlainStep else EndOf end) ≡ EndOf e → ⊥) → b ≡ true
end_not_due true end h = refl
end_not_due false end h = absurd (h end refl)

-- where no record is left and the log has a step next, its end is later
pub none_left : (log : Log) (m : Moment) (x : Expected) → x ≡ expected m.time m.left log.end → ((e : RunEnd) → x ≡ EndOf e → ⊥) → m.left ≡ [] → m.time < end_at log.end
none_left log m x h none empty =
    let same : x ≡ expected m.time [] log.end = h ∙ ap (λ (rs : List CallRecord). expected m.time rs log.end) empty in
    ltb-true m.time (end_at log.end) (end_not_due (nat_lt m.time (end_at log.end)) log.end (λ e i. none e (same ∙ i)))

-- ---- what differs

compared_at : (m : Moment) (inputs : ℕ) (x : Expected) → is_limit x ≡ false → difference_at m inputs x ≡ first_different (compares m.state inputs x)
compared_at m inputs PlainStep h = refl
compared_at m inputs (CallOf r) h = refl
compared_at m inputs (EndOf (Exit at code)) h = refl
compared_at m inputs (EndOf (Trap at kind pc)) h = refl
compared_at m inputs (EndOf (Limit at)) h = cc

-- at the limit nothing is compared; elsewhere the first difference is that of all that is compared
pub difference_is : (log : Log) (m : Moment) (inputs : ℕ) (x : Expected) (o : Option Compared) → inputs ≡ log.inputs → x ≡ expected m.time m.left log.end → is_limit x ≡ false → first_different (compares m.state inputs x) ≡ o → difference log m ≡ o
difference_is log m inputs x o i e l h =
    ap (difference_at m log.inputs) (sym e) ∙ ap (λ (n : ℕ). difference_at m n x) (sym i) ∙ compared_at m inputs x l ∙ h

limit_by : (m : Moment) (inputs : ℕ) (x : Expected) → is_limit x ≡ true → (difference_at m inputs x ≡ None) × ((e : RunEnd) × (x ≡ EndOf e))
limit_by m inputs PlainStep h = cc
limit_by m inputs (CallOf r) h = cc
limit_by m inputs (EndOf (Exit at code)) h = cc
limit_by m inputs (EndOf (Trap at kind pc)) h = cc
limit_by m inputs (EndOf (Limit at)) h = (refl, (Limit at, refl))

pub limit_ends : (log : Log) (m : Moment) (x : Expected) → x ≡ expected m.time m.left log.end → is_limit x ≡ true → (difference log m ≡ None) × (end_at log.end ≤ m.time)
limit_ends log m x e h =
    let limit = limit_by m log.inputs x h in
    (ap (difference_at m log.inputs) (sym e) ∙ limit.0, end_due log m x limit.1.0 e limit.1.1)

-- an end that is expected is one
pub end_expected : (x : Expects) (e : RunEnd) → expected_of x ≡ EndOf e → x ≡ expects.End e
end_expected expects.PlainStep e h = cc
end_expected (expects.Call r) e h = cc
end_expected (expects.End end) e h = let same : end ≡ e = cc in ap (λ (y : RunEnd). expects.End y) same

-- ---- the step that is left

plain_or_end_is : (b : Bool) (end e : RunEnd) → (if b then PlainStep else EndOf end) ≡ EndOf e → end ≡ e
plain_or_end_is true end e h = cc
plain_or_end_is false end e h = cc

end_is_by : (t : ℕ) (left : List CallRecord) (end e : RunEnd) → expected t left end ≡ EndOf e → end ≡ e
end_is_by t [] end e h = plain_or_end_is (nat_lt t (end_at end)) end e h
end_is_by t (r ∷ rs) end e h = absurd (plain_or_call (nat_lt t (at_of r)) r e h)

-- how many steps are left where the log has its end next: one, if that is an exit
pub left_at_end : (log : Log) (m : Moment) (e : RunEnd) → EndOf e ≡ expected m.time m.left log.end → m.time ≤ end_at log.end → (steps log ≡ steps_by e) × (end_at e ≡ m.time)
left_at_end log m e h within =
    let same = end_is_by m.time m.left log.end e (sym h) in
    let due = end_due_by m.time m.left log.end e (sym h) in
    let at = ap end_at same in
    (ap steps_by same, omega arith)

-- at the limit, and at a trap, none is left
pub none_left_by : (log : Log) (m : Moment) (x : Expected) → x ≡ expected m.time m.left log.end → m.time ≤ end_at log.end → (is_limit x ≡ true) ⊎ (is_trap x ≡ true) → steps log - m.time ≡ 0
none_left_by log m PlainStep h within (inl t) = cc
none_left_by log m PlainStep h within (inr t) = cc
none_left_by log m (CallOf r) h within (inl t) = cc
none_left_by log m (CallOf r) h within (inr t) = cc
none_left_by log m (EndOf (Exit at code)) h within (inl t) = cc
none_left_by log m (EndOf (Exit at code)) h within (inr t) = cc
none_left_by log m (EndOf (Trap at kind pc)) h within t = let left = left_at_end log m (Trap at kind pc) h within in omega (arith, left.0, left.1)
none_left_by log m (EndOf (Limit at)) h within t = let left = left_at_end log m (Limit at) h within in omega (arith, left.0, left.1)

-- elsewhere a step is left, and at the end it is the last
pub step_left : (r : RunAt) (x : Expects) → IsUnderLog r → expected_of x ≡ expected r.moment.time r.moment.left r.log.end → r.moment.time ≤ end_at r.log.end → is_limit (expected_of x) ≡ false → is_trap (expected_of x) ≡ false → r.moment.time < steps r.log
step_left r expects.PlainStep under h within a b =
    let early = before_end r under (none_left r.log r.moment PlainStep h (λ e i. not_end e i)) in omega (arith, early, end_at-le-steps_by r.log.end)
  where
    not_end : (e : RunEnd) → PlainStep ≡ EndOf e → ⊥
    not_end e i = cc
step_left r (expects.Call q) under h within a b =
    let early = before_end r under (none_left r.log r.moment (CallOf q.now) h (λ e i. not_end e i)) in omega (arith, early, end_at-le-steps_by r.log.end)
  where
    not_end : (e : RunEnd) → CallOf q.now ≡ EndOf e → ⊥
    not_end e i = cc
step_left r (expects.End (Exit at code)) under h within a b = let left = left_at_end r.log r.moment (Exit at code) h within in omega (arith, left.0, left.1)
step_left r (expects.End (Trap at kind pc)) under h within a b = cc
step_left r (expects.End (Limit at)) under h within a b = cc

pub last_left : (r : RunAt) (e : RunEnd) → EndOf e ≡ expected r.moment.time r.moment.left r.log.end → r.moment.time ≤ end_at r.log.end → r.moment.time < steps r.log → steps r.log - r.moment.time ≡ 1
last_left r e h within below =
    let left = left_at_end r.log r.moment e h within in
    omega (arith, left.0, left.1, steps_within e, below)
