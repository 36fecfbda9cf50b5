-- A step where the log has a plain one next.
use Rattle.std.proofs.Common.{◌≡◌, ℕ, ◌<◌, Bool, true, false, List, [], ◌∷◌, pos, Some, refl, arith, ap, sym, ◌∙◌}
use Rattle.std.specs.Prelude.{nat_lt, if◌then◌else◌}
use Rattle.std.proofs.lemmas.Bool.{ltb-true}
use Rattle.isa.specs.declared.Instr.{Instr}
use Rattle.isa.specs.Machine.{State, next}
use Rattle.log_model.specs.declared.CallRecord.{CallRecord}
use Rattle.log_model.specs.declared.RunEnd.{RunEnd}
use Rattle.log_model.specs.Logs.{Log, at_of, end_at}
use Rattle.replay_model.specs.declared.Field.TheVariants as field
use Rattle.replay_model.specs.Run.{Moment, advance, after_outcome}
use Rattle.replay_model.specs.Comparison.{Compared, compared, first_different, PlainStep, CallOf, EndOf, expected, difference, difference_at, seen_event}
use Rattle.replay_model.proofs.Agreement.{call_event_range}
use Rattle.rv_machine.specs.Hart.{Hart, IsPlainStep, IsStep}
use Rattle.rv_machine.specs.declared.Stepped.{Stepped}
use Rattle.rv_machine.specs.declared.Stepped.TheVariants.{Plain, Called, Trapped}
use Rattle.replay_run.specs.Runs.{RunAt, with_hart, later_by_one, IsUnderLog, IsLater}
use Rattle.replay_run.proofs.Steps.{before_end}
use Rattle.replayer.specs.Comparisons.{event_of}
use Rattle.replayer.specs.CheckedSteps.{IsAdvanced}
use Rattle.replayer.proofs.Sequences.{first_other}

-- ---- when it is due

call_later : (b : Bool) (r : CallRecord) → (if b then PlainStep else CallOf r) ≡ PlainStep → b ≡ true
call_later true r h = refl
call_later false r h = cc

end_later : (b : Bool) (end : RunEnd) → (if b then PlainStep else EndOf end) ≡ PlainStep → b ≡ true
end_later true end h = refl
end_later false end h = cc

-- the next record is of a later step
pub record_later : (t : ℕ) (left : List CallRecord) (end : RunEnd) → expected t left end ≡ PlainStep → IsLater t left
record_later t [] end h = tt
record_later t (r ∷ rs) end h = ltb-true t (at_of r) (call_later (nat_lt t (at_of r)) r h)

none_left_later : (t : ℕ) (left : List CallRecord) (end : RunEnd) → expected t left end ≡ PlainStep → left ≡ [] → t < end_at end
none_left_later t [] end h none = ltb-true t (end_at end) (end_later (nat_lt t (end_at end)) end h)
none_left_later t (r ∷ rs) end h none = cc

-- the end is later
pub end_is_later : (r : RunAt) → IsUnderLog r → expected r.moment.time r.moment.left r.log.end ≡ PlainStep → r.moment.time < end_at r.log.end
end_is_later r under plain = before_end r under (none_left_later r.moment.time r.moment.left r.log.end plain)

-- ---- what the machine did

difference_plain : (log : Log) (m : Moment) → expected m.time m.left log.end ≡ PlainStep → difference log m ≡ difference_at m log.inputs PlainStep
difference_plain log m plain = ap (difference_at m log.inputs) plain

-- a plain step is as the log has it
pub plain_advances : (r after : RunAt) (hart : Hart) (instr : Instr) (place : ℕ) → IsUnderLog r → expected r.moment.time r.moment.left r.log.end ≡ PlainStep → IsPlainStep r.moment.state instr place hart → after ≡ later_by_one (with_hart r hart) → IsAdvanced r after
plain_advances r after hart instr place under plain made e = record {
  agrees = difference_plain r.log r.moment plain ∙ ap (λ (n : ℕ). first_different (compared field.Event 0 n ∷ [])) (ap seen_event made.retired);
  early = end_is_later r under plain;
  moved = e ∙ ap (λ (m : Moment). record { log = r.log; moment = m; waits = hart.waits }) (sym (ap (after_outcome r.moment) made.retired)) ∙ ap (λ (w : Bool). record { log = r.log; moment = advance r.moment; waits = w }) made.goes_on;
}

other_event : (stepped : Stepped) → ((instr : Instr) (place : ℕ) → stepped ≡ Plain instr place → ⊥) → 0 < event_of stepped
other_event (Plain instr place) other = absurd (other instr place refl)
other_event (Called call) other = (call_event_range call.kind).0
other_event (Trapped kind pc) other = omega arith

not_zero : (n : ℕ) → 0 < n → pos 0 ≡ pos n → ⊥
not_zero n h e = let zero : 0 ≡ n = cc in omega arith

seen_is : (s : State) (stepped : Stepped) (hart : Hart) → IsStep s stepped hart → seen_event (next s) ≡ event_of stepped
seen_is s (Plain instr place) hart h = ap seen_event h.retired
seen_is s (Called call) hart h = ap seen_event h.called
seen_is s (Trapped kind pc) hart h = ap seen_event h.trapped

-- anything else is a difference of events
pub other_differs : (r : RunAt) (stepped : Stepped) (hart : Hart) (c : Compared) → expected r.moment.time r.moment.left r.log.end ≡ PlainStep → IsStep r.moment.state stepped hart → ((instr : Instr) (place : ℕ) → stepped ≡ Plain instr place → ⊥) → c ≡ compared field.Event 0 (event_of stepped) → difference r.log r.moment ≡ Some c
other_differs r stepped hart c plain made other e =
    let here = compared field.Event 0 (event_of stepped) in
    difference_plain r.log r.moment plain
    ∙ ap (λ (n : ℕ). first_different (compared field.Event 0 n ∷ [])) (seen_is r.moment.state stepped hart made)
    ∙ first_other here [] (not_zero (event_of stepped) (other_event stepped other))
    ∙ ap (λ (x : Compared). Some x) (sym e)
