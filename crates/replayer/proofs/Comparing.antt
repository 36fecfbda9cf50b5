-- Comparing a call with its record, field after field.
use Rattle.std.proofs.Common.{◌≡◌, ℕ, ◌<◌, ◌≤◌, ◌⊎◌, inl, inr, List, [], ◌∷◌, ◌++◌, length, get_or, ℤ, Option, Some, None, Result, Ok, Err, arith, ap, sym, ◌∙◌, subst}
use Rattle.std.specs.Prelude.{IsTrue}
use Rattle.std.proofs.lemmas.Bool.{cases_lt}
use Rattle.isa.specs.declared.Call.{Call}
use Rattle.isa.specs.declared.CallKind.{CallKind}
use Rattle.isa.specs.declared.CallKind.TheVariants as kind
use Rattle.isa.specs.Machine.{State, reg, in_window, bytes_at, call_of}
use Rattle.isa.specs.Calls.{refusal_of, refusal_by, refusal}
use Rattle.log_model.specs.declared.CallRecord.TheVariants.{Read, Write}
use Rattle.log_model.specs.Logs.{IsRecord}
use Rattle.replay_model.specs.Comparison.{Compared, first_different, arguments, arguments_of, allowed, bytes_compared, fields, CallOf, call_event}
use Rattle.replay_model.specs.Comparison.{result as result_compared}
use Rattle.replay_model.proofs.Agreement.{same_kind}
use Rattle.replayer.specs.declared.difference.Difference.{Difference}
use Rattle.replayer.specs.Differences.{IsFirst, arguments_compared}
use Rattle.replayer.proofs.Sequences.{first_then, first_after, first_before}
use Rattle.replay_model.proofs.Transfers.{write_held}

-- a call that waits in a state, of this kind, with the refusal that it has there
pub record IsWaiting (s : State) (inputs : ℕ) (k : CallKind) (call : Call) (refused : ℤ) : Type 0 where
  pub call_is : call ≡ call_of s
  pub kind_is : call_event k ≡ call_event call.kind
  pub refused_is : refused ≡ refusal s inputs call

pub arguments_agree : (s : State) (args : List ℕ) (call : Call) (o : Option Compared) → call ≡ call_of s → first_different (arguments_compared args call.args) ≡ o → first_different (arguments s args) ≡ o
arguments_agree s args call o e h = subst (λ (x : Call). first_different (arguments_compared args x.args) ≡ o) e h

refusal_is : (s : State) (inputs : ℕ) (k : CallKind) (call : Call) (refused : ℤ) → IsWaiting s inputs k call refused → refused ≡ refusal_by s inputs k (arguments_of s)
refusal_is s inputs k call refused w =
    w.refused_is ∙ ap (λ (j : CallKind). refusal_by s inputs j call.args) (sym (same_kind k call.kind w.kind_is)) ∙ ap (λ (x : Call). refusal_by s inputs k x.args) w.call_is

pub read_fields : {T : Type 0} (s : State) (inputs at : ℕ) (args : List ℕ) (kept : ℤ) (bytes : List ℕ) (call : Call) (refused : ℤ) (r : Result T Difference) → IsWaiting s inputs kind.Read call refused → first_different (arguments_compared args call.args) ≡ None → IsFirst (result_compared kept (allowed refused kept 0) ∷ []) r → IsFirst (fields s inputs (CallOf (Read at args kept bytes))) r
read_fields {T} s inputs at args kept bytes call refused r w a h =
    first_then (arguments s args) (result_compared kept (allowed (refusal_of s inputs (arguments_of s)) kept 0) ∷ []) r (arguments_agree s args call None w.call_is a)
    (subst (λ (x : ℤ). IsFirst (result_compared kept (allowed x kept 0) ∷ []) r) (refusal_is s inputs kind.Read call refused w) h)

result_agrees : (s : State) (inputs : ℕ) (kept : ℤ) (call : Call) (refused : ℤ) (o : Option Compared) → IsWaiting s inputs kind.Write call refused → first_different (result_compared kept (allowed refused kept (get_or call.args 2 0)) ∷ []) ≡ o → first_different (result_compared kept (allowed (refusal_of s 16 (arguments_of s)) kept (reg s 12)) ∷ []) ≡ o
result_agrees s inputs kept call refused o w h =
    let whole : first_different (result_compared kept (allowed refused kept (reg s 12)) ∷ []) ≡ o = subst (λ (x : Call). first_different (result_compared kept (allowed refused kept (get_or x.args 2 0)) ∷ []) ≡ o) w.call_is h in
    subst (λ (x : ℤ). first_different (result_compared kept (allowed x kept (reg s 12)) ∷ []) ≡ o) (refusal_is s inputs kind.Write call refused w) whole

pub write_differs : (s : State) (inputs at : ℕ) (args : List ℕ) (kept : ℤ) (bytes : List ℕ) (call : Call) (refused : ℤ) (d : Compared) → IsWaiting s inputs kind.Write call refused → first_different (arguments_compared args call.args) ≡ None → first_different (result_compared kept (allowed refused kept (get_or call.args 2 0)) ∷ []) ≡ Some d → first_different (fields s inputs (CallOf (Write at args kept bytes))) ≡ Some d
write_differs s inputs at args kept bytes call refused d w a h =
    let here = result_compared kept (allowed (refusal_of s 16 (arguments_of s)) kept (reg s 12)) in
    let rest = bytes_compared 0 bytes (bytes_at s (reg s 11) (length bytes)) in
    first_after (arguments s args) (here ∷ rest) (arguments_agree s args call None w.call_is a) ∙ first_before (here ∷ []) rest d (result_agrees s inputs kept call refused (Some d) w h)

above_bytes : (s : State) (inputs : ℕ) (args : List ℕ) (kept : ℤ) (call : Call) (refused : ℤ) (rest : List Compared) → IsWaiting s inputs kind.Write call refused → first_different (arguments_compared args call.args) ≡ None → first_different (result_compared kept (allowed refused kept (get_or call.args 2 0)) ∷ []) ≡ None → first_different (arguments s args ++ result_compared kept (allowed (refusal_of s 16 (arguments_of s)) kept (reg s 12)) ∷ rest) ≡ first_different rest
above_bytes s inputs args kept call refused rest w a h =
    let here = result_compared kept (allowed (refusal_of s 16 (arguments_of s)) kept (reg s 12)) in
    first_after (arguments s args) (here ∷ rest) (arguments_agree s args call None w.call_is a) ∙ first_after (here ∷ []) rest (result_agrees s inputs kept call refused None w h)

moved : {T : Type 0} (r : Result T Difference) (cs ds : List Compared) → first_different cs ≡ first_different ds → IsFirst ds r → IsFirst cs r
moved (Ok u) cs ds e h = e ∙ h
moved (Err d) cs ds e h = e ∙ h

pub write_fields : {T : Type 0} (s : State) (inputs at : ℕ) (args : List ℕ) (kept : ℤ) (bytes seen : List ℕ) (call : Call) (refused : ℤ) (r : Result T Difference) → IsWaiting s inputs kind.Write call refused → first_different (arguments_compared args call.args) ≡ None → first_different (result_compared kept (allowed refused kept (get_or call.args 2 0)) ∷ []) ≡ None → seen ≡ bytes_at s (get_or call.args 1 0) (length bytes) → IsFirst (bytes_compared 0 bytes seen) r → IsFirst (fields s inputs (CallOf (Write at args kept bytes))) r
write_fields {T} s inputs at args kept bytes seen call refused r w a h e b =
    let there : seen ≡ bytes_at s (reg s 11) (length bytes) = e ∙ ap (λ (x : Call). bytes_at s (get_or x.args 1 0) (length bytes)) w.call_is in
    let rest = bytes_compared 0 bytes (bytes_at s (reg s 11) (length bytes)) in
    moved r (arguments s args ++ result_compared kept (allowed (refusal_of s 16 (arguments_of s)) kept (reg s 12)) ∷ rest) rest (above_bytes s inputs args kept call refused rest w a h) (subst (λ (x : List ℕ). IsFirst (bytes_compared 0 bytes x) r) there b)

-- the bytes of a write that doesn't differ so far are in the window
pub write_is_held : (s : State) (inputs at : ℕ) (args : List ℕ) (kept : ℤ) (bytes : List ℕ) (call : Call) (refused : ℤ) → IsRecord (Write at args kept bytes) → IsWaiting s inputs kind.Write call refused → first_different (arguments_compared args call.args) ≡ None → first_different (result_compared kept (allowed refused kept (get_or call.args 2 0)) ∷ []) ≡ None → (length bytes ≡ 0) ⊎ IsTrue (in_window s (get_or call.args 1 0) (length bytes))
write_is_held s inputs at args kept bytes call refused form w a h = by (cases_lt 0 (length bytes))
  where
    by : (0 < length bytes) ⊎ (length bytes ≤ 0) → (length bytes ≡ 0) ⊎ IsTrue (in_window s (get_or call.args 1 0) (length bytes))
    by (inr z) = inl (omega arith)
    by (inl m) =
        let held = write_held s inputs at args kept bytes [] form (above_bytes s inputs args kept call refused [] w a h) m in
        inr (subst (λ (x : Call). IsTrue (in_window s (get_or x.args 1 0) (length bytes))) (sym w.call_is) held.held)
