-- What is received on a channel is the first of its input. Crates above cite these lemmas.
use Rattle.std.proofs.Common.{◌≡◌, ℕ, ◌≤◌, Bool, true, false, List, [], ◌∷◌, ◌++◌, length, get_or, take, drop, pos, negsuc, refl, arith, ap, sym, ◌∙◌, subst, append_assoc, append-nil, length-append, length-take}
use Rattle.std.specs.Prelude.{◌==◌, if◌then◌else◌, min}
use Rattle.std.specs.List.{AllByRecursion}
use Rattle.std.proofs.Math.Seq.{take-add, take-append_seam}
use Rattle.std.proofs.lemmas.Bool.{eqb-true}
use Rattle.std.proofs.lemmas.List.{take-append-drop, nil_from_length}
use Rattle.isa.specs.Calls.{length_of}
use Rattle.log_model.specs.declared.CallRecord.{CallRecord}
use Rattle.log_model.specs.declared.CallRecord.TheVariants.{Read, Write}
use Rattle.log_model.specs.Logs.{Log, IsRecord}
use Rattle.log_model.specs.Moved.{received, received_by}
use Rattle.log_model.proofs.Moved.{received-push}
use Rattle.record_model.specs.Recorded.{Setting, IsRecorded, AllReadNext, ReadsNext, IsFrontOf, input_of}

-- the next bytes after the first ones
next_bytes : (front whole bytes : List ℕ) (m : ℕ) → bytes ≡ take m (drop (length front) whole) → IsFrontOf front whole
    → IsFrontOf (front ++ bytes) whole
next_bytes front whole bytes m e is =
    let rest : List ℕ = drop (length front) whole in
    let seam : take (length bytes) rest ≡ bytes =
    ap (λ (w : List ℕ). take (length w) rest) e ∙ ap (take (length (take m rest))) (sym (take-append-drop m rest))
    ∙ take-append_seam (take m rest) (drop m rest) ∙ sym e in
    ap (λ n. take n whole) (length-append front bytes) ∙ take-add (length front) (length bytes) whole
    ∙ ap (λ (w : List ℕ). w ++ take (length bytes) rest) is ∙ ap (λ (w : List ℕ). front ++ w) seam

no_more : (front whole more : List ℕ) → more ≡ [] → IsFrontOf front whole → IsFrontOf (front ++ more) whole
no_more front whole more e is = subst (λ (w : List ℕ). IsFrontOf w whole)
    (sym (ap (λ (w : List ℕ). front ++ w) e ∙ append-nil front)) is

either : (b : Bool) (xs ys : List ℕ) → xs ≡ [] → ys ≡ [] → (if b then xs else ys) ≡ []
either true xs ys p q = p
either false xs ys p q = q

one_more : (inputs : List (List ℕ)) (piece : ℕ) (before : List CallRecord) (r : CallRecord) (c : ℕ) → IsRecord r
    → ReadsNext inputs piece before r → ((d : ℕ) → IsFrontOf (received d before) (input_of inputs d))
    → IsFrontOf (received c before ++ received_by c r) (input_of inputs c)
one_more inputs piece before (Read at args (pos n) bytes) c form next front = by (get_or args 0 0 == c) refl
  where
    by : (b : Bool) → (get_or args 0 0 == c) ≡ b
        → IsFrontOf (received c before ++ (if b then bytes else [])) (input_of inputs c)
    by true e =
        let d : ℕ = get_or args 0 0 in
        subst (λ (k : ℕ). IsFrontOf (received k before ++ bytes) (input_of inputs k)) (eqb-true d c e)
        (next_bytes (received d before) (input_of inputs d) bytes (min (length_of args) piece) next (front d))
    by false e = no_more (received c before) (input_of inputs c) [] refl (front c)
one_more inputs piece before (Read at args (negsuc n) bytes) c form next front =
    no_more (received c before) (input_of inputs c) _
    (either (get_or args 0 0 == c) bytes [] (nil_from_length bytes form.1.whole) refl) (front c)
one_more inputs piece before (Write at args result bytes) c form next front =
    no_more (received c before) (input_of inputs c) _ (either (get_or args 0 0 == c) [] [] refl refl) (front c)
one_more inputs piece before r c form next front = no_more (received c before) (input_of inputs c) [] refl (front c)

all_more : (inputs : List (List ℕ)) (piece : ℕ) (before rs : List CallRecord) → AllByRecursion IsRecord rs
    → AllReadNext inputs piece before rs → ((d : ℕ) → IsFrontOf (received d before) (input_of inputs d)) → (c : ℕ)
    → IsFrontOf (received c (before ++ rs)) (input_of inputs c)
all_more inputs piece before [] form reads front c = subst
    (λ (w : List CallRecord). IsFrontOf (received c w) (input_of inputs c)) (sym (append-nil before)) (front c)
all_more inputs piece before (r ∷ rs) form reads front c =
    subst (λ (w : List CallRecord). IsFrontOf (received c w) (input_of inputs c)) (append_assoc before (r ∷ []) rs)
    (all_more inputs piece (before ++ r ∷ []) rs form.1 reads.1
    (λ d. subst (λ (w : List ℕ). IsFrontOf w (input_of inputs d)) (sym (received-push d before r))
    (one_more inputs piece before r d form.0 reads.0 front)) c)

pub received-front : (inputs : List (List ℕ)) (piece : ℕ) (records : List CallRecord) → AllByRecursion IsRecord records
    → AllReadNext inputs piece [] records → (c : ℕ) → IsFrontOf (received c records) (input_of inputs c)
received-front inputs piece records form reads c = all_more inputs piece [] records form reads (λ d. refl) c

-- and so no more than there is
pub received-within : (inputs : List (List ℕ)) (piece : ℕ) (records : List CallRecord) → AllByRecursion IsRecord records
    → AllReadNext inputs piece [] records → (c : ℕ) → length (received c records) ≤ length (input_of inputs c)
received-within inputs piece records form reads c =
    let front = ap length (received-front inputs piece records form reads c) in
    let few = length-take (length (received c records)) (input_of inputs c) in
    omega arith

pub inputs_in_order : (s : Setting) (answers : List ℕ) (log : Log) → IsRecorded s answers log → (channel : ℕ)
    → IsFrontOf (received channel log.records) (input_of s.inputs channel)
inputs_in_order s answers log is = received-front s.inputs s.piece log.records is.is_log.records is.reads_inputs
