use Rattle.std.proofs.Common.{rules, ◌≡◌, ℕ, ◌⊎◌, [], ◌∷◌, length, get_or, true, false, refl, subst, w32, ap, sym, ◌∙◌}
use Rattle.std.specs.Prelude.{IsTrue}
use Rattle.std.proofs.lemmas.Bool.{false≢true}
use Rattle.std.proofs.lemmas.Int.{to_z-of_z}
use Rattle.std.proofs.lemmas.Result.{err_from_is_err_and}
use mir.Val.{SFits}
use Rattle.isa.specs.declared.CallKind.TheVariants as kind
use Rattle.isa.specs.Machine.{in_window, bytes_at}
use Rattle.replay_model.specs.Comparison.{allowed, bytes_compared}
use Rattle.replay_model.specs.Comparison.{result as result_compared}
use Rattle.replayer.specs.Differences.{IsFirst, compared_of}
use Rattle.replay_model.proofs.Transfers.{length_held}
use Rattle.replayer.proofs.Comparing.{IsWaiting, read_fields, write_differs, write_fields, write_is_held}
use Rattle.replayer.proofs.compare.compare_call.Goals as goal

pub returns-in_ok-compare_arguments-in-Read : goal.returns-in_ok-compare_arguments-in-Read
returns-in_ok-compare_arguments-in-Read c =
    let f : SFits w32 c.in-Read.moved = search rules in
    let g : SFits w32 c.refusal.result = search rules in
    let moved = to_z-of_z w32 c.in-Read.moved f in
    let refused = to_z-of_z w32 c.refusal.result g in
    let event = rw c.in-Read.is at c.requires.kind in
    let waiting : IsWaiting c.args.machine.now.state c.args.inputs kind.Read c.args.call.now c.refusal.result = record { call_is = c.requires.waits; kind_is = event; refused_is = c.refusal.ensures } in
    let result : IsFirst (result_compared c.in-Read.moved (allowed c.refusal.result c.in-Read.moved 0) ∷ []) c.compare_result.result = rw (moved, refused) at c.compare_result.ensures in
    rw c.in-Read.is (read_fields c.args.machine.now.state c.args.inputs c.in-Read.at c.in-Read.args c.in-Read.moved c.in-Read.bytes c.args.call.now c.refusal.result c.compare_result.result waiting c.in_ok-compare_arguments-in-Read.ensures result)

pub returns-in_err-compare_result-in-Write : goal.returns-in_err-compare_result-in-Write
returns-in_err-compare_result-in-Write c =
    let p = err_from_is_err_and c.from_residual-in_err-compare_result-in-Write.result c.from_residual-in_err-compare_result-in-Write.ensures.1 in
    let f : SFits w32 c.in-Write.moved = search rules in
    let g : SFits w32 c.refusal-in-Write.result = search rules in
    let moved = to_z-of_z w32 c.in-Write.moved f in
    let refused = to_z-of_z w32 c.refusal-in-Write.result g in
    let event = rw c.in-Write.is at c.requires.kind in
    let waiting : IsWaiting c.args.machine.now.state c.args.inputs kind.Write c.args.call.now c.refusal-in-Write.result = record { call_is = c.requires.waits; kind_is = event; refused_is = c.refusal-in-Write.ensures } in
    let h = rw (moved, refused) at c.in_err-compare_result-in-Write.ensures in
    rw (p.1, p.2, c.in-Write.is) (write_differs c.args.machine.now.state c.args.inputs c.in-Write.at c.in-Write.args c.in-Write.moved c.in-Write.bytes c.args.call.now c.refusal-in-Write.result (compared_of c.in_err-compare_result-in-Write.field-0.0) waiting c.in_ok-compare_arguments-in-Write.ensures h)

pub compare_bytes-requires-clause-same : goal.compare_bytes-requires-clause-same
compare_bytes-requires-clause-same c =
    let place = get_or c.args.call.now.args 1 0 in
    let held = length_held c.args.machine.now.state place c.len.result (c.in-Some.ensures.held.0 refl) in
    rw (c.as_slice.ensures, c.in-Some.ensures.part) (held ∙ c.len.ensures)

pub returns-in-Some : goal.returns-in-Some
returns-in-Some c =
    let f : SFits w32 c.in-Write.moved = search rules in
    let g : SFits w32 c.refusal-in-Write.result = search rules in
    let moved = to_z-of_z w32 c.in-Write.moved f in
    let refused = to_z-of_z w32 c.refusal-in-Write.result g in
    let event = rw c.in-Write.is at c.requires.kind in
    let waiting : IsWaiting c.args.machine.now.state c.args.inputs kind.Write c.args.call.now c.refusal-in-Write.result = record { call_is = c.requires.waits; kind_is = event; refused_is = c.refusal-in-Write.ensures } in
    let h = rw (moved, refused) at c.in_ok-compare_result-in-Write.ensures in
    let place = get_or c.args.call.now.args 1 0 in
    let seen : c.in-Some.seen.now ≡ bytes_at c.args.machine.now.state place (length c.in-Write.bytes) = c.in-Some.ensures.part ∙ ap (bytes_at c.args.machine.now.state place) c.len.ensures in
    let compared : IsFirst (bytes_compared 0 c.in-Write.bytes c.in-Some.seen.now) c.compare_bytes.result = rw c.as_slice.ensures at c.compare_bytes.ensures in
    rw c.in-Write.is (write_fields c.args.machine.now.state c.args.inputs c.in-Write.at c.in-Write.args c.in-Write.moved c.in-Write.bytes c.in-Some.seen.now c.args.call.now c.refusal-in-Write.result c.compare_bytes.result waiting c.in_ok-compare_arguments-in-Write.ensures h seen compared)

pub returns-in-None : goal.returns-in-None
returns-in-None c =
    let f : SFits w32 c.in-Write.moved = search rules in
    let g : SFits w32 c.refusal-in-Write.result = search rules in
    let moved = to_z-of_z w32 c.in-Write.moved f in
    let refused = to_z-of_z w32 c.refusal-in-Write.result g in
    let event = rw c.in-Write.is at c.requires.kind in
    let waiting : IsWaiting c.args.machine.now.state c.args.inputs kind.Write c.args.call.now c.refusal-in-Write.result = record { call_is = c.requires.waits; kind_is = event; refused_is = c.refusal-in-Write.ensures } in
    let h = rw (moved, refused) at c.in_ok-compare_result-in-Write.ensures in
    let form = rw c.in-Write.is at c.requires.form in
    let held = write_is_held c.args.machine.now.state c.args.inputs c.in-Write.at c.in-Write.args c.in-Write.moved c.in-Write.bytes c.args.call.now c.refusal-in-Write.result form waiting c.in_ok-compare_arguments-in-Write.ensures h in
    let place = get_or c.args.call.now.args 1 0 in
    let there = subst (λ (n : ℕ). (n ≡ 0) ⊎ IsTrue (in_window c.args.machine.now.state place n)) (sym c.len.ensures) held in
    let none : false ≡ true = c.in-None.ensures.held.1 there in
    absurd (false≢true none)
