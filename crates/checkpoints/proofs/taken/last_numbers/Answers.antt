use Rattle.std.proofs.Common.{◌≡◌, ◌-◌, ◌<◌, Some, [], length, get_or, arith, ap, sym, ◌∙◌}
use Rattle.std.specs.Prelude.{slice_get}
use Rattle.std.proofs.lemmas.Option.{get_or_from_slice_get, slice_get_within}
use Rattle.checkpoints.specs.Points.{CheckpointAt}
use Rattle.checkpoints.proofs.Holding.{last_is}
use Rattle.checkpoints.proofs.taken.last_numbers.Goals as goal

pub returns-in-Some : goal.returns-in-Some
returns-in-Some c =
    let points = c.args.points.now in
    let last = c.in-Some.last.now in
    let here : slice_get points (length points - 1) ≡ Some last = sym c.in-Some.ensures.value in
    let within : length points - 1 < length points = slice_get_within points (length points - 1) last here in
    let some : 0 < length points = omega (arith, within) in
    let numbers : c.last-in-Some.inside.numbers.items ≡ last.numbers = ap (λ (p : CheckpointAt). p.numbers) c.last-in-Some.view_is in
    let item : last.numbers ≡ (get_or points (length points - 1) last).numbers = ap (λ (p : CheckpointAt). p.numbers) (sym (get_or_from_slice_get points (length points - 1) last last here)) in
    c.as_slice.ensures.value ∙ numbers ∙ item ∙ sym (last_is [] points last some)
