use Rattle.std.proofs.Common.{◌≡◌, ℕ, ◌<◌, length, get_or, arith, ap, sym, ◌∙◌, subst}
use Rattle.std.specs.Option.{is_some}
use Rattle.std.proofs.lemmas.List.{get_or_default}
use Rattle.log_model.specs.Logs.{steps}
use Rattle.epoch_model.specs.Cutting.{IsCutting}
use Rattle.checkpoints.specs.Taking.{TakerAt, times_taken, IsTakenBefore}
use Rattle.checkpoints.proofs.Taking.{one_due}
use Rattle.checkpoints.proofs.taker.CheckpointTaker.take_here.Goals as goal

pub returns-in-Ok-clause-taken : goal.returns-in-Ok-clause-taken
returns-in-Ok-clause-taken c job stands now cutting before out =
    let inside = c.self.inside in
    let t = c.args.at.now.moment.time in
    let w : TakerAt = record { cuts = inside.cuts.items; next = inside.next; touched = inside.touched; taken = inside.taken; is_out = is_some inside.fault } in
    let there : IsTakenBefore job t w = subst (IsTakenBefore job t) (sym c.self.view_is) before in
    let cut = subst (λ (x : TakerAt). IsCutting (steps job.log) x.cuts) (sym c.self.view_is) cutting in
    let due : t ≡ w.next = now ∙ ap (λ (x : TakerAt). x.next) (sym c.self.view_is) in
    let below : length w.taken.points < length w.cuts = omega (arith, c.if-number-len.false, c.count-number.ensures, c.len.ensures) in
    let added = c.in-Ok.ensures.taken job (times_taken w) stands there.taken there.others in
    let within : c.count-number.result < length w.cuts = omega (arith, below, c.count-number.ensures) in
    let next = c.index.ensures ∙ get_or_default w.cuts c.count-number.result c.index.result.now 0 within ∙ ap (λ (k : ℕ). get_or w.cuts k 0) c.count-number.ensures in
    one_due job t w there c.add.new.self c.clear.new.self c.index.result.now (is_some inside.fault) cut due below c.in-Ok.ensures.count added c.clear.ensures next
