use Rattle.std.proofs.Common.{ℕ, length, refl, ap, ◌∙◌, subst}
use Rattle.std.specs.Int.{div_ceil}
use Rattle.std.specs.Option.{is_some}
use Rattle.log_model.specs.Logs.{steps}
use Rattle.epoch_model.specs.Cutting.{IsCutting}
use Rattle.checkpoints.specs.Taking.{TakerAt, IsTakenTo}
use Rattle.checkpoints.proofs.Standing.{all_fit, all_set}
use Rattle.checkpoints.proofs.Taking.{none_before}
use Rattle.checkpoints.proofs.taker.CheckpointTakerRunWatcher.begin.Goals as goal

pub returns-in-Ok : goal.returns-in-Ok
returns-in-Ok c job stands first =
    let inside = c.self.inside in
    let t = c.args.at.now.moment.time in
    let parts = c.parts-rest in
    let here = c.take_here.ensures in
    let touched = c.in-Ok.touched in
    let w : TakerAt = record { cuts = inside.cuts.items; next = 0; touched = touched; taken = c.none.result; is_out = is_some inside.fault } in
    let flags = all_fit job t parts.result.0.now parts.result.1 (parts.ensures.of_job job stands) parts.ensures.time c.base.result touched first c.base.ensures c.in-Ok.ensures in
    let all = all_set touched c.base.result (div_ceil (length parts.result.0.now) 4096) c.in-Ok.ensures in
    record {
      cuts = here.cuts ∙ ap (λ (x : TakerAt). x.cuts) c.self.view_is;
      taken = λ is cutting out.
          let cut : IsCutting (steps job.log) w.cuts = subst (IsCutting (steps job.log)) here.cuts cutting in
          subst (λ (k : ℕ). IsTakenTo job k c.take_here.new.self) first (here.taken job stands first cut (none_before job t w c.none.ensures refl flags all) out);
    }
