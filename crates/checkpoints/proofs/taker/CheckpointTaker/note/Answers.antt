use Rattle.std.proofs.Common.{ℕ, ap, sym, ◌∙◌, subst}
use Rattle.std.specs.Option.{is_some}
use Rattle.log_model.specs.Logs.{steps}
use Rattle.epoch_model.specs.Cutting.{IsCutting}
use Rattle.checkpoints.specs.Taking.{TakerAt, HasTaken, IsTakenBefore, IsTakenTo}
use Rattle.checkpoints.proofs.Taking.{step_noted, not_due}
use Rattle.checkpoints.proofs.taker.CheckpointTaker.note.Goals as goal

pub returns-then-time-self : goal.returns-then-time-self
returns-then-time-self c step own was job made seen =
    let inside = c.self.inside in
    let after = c.args.after.now in
    let w : TakerAt = record { cuts = inside.cuts.items; next = inside.next; touched = inside.touched; taken = inside.taken; is_out = is_some inside.fault } in
    let mid : TakerAt = record w { touched = c.note.new.self } in
    let here = c.take_here.ensures in
    record {
      cuts = here.cuts ∙ ap (λ (x : TakerAt). x.cuts) c.self.view_is ∙ seen.cuts;
      taken = λ is cutting out.
          let cut : IsCutting (steps job.log) w.cuts = subst (IsCutting (steps job.log)) here.cuts cutting in
          let to = (subst (HasTaken job step.number) (sym c.self.view_is) seen.taken) is cut (here.out out) in
          let before = step_noted job is step after made w to c.note.new.self c.args.bytes own c.note.ensures.base c.note.ensures.flags in
          let now = sym c.time.ensures ∙ c.if-time-self.true in
          subst (λ (t : ℕ). IsTakenTo job t c.take_here.new.self) made.time
          (here.taken job made.stands now cut (subst (λ (t : ℕ). IsTakenBefore job t mid) (sym made.time) before) out);
    }

pub returns-else-time-self : goal.returns-else-time-self
returns-else-time-self c step own was job made seen =
    let inside = c.self.inside in
    let w : TakerAt = record { cuts = inside.cuts.items; next = inside.next; touched = inside.touched; taken = inside.taken; is_out = is_some inside.fault } in
    record {
      cuts = ap (λ (x : TakerAt). x.cuts) c.self.view_is ∙ seen.cuts;
      taken = λ is cutting out.
          let to = (subst (HasTaken job step.number) (sym c.self.view_is) seen.taken) is cutting out in
          not_due job is step c.args.after.now made w to c.note.new.self c.args.bytes own c.note.ensures.base c.note.ensures.flags (λ e. c.if-time-self.false (c.time.ensures ∙ e));
    }
