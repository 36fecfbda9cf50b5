use Rattle.std.proofs.Common.{◌≡◌, ap, ap₂, ◌∙◌, subst}
use Rattle.std.specs.Prelude.{max}
use Rattle.log_model.specs.Logs.{Log}
use Rattle.replay_run.specs.Expects.{event_time}
use Rattle.replayer.specs.Positions.{CursorAt}
use Rattle.replayer.specs.Nexts.{IsPlainUntil}
use Rattle.replayer.proofs.Stretches.{plain_until}
use Rattle.replayer.proofs.cursor.Cursor.plain_until.Goals as goal

pub returns : goal.returns
returns c =
    let run = c.self.inside.run in
    let event : c.event_time.result ≡ event_time run.moment.left c.self.inside.job.now.log.end = c.event_time.ensures ∙ ap (λ (l : Log). event_time run.moment.left l.end) c.self.invariant.stands.same_log in
    let until = c.max.ensures ∙ ap₂ max event c.time.ensures in
    subst (λ (p : CursorAt). IsPlainUntil p.job p.time c.max.result) c.self.view_is (plain_until c.self.inside.job.now run c.self.invariant c.form.ensures c.max.result until)
