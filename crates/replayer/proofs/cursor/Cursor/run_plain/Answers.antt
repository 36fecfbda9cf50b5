use Rattle.std.proofs.Common.{◌≡◌, ◌-◌, arith, ap, sym, subst}
use Rattle.log_model.specs.Logs.{Log}
use Rattle.log_model.proofs.Ends.{end_at-small}
use Rattle.replay_run.specs.Expects.{event_time}
use Rattle.replay_run.proofs.Steps.{event_within, are_later}
use Rattle.replayer.specs.Positions.{CursorAt}
use Rattle.replayer.specs.Nexts.{ArePlain}
use Rattle.replayer.specs.Told.{AreTold, NoneYet}
use Rattle.replayer.proofs.Leading.{plain_within, told_to}
use Rattle.replayer.proofs.cursor.Cursor.run_plain.Goals as goal

pub run_plain-requires-clause-later : goal.run_plain-requires-clause-later
run_plain-requires-clause-later g c =
    let r = c.self.inside.run in
    let job = c.self.inside.job.now in
    let plain = subst (λ (p : CursorAt). ArePlain p.job p.time c.args.until) (sym c.self.view_is) c.requires in
    let within = plain_within job r c.self.invariant c.form.ensures c.args.until plain (omega arith) in
    are_later r.moment.time (c.args.until - c.time-time.result) r.moment.left job.log.end (omega arith)

pub run_plain-requires-clause-time : goal.run_plain-requires-clause-time
run_plain-requires-clause-time g c =
    let r = c.self.inside.run in
    let job = c.self.inside.job.now in
    let plain = subst (λ (p : CursorAt). ArePlain p.job p.time c.args.until) (sym c.self.view_is) c.requires in
    let within = plain_within job r c.self.invariant c.form.ensures c.args.until plain (omega arith) in
    let same : event_time r.moment.left r.log.end ≡ event_time r.moment.left job.log.end = ap (λ (l : Log). event_time r.moment.left l.end) c.self.invariant.stands.same_log in
    omega (arith, event_within r c.form.ensures, end_at-small r.log.end c.form.ensures.form.end)

pub invariant_of-self : goal.invariant_of-self
invariant_of-self g c =
    let plain = subst (λ (p : CursorAt). ArePlain p.job p.time c.args.until) (sym c.self.view_is) c.requires in
    let row = c.run_plain.ensures in
    (told_to g.F.Follower.told g.F.Follower.wants c.self.inside.job.now c.self.inside.run c.self.invariant c.args.until plain c.args.follower.now c.run_plain.result c.run_plain.new.self c.run_plain.new.follower row.made (omega (arith, row.most)) row.rest).there

pub returns-then-time-until-clause-told : goal.returns-then-time-until-clause-told
returns-then-time-until-clause-told g c =
    let after = c.run_plain.new.self in
    let told = g.F.Follower.told in
    let plain = subst (λ (p : CursorAt). ArePlain p.job p.time c.args.until) (sym c.self.view_is) c.requires in
    let row = c.run_plain.ensures in
    let so_far = told_to told g.F.Follower.wants c.self.inside.job.now c.self.inside.run c.self.invariant c.args.until plain c.args.follower.now c.run_plain.result after c.run_plain.new.follower row.made (omega (arith, row.most)) row.rest in
    subst (λ (p : CursorAt). AreTold told g.F.Follower.wants p.job p.time c.args.follower.now after.moment.time c.run_plain.new.follower) c.self.view_is so_far.told_of

pub returns-else-time-until-clause-told : goal.returns-else-time-until-clause-told
returns-else-time-until-clause-told g c = NoneYet
