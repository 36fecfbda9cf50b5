use Rattle.std.proofs.Common.{◌≡◌, ℕ, arith, ap, sym, ◌∙◌, subst}
use Rattle.replay_model.specs.Comparison.{at_step}
use Rattle.replay_run.specs.Runs.{RunAt, hart_of, later_by_one, IsLater}
use Rattle.rv_machine.specs.declared.Stepped.TheVariants.{Plain}
use Rattle.replayer.specs.Differences.{compared_of}
use Rattle.replayer.specs.Nexts.{seen_at}
use Rattle.replayer.proofs.PlainSteps.{record_later, end_is_later, plain_advances, other_differs}
use Rattle.replayer.proofs.Stepping.{plain_finished}
use Rattle.replayer.proofs.Watching.{told_one}
use Rattle.replayer.proofs.check.check_plain_step.Goals as goal
use Rattle.log_model.proofs.Ends.{end_at-small}

pub advance-requires-clause-later : goal.advance-requires-clause-later
advance-requires-clause-later g c =
    let m = c.args.run.now.moment in
    subst (λ (r : RunAt). IsLater r.moment.time r.moment.left) (sym c.in-Plain.ensures.rest) (record_later m.time m.left c.args.run.now.log.end c.requires.plain)

pub advance-requires-clause-time : goal.advance-requires-clause-time
advance-requires-clause-time g c =
    let r = c.args.run.now in
    let time : c.step_inlined.new.self.moment.time ≡ r.moment.time = ap (λ (x : RunAt). x.moment.time) c.in-Plain.ensures.rest in
    omega (arith, end_is_later r c.form.ensures c.requires.plain, end_at-small r.log.end c.form.ensures.form.end)

pub returns-in-Plain-clause-checked : goal.returns-in-Plain-clause-checked
returns-in-Plain-clause-checked g c =
    let moved = c.advance.ensures ∙ ap later_by_one c.in-Plain.ensures.rest in (
      plain_advances c.args.run.now c.advance.new.self (hart_of c.step_inlined.new.self) c.in-Plain.instr c.in-Plain.place c.form.ensures c.requires.plain c.in-Plain.ensures.step moved,
      ap (λ (r : RunAt). r.moment.left) moved,
    )

pub returns-in-Plain-clause-told : goal.returns-in-Plain-clause-told
returns-in-Plain-clause-told g c =
    let r = c.args.run.now in
    let after = c.advance.new.self in
    let hart = hart_of c.step_inlined.new.self in
    let instr = c.in-Plain.instr in
    let place = c.in-Plain.place in
    let time = c.time-time.result in
    let counted = c.advance.ensures ∙ ap later_by_one c.in-Plain.ensures.rest in
    let finished = plain_finished r after hart instr place time c.time-time.ensures counted in
    told_one g.W.Watcher.seen r after (Plain instr place) hart (seen_at time (record { instr = instr; place = place })) c.args.watcher.now c.plain.new.self c.in-Plain.ensures.step finished (ap (λ (x : RunAt). x.log) counted) c.plain.ensures

pub returns-in_default : goal.returns-in_default
returns-in_default g c =
    let r = c.args.run.now in
    let d = c.event_in_place_of_a_step.result in
    record {
      checked = record {
        first = compared_of d;
        differs = other_differs r c.step_inlined.result (hart_of c.step_inlined.new.self) (compared_of d) c.requires.plain c.step_inlined.ensures.step c.in_default.not-Plain c.event_in_place_of_a_step.ensures;
        divergence = c.at_step.ensures ∙ ap (λ (t : ℕ). at_step t (compared_of d)) c.time-time.ensures;
      };
      told = tt;
    }
