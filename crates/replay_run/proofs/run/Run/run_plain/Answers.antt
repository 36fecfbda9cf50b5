use Rattle.std.proofs.Common.{drop, sym, subst}
use Rattle.replay_run.specs.Runs.{RunAt, AreLater}
use Rattle.replay_run.proofs.Steps.{rise_later}
use Rattle.replay_run.proofs.run.Run.run_plain.Goals as goal

pub invariant_of-self : goal.invariant_of-self
invariant_of-self g c =
    let is = c.self.invariant in
    let later = subst (λ (r : RunAt). AreLater r.moment.time c.args.most r.moment.left) (sym c.self.view_is) c.requires.later in
    record {
      form = is.form;
      small = is.small;
      within = is.within;
      rise = rise_later c.self.inside.time c.args.most c.run_plain-made.result (drop c.self.inside.done c.self.inside.log.now.records) is.rise later c.run_plain-made.ensures.most;
      reads = is.reads;
      writes = is.writes;
    }
