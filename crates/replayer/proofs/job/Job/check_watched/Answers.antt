use Rattle.std.proofs.Common.{◌≡◌, ◌+◌, ◌-◌, arith, refl, ap, sym, ◌∙◌, subst}
use Rattle.log_model.specs.Logs.{steps}
use Rattle.replay_run.specs.Runs.{RunAt}
use Rattle.replay_model.specs.Fits.{start_in_image}
use Rattle.replay_model.proofs.Agreement.{divergence_differs}
use Rattle.replayer.specs.InParts.{job_of}
use Rattle.replayer.proofs.Parts.{agrees_at_start}
use Rattle.replayer.proofs.job.Job.check_watched.Goals as goal

pub returns-in-Err-clause-fault : goal.returns-in-Err-clause-fault
returns-in-Err-clause-fault g c =
    let job = job_of c.args.image c.args.log in
    let opened = c.in_ok-checker.ensures.ok in
    let first = c.in-Err.ensures.first job (agrees_at_start job c.in_ok-checker.checker opened.here) in
    record {
      start = job.start;
      digest = opened.digest;
      begins = opened.begins;
      first = first;
      differ = divergence_differs job.start c.args.log c.in-Err.divergence first;
    }

pub invariant_of-result : goal.invariant_of-result
invariant_of-result g c =
    let job = job_of c.args.image c.args.log in
    let opened = c.in_ok-checker.ensures.ok in
    let small = c.size-size.ensures in
    record {
      begins = opened.begins;
      is_job = record {
        form = c.form.ensures;
        small = omega (arith, small.length, small.limit);
        agrees = c.in-Ok.ensures.agrees job (agrees_at_start job c.in_ok-checker.checker opened.here);
      };
    }

pub returns-in-Ok-clause-ok : goal.returns-in-Ok-clause-ok
returns-in-Ok-clause-ok g c =
    let job = job_of c.args.image c.args.log in
    let opened = c.in_ok-checker.ensures.ok in
    let agrees = c.in-Ok.ensures.agrees job (agrees_at_start job c.in_ok-checker.checker opened.here) in
    record {
      digest = opened.digest;
      start = opened.begins;
      same_log = refl;
      agrees = agrees;
      fits = record {
        start = job.start;
        digest = opened.digest;
        begins = ap (λ im. start_in_image im c.args.log.pages) c.requires ∙ opened.begins;
        agrees = agrees;
      };
    }

pub returns-in-Ok-clause-seen : goal.returns-in-Ok-clause-seen
returns-in-Ok-clause-seen g c =
    let job = job_of c.args.image c.args.log in
    let here = c.in_ok-checker.ensures.ok.here in
    let run = c.in_ok-checker.checker in
    let seen = g.W.Watcher.seen in
    let stands = (agrees_at_start job run here).stands in
    let none : run.moment.time ≡ 0 = ap (λ (r : RunAt). r.moment.time) here in
    let same : steps run.log ≡ steps job.log = ap (λ (r : RunAt). steps r.log) here in
    let begun = subst (seen c.args.watcher.now c.begin.new.watcher job) (sym none) (c.begin.ensures job stands none) in
    let all : run.moment.time + (steps run.log - run.moment.time) ≡ steps job.log = omega arith in
    subst (seen c.args.watcher.now c.finish.new.watcher job) all (c.in-Ok.ensures.told c.args.watcher.now job stands (omega arith) begun)
