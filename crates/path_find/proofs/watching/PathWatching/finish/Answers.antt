use Rattle.std.proofs.Common.{sym, subst}
use Rattle.std.specs.Prelude.{None}
use Rattle.log_model.specs.Logs.{steps}
use Rattle.replayer.specs.Jobs.{trace_of}
use Rattle.path_find.specs.declared.Pair.{Pair}
use Rattle.path_find.specs.Watched.{Knows, IsSeenTo, IsFound}
use Rattle.path_find.proofs.Seeing.{found_before, found_nowhere, found_at_end, found_or_out}
use Rattle.path_find.proofs.watching.PathWatching.finish.Goals as goal

pub returns-in-Met : goal.returns-in-Met
returns-in-Met c rule pair seen =
    let job = c.args.job.now in
    let before = subst (IsSeenTo rule pair (trace_of job) (steps job.log)) (sym c.self.view_is) seen in
    found_before rule pair job c.in-Met.found (subst (Knows rule pair (trace_of job) (steps job.log)) c.in-Met.is before.knows)

pub returns-in-None : goal.returns-in-None
returns-in-None c rule pair seen =
    let inside = c.self.inside in
    let job = c.args.job.now in
    let before = subst (IsSeenTo rule pair (trace_of job) (steps job.log)) (sym c.self.view_is) seen in
    let known = subst (Knows rule inside.pair (trace_of job) (steps job.log)) c.in-Before.is (subst (λ (p : Pair). Knows rule p (trace_of job) (steps job.log) inside.standing) (sym before.pair_is) before.knows) in
    subst (λ (p : Pair). IsFound rule p job None) before.pair_is (found_nowhere rule inside.pair job c.in-Before.trail c.steps-end.result c.steps-end.ensures known c.in-None.ensures.here)

pub returns-in-Before : goal.returns-in-Before
returns-in-Before c =
    let inside = c.self.inside in
    let job = c.args.job.now in
    found_or_out c.path_here.result (λ found is time rule pair seen.
    let before = subst (IsSeenTo rule pair (trace_of job) (steps job.log)) (sym c.self.view_is) seen in
    let known = subst (Knows rule inside.pair (trace_of job) (steps job.log)) c.in-Before.is (subst (λ (p : Pair). Knows rule p (trace_of job) (steps job.log) inside.standing) (sym before.pair_is) before.knows) in
    subst (λ (p : Pair). IsFound rule p job found) before.pair_is
    (found_at_end rule inside.pair job c.in-Before.trail c.steps-end.result c.steps-end.ensures known c.in-Some.loc found c.in-Some.ensures.here is time)) c.path_here.ensures.path c.path_here.ensures.time
