use Rattle.std.proofs.Common.{sym, ◌+◌, subst}
use Rattle.path_find.specs.declared.Pair.{Pair}
use Rattle.path_find.specs.Watched.{Knows}
use Rattle.path_find.proofs.Seeing.{passed, meets_or_out}
use Rattle.path_find.proofs.watching.after_step.Goals as goal

pub returns-in-Some-clause-known : goal.returns-in-Some-clause-known
returns-in-Some-clause-known c rule s trace at h =
    let step = c.args.step.now in
    let pair : Pair = record { sink = c.args.sink; source = s } in
    let now = meets_or_out rule pair trace step at c.args.trail.now c.in-Some.loc c.path_here.result c.in-Some.ensures.here c.path_here.ensures.path c.path_here.ensures.time h in
    subst (Knows rule pair trace (step.number + 1)) (sym c.met.ensures) now

pub returns-in-Ok-clause-known : goal.returns-in-Ok-clause-known
returns-in-Ok-clause-known c rule s trace at h =
    let pair : Pair = record { sink = c.args.sink; source = s } in
    passed rule pair trace c.args.step.now at c.args.trail.now c.follow.new.self (sym c.in_default.ensures.here) c.in-Ok.ensures.followed h
