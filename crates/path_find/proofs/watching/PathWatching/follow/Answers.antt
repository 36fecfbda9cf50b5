use Rattle.std.proofs.Common.{◌+◌, sym, subst}
use Rattle.path_find.specs.declared.Pair.{Pair}
use Rattle.path_find.specs.declared.watching.Standing.{Standing}
use Rattle.path_find.specs.declared.watching.Standing.TheVariants.{Before}
use Rattle.path_find.specs.Watched.{WatchingAt, Knows, IsSeenTo}
use Rattle.path_find.proofs.Seeing.{known_still}
use Rattle.path_find.proofs.watching.PathWatching.follow.Goals as goal

pub returns-in_default : goal.returns-in_default
returns-in_default c rule pair trace at h =
    let step = c.args.step.now in
    let before = subst (IsSeenTo rule pair trace step.number) (sym c.self.view_is) h in
    record { pair_is = before.pair_is; knows = known_still rule pair trace step at c.self.inside.standing c.in_default.not-Before before.knows }

pub returns-in-None : goal.returns-in-None
returns-in-None c rule pair trace at h =
    let inside = c.self.inside in
    let step = c.args.step.now in
    let before = subst (IsSeenTo rule pair trace step.number) (sym c.self.view_is) h in
    let known = subst (Knows rule inside.pair trace step.number) c.in-Before.is (subst (λ (p : Pair). Knows rule p trace step.number inside.standing) (sym before.pair_is) before.knows) in
    let now = c.in-None.ensures.known rule inside.pair.source trace at known in
    record { pair_is = before.pair_is; knows = subst (λ (p : Pair). Knows rule p trace (step.number + 1) (Before c.after_step.new.trail)) before.pair_is now }

pub returns-in-Some : goal.returns-in-Some
returns-in-Some c rule pair trace at h =
    let inside = c.self.inside in
    let step = c.args.step.now in
    let before = subst (IsSeenTo rule pair trace step.number) (sym c.self.view_is) h in
    let known = subst (Knows rule inside.pair trace step.number) c.in-Before.is (subst (λ (p : Pair). Knows rule p trace step.number inside.standing) (sym before.pair_is) before.knows) in
    let now = c.in-Some.ensures.known rule inside.pair.source trace at known in
    let new : WatchingAt = record { pair = inside.pair; standing = c.in-Some.next } in
    let seen : IsSeenTo rule pair trace (step.number + 1) new =
    record { pair_is = before.pair_is; knows = subst (λ (p : Pair). Knows rule p trace (step.number + 1) c.in-Some.next) before.pair_is now } in
    subst (λ (x : Standing). IsSeenTo rule pair trace (step.number + 1) (record { pair = inside.pair; standing = x })) (sym c.replace.ensures) seen
