use Rattle.std.proofs.Common.{sym, subst, ◌∙◌, ap, not}
use Rattle.taint_tracking.specs.Watched.{unless_faulty, TracksPlain}
use Rattle.taint_tracking.proofs.InARow.{no_fault, turned_or_out}
use Rattle.taint_tracking.proofs.watching.WatchingFollower.follow.Goals as goal

pub returns-then-is_none : goal.returns-then-is_none
returns-then-is_none g c =
    let words = g.L.Labels.words in
    let instr = c.args.instr.now in
    let old = c.self.inside.tracking in
    let new = c.turn.new.self in
    let now = unless_faulty c.err-self-inside.result new in
    let same = sym (no_fault c.self.inside.no_memory old (c.is_none.ensures ∙ ap not c.if-is_none.true)) ∙ c.self.view_is in
    subst (λ w. TracksPlain words w instr 0 now) same (turned_or_out words instr 0 c.turn.result c.err-self-inside.result old new c.err-self-inside.ensures.value c.turn.ensures.turned c.turn.ensures.sound)
