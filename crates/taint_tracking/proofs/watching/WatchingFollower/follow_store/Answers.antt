use Rattle.std.proofs.Common.{sym, subst, ◌∙◌, ap, not}
use Rattle.std.proofs.lemmas.Result.{on_ok_weaker}
use Rattle.taint_tracking.specs.Watched.{unless_faulty, TracksPlain}
use Rattle.taint_tracking.proofs.InARow.{no_fault, turned_or_out}
use Rattle.taint_tracking.proofs.watching.WatchingFollower.follow_store.Goals as goal

pub returns-then-is_none : goal.returns-then-is_none
returns-then-is_none g c instr fits is =
    let words = g.L.Labels.words in
    let place = c.args.place in
    let old = c.self.inside.tracking in
    let new = c.turn_store.new.self in
    let now = unless_faulty c.err-self-inside.result new in
    let same = sym (no_fault c.self.inside.no_memory old (c.is_none.ensures ∙ ap not c.if-is_none.true)) ∙ c.self.view_is in
    subst (λ w. TracksPlain words w instr place now) same
    (turned_or_out words instr place c.turn_store.result c.err-self-inside.result old new c.err-self-inside.ensures.value (on_ok_weaker c.turn_store.result (λ turned. turned instr is) c.turn_store.ensures.turned) c.turn_store.ensures.sound)
