use Rattle.std.proofs.Common.{sym, subst, ◌∙◌, ap, not}
use Rattle.std.specs.Prelude.{Some}
use Rattle.std.proofs.lemmas.Result.{on_ok_weaker}
use Rattle.taint_tracking.specs.Watched.{unless_faulty, TracksNext}
use Rattle.taint_tracking.proofs.InARow.{no_fault, kept_after}
use Rattle.taint_tracking.proofs.watching.Watching.track.Goals as goal

pub returns-then-is_none : goal.returns-then-is_none
returns-then-is_none g c =
    let words = g.L.Labels.words in
    let step = c.args.step.now in
    let old = c.self.inside.tracking in
    let new = c.step.new.self in
    let now = unless_faulty c.err-self-inside.result new in
    let same = sym (no_fault c.self.inside.no_memory old (c.is_none.ensures ∙ ap not c.if-is_none.true)) ∙ c.self.view_is in
    subst (λ w. TracksNext words step w now) same
    (kept_after (TracksNext words step (Some old)) c.step.result c.err-self-inside.result new c.err-self-inside.ensures.value
    (on_ok_weaker c.step.result (λ tracks trace at q first here m course. tracks trace at q first m course (here m course)) c.step.ensures.followed) (λ trace at q first here m course. tt))
