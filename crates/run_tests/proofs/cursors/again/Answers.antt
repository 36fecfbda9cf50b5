use Rattle.std.proofs.Common.{◌≡◌, ◌∙◌, sym, subst}
use Rattle.std.specs.Prelude.{IfOk, Ok}
use Rattle.replayer.specs.Jobs.{Job}
use Rattle.replayer.specs.Saved.{IsOfJob, SavedCursor}
use Rattle.run_tests.proofs.cursors.again.Goals as goal

pub from-requires : goal.from-requires
from-requires g c =
    let of_job = subst (λ r. IfOk r (λ (saved : SavedCursor). IsOfJob c.args.cursor.now.job saved)) c.expect-saved.ensures c.save.ensures.of_job in
    subst (λ (saved : SavedCursor). IsOfJob c.args.job.now saved) (sym (c.whole.ensures ∙ c.apart-window.ensures.again))
    (subst (λ (job : Job). IsOfJob job c.expect-saved.result) c.requires of_job)
