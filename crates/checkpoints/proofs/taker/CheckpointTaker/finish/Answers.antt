use Rattle.std.proofs.Common.{List, ℕ, map, ap, sym, ◌∙◌}
use Rattle.std.specs.Option.{is_some}
use Rattle.checkpoints.specs.Points.{time_of}
use Rattle.checkpoints.specs.Taking.{TakerAt}
use Rattle.checkpoints.proofs.Taking.{all_taken}
use Rattle.checkpoints.proofs.taker.CheckpointTaker.finish.Goals as goal

pub returns-in-None : goal.returns-in-None
returns-in-None c =
    let job = c.args.job.now in
    let w = c.args.self in
    let in_memory = ap (λ (x : TakerAt). x.is_out) (sym c.self.view_is) ∙ ap is_some c.in-None.is in
    let to = c.requires.seen c.form.ensures c.requires.cutting in_memory in
    let times = ap (λ (x : TakerAt). map time_of x.taken.points) c.self.view_is ∙ to.before.taken.at ∙ all_taken job w c.requires.cutting to in
    c.of.ensures ∙ ap (λ (ts : List ℕ). record { job = job; times = ts }) times
