use Rattle.std.proofs.Common.{◌≡◌, ℕ, ◌<◌, List, Some, length, map, arith, ap, sym, ◌∙◌, subst}
use Rattle.std.specs.List.{All}
use Rattle.std.specs.Prelude.{slice_get}
use Rattle.std.proofs.lemmas.List.{length-map}
use Rattle.std.specs.Option.{option_map}
use Rattle.std.proofs.lemmas.Option.{slice_get-map, slice_get-get_or}
use Rattle.replayer.specs.Positions.{CursorAt}
use Rattle.replayer.specs.Saved.{SavedCursor, IsOfJob}
use Rattle.checkpoints.specs.Pages.{ArePagesOf}
use Rattle.checkpoints.specs.Points.{CheckpointsAt, CheckpointAt, time_of}
use Rattle.checkpoints.proofs.Holding.{index_below, checkpoint_at, numbers_below, size_again, saved_again}
use Rattle.checkpoints.proofs.checkpoints.Checkpoints.start.Goals as goal

pub returns : goal.returns
returns c =
    let points = c.self.inside.points.items in
    let point = c.index-point.result.now in
    let times : map time_of points ≡ c.args.self.now.times = ap (λ (p : CheckpointsAt). p.times) c.self.view_is in
    let below : c.args.k < length points = omega (arith, c.requires, ap length times, length-map points time_of) in
    record {
      job = ap (λ (p : CursorAt). p.job) (c.in_ok-keep_decoded.ensures ∙ c.from-cursor.ensures) ∙ ap (λ (p : CheckpointsAt). p.job) c.self.view_is;
      time =
          ap (λ ts. slice_get ts c.args.k) (sym times)
          ∙ slice_get-map time_of points c.args.k
          ∙ ap (option_map time_of) (slice_get-get_or points c.args.k point below)
          ∙ ap (λ (p : CheckpointAt). Some (time_of p)) (sym c.index-point.ensures ∙ sym c.point.view_is)
          ∙ ap (λ (s : SavedCursor). Some s.counters.time) (sym c.whole.ensures)
          ∙ ap (λ (p : CursorAt). Some p.time) (sym c.from-cursor.ensures ∙ sym c.keep_decoded.ensures);
    }

pub join-requires : goal.join-requires
join-requires c =
    let pages = c.self.inside.pages in
    let below = index_below _ _ _ _ c.self.view_is c.requires in
    let here = checkpoint_at _ pages _ _ _ _ c.self.invariant below c.index-point.ensures c.point.view_is in
    subst (All (λ (number : ℕ). number < length pages)) (sym c.as_slice.ensures.value) (numbers_below pages _ _ here.paged)

pub whole-requires : goal.whole-requires
whole-requires c =
    let pages = c.self.inside.pages in
    let below = index_below _ _ _ _ c.self.view_is c.requires in
    let here = checkpoint_at _ pages _ _ _ _ c.self.invariant below c.index-point.ensures c.point.view_is in
    size_again _ pages _ here c.in_ok-bytes.bytes.items
    (λ window are. c.in_ok-bytes.ensures window (subst (λ (numbers : List ℕ). ArePagesOf pages numbers window) (sym c.as_slice.ensures.value) are))

pub from-cursor-requires : goal.from-cursor-requires
from-cursor-requires c =
    let pages = c.self.inside.pages in
    let below = index_below _ _ _ _ c.self.view_is c.requires in
    let here = checkpoint_at _ pages _ _ _ _ c.self.invariant below c.index-point.ensures c.point.view_is in
    let again = saved_again _ pages _ here c.in_ok-bytes.bytes.items
    (λ window are. c.in_ok-bytes.ensures window (subst (λ (numbers : List ℕ). ArePagesOf pages numbers window) (sym c.as_slice.ensures.value) are)) in
    subst (IsOfJob c.self.inside.job.now) (sym (c.whole.ensures ∙ again)) here.of_job
