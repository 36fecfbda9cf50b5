use Rattle.std.proofs.Common.{◌≡◌, ℕ, ◌+◌, ◌<◌, List, [], ◌∷◌, ◌++◌, length, ap, sym, ◌∙◌, subst}
use Rattle.std.specs.List.{All}
use Rattle.checkpoints.specs.Points.{CheckpointAt, last_numbers}
use Rattle.checkpoints.specs.Taking.{AreTaken, TakenAt}
use Rattle.checkpoints.proofs.Holding.{last_is_new, one_longer}
use Rattle.checkpoints.proofs.Splitting.{below_later}
use Rattle.checkpoints.proofs.Taking.{one_taken}
use Rattle.checkpoints.proofs.taken.Taken.add.Goals as goal

pub invariant_of-self-2 : goal.invariant_of-self-2
invariant_of-self-2 c =
    let point : CheckpointAt = record { numbers = c.in_ok-numbers.numbers.items; rest = c.parts-rest.result.1 } in
    let last = ap (last_numbers []) c.in_ok-push.ensures.items ∙ last_is_new [] c.self.inside.points.items point in
    subst (All (λ (number : ℕ). number < length c.split.new.pages)) (sym last) c.in_ok-numbers.ensures.below

pub returns-clause-taken : goal.returns-clause-taken
returns-clause-taken c job times stands are others =
    let t = c.args.at.now.moment.time in
    let parts = c.parts-rest in
    let pages = c.self.inside.pages in
    let points = c.self.inside.points.items in
    let before = c.last_numbers-before.result.now in
    let numbers : before ≡ last_numbers [] points = c.last_numbers-before.ensures ∙ ap (last_numbers []) c.as_slice.ensures.value in
    let was = subst (AreTaken job times) (sym c.self.view_is) are in
    let kept = c.in_ok-numbers.ensures in
    let made = one_taken job t parts.result.0.now parts.result.1 (parts.ensures.of_job job stands) parts.ensures.time parts.ensures.size pages c.split.new.pages points before c.in_ok-numbers.numbers.items times c.args.touched.now.flags was numbers others kept.extended kept.paged kept.count in
    subst (λ (ps : List CheckpointAt). AreTaken job (times ++ t ∷ []) (record { pages = c.split.new.pages; points = ps })) (sym c.in_ok-push.ensures.items) made

pub split-requires : goal.split-requires
split-requires c = record {
  held = subst (All (λ (number : ℕ). number < length c.self.inside.pages)) (sym (c.last_numbers-before.ensures ∙ ap (last_numbers []) c.as_slice.ensures.value)) c.self.invariant;
}

pub invariant_of-self : goal.invariant_of-self
invariant_of-self c = below_later c.self.inside.pages c.split.new.pages (last_numbers [] c.self.inside.points.items) c.split.ensures.extended c.self.invariant

pub returns-clause-count : goal.returns-clause-count
returns-clause-count c =
    one_longer c.self.inside.points.items c.push.new.self.items _ c.in_ok-push.ensures.items ∙ ap (λ (t : TakenAt). length t.points + 1) c.self.view_is

pub invariant_of-self-in_err-push : goal.invariant_of-self-in_err-push
invariant_of-self-in_err-push c =
    let last = ap (last_numbers []) c.in_err-push.ensures.items in
    let kept = below_later c.self.inside.pages c.split.new.pages (last_numbers [] c.self.inside.points.items) c.split.ensures.extended c.self.invariant in
    subst (All (λ (number : ℕ). number < length c.split.new.pages)) (sym last) kept
