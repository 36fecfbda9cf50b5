use Rattle.std.proofs.Common.{◌≡◌, ◌*◌, ◌++◌, ℕ, List, take, arith, ap, ◌∙◌}
use Rattle.checkpoints.specs.Pages.{page_count}
use Rattle.checkpoints.proofs.Splitting.{next_page, all_pages}
use Rattle.checkpoints.proofs.paging.join.Goals as goal

pub loop-number-preserved : goal.loop-number-preserved
loop-number-preserved c window are =
    let i = c.loop-number.number-index in
    let here = c.page.ensures ∙ (are.each i (omega (arith, c.loop-number-test.true))).is in
    c.in_ok-extend_from_slice.ensures.items
    ∙ ap (λ (bytes : List ℕ). bytes ++ c.page.result.now) (c.loop-number.invariant window are)
    ∙ ap (λ (bytes : List ℕ). take (i * 4096) window ++ bytes) here
    ∙ next_page window i

pub returns : goal.returns
returns c window are =
    let all : c.loop-number.number-index ≡ page_count window = omega (arith, c.loop-number-test.false, c.loop-number.auto.number-index-end, are.count) in
    c.loop-number.invariant window are ∙ all_pages window c.loop-number.number-index all
