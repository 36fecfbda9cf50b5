use Rattle.std.proofs.Common.{◌≡◌, ◌∙◌, ap, sym, subst, ℕ, List}
use Rattle.std.specs.Prelude.{Contains}
use Rattle.std.specs.List.{flat_map}
use Rattle.std.proofs.lemmas.List.{take_all}
use Rattle.std.proofs.lemmas.List.Filters.{dedup_is}
use Rattle.std.proofs.lemmas.List.Kept.{Contains-dedup_nat}
use Rattle.std.proofs.lemmas.List.Sorted.{Contains-permutation}
use Rattle.std.proofs.lemmas.Map.Keys.{IsStrictlyIncreasing-dedup}
use Rattle.sink_collect.specs.Places.{cuts_of}
use Rattle.sink_collect.proofs.pieces.cuts_of_rows.Goals as goal

pub returns-clause-all : goal.returns-clause-all
returns-clause-all c = λ cut h.
    let rows = c.args.rows.now in
    let whole : c.loop-row.cuts.items ≡ flat_map cuts_of rows =
    c.loop-row.invariant ∙ ap (flat_map cuts_of) (take_all c.loop-row.row-index rows c.loop-row-test.false) in
    let is = dedup_is _ _ _ c.dedup.ensures.filtered in
    let among : Contains c.loop-row.cuts.items cut = subst (λ (xs : List ℕ). Contains xs cut) (sym whole) h in
    rw is (Contains-dedup_nat _ cut (Contains-permutation _ _ cut c.sort_unstable.ensures.permutation among))

pub returns-clause-ascending : goal.returns-clause-ascending
returns-clause-ascending c = rw (dedup_is _ _ _ c.dedup.ensures.filtered) (IsStrictlyIncreasing-dedup _ c.sort_unstable.ensures.sorted)
