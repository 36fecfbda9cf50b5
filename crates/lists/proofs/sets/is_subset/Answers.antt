use Rattle.std.proofs.Common.{◌<◌, ◌+◌, length, drop, ℕ, arith, ap, sym, ◌∙◌}
use Rattle.std.proofs.lemmas.Bool.Decides.{nat_tests}
use Rattle.lists.specs.Sets.{is_within}
use Rattle.lists.proofs.Places.{not_within, within_both, within_after, all_found}
use Rattle.lists.proofs.sets.is_subset.Goals as goal
use Rattle.lists.proofs.sets.is_subset.Goals.{in-Equal, in-Greater}

pub returns-in-Less : goal.returns-in-Less
returns-in-Less g c =
    let before = c.loop-member in
    let some : before.found < length c.args.few.now = grind (arith, nat_tests) in
    sym (not_within g.met.T.Ord.total c.args.few.now c.args.many.now before.found before.member-index c.index-few-found.result c.member-item.result
    c.requires.few c.requires.many some c.loop-member-test.true c.index-few-found.is c.member-item.is (sym c.in-Less.ensures)) ∙ before.invariant.same

pub loop-member-preserved : goal.loop-member-preserved
loop-member-preserved g c =
    let before = c.loop-member in
    let few = c.args.few.now in
    let many = c.args.many.now in
    let some : before.found < length few = grind (arith, nat_tests) in
    let left = λ (n : ℕ). is_within g.T.Ord.cmp (drop n few) (drop (before.member-index + 1) many) in
    elim c.match-cmp.branch [
      | in-Equal w ↦ record {
        in_range = omega arith;
        same = ap left w.found-is ∙ sym (within_both g.met.T.Ord.total few many before.found before.member-index c.index-few-found.result c.member-item.result
            c.requires.few c.requires.many some c.loop-member-test.true c.index-few-found.is c.member-item.is (sym w.in-Equal.ensures)) ∙ before.invariant.same;
      }
      | in-Greater w ↦ record {
        in_range = omega arith;
        same = ap left w.found-is ∙ sym (within_after g.met.T.Ord.total few many before.found before.member-index c.index-few-found.result c.member-item.result
            c.requires.few c.requires.many some c.loop-member-test.true c.index-few-found.is c.member-item.is (sym w.in-Greater.ensures)) ∙ before.invariant.same;
      }
    ]

pub returns : goal.returns
returns g c =
    all_found g.met.T.Ord.total c.args.few.now c.args.many.now c.loop-member.found c.loop-member.member-index c.loop-member.invariant.in_range c.loop-member-test.false
    ∙ c.loop-member.invariant.same
