use Rattle.std.proofs.Common.{arith, ap, ap₂, ◌∙◌, ◌++◌, List}
use Rattle.std.proofs.lemmas.List.{take_rest}
use Rattle.lists.proofs.Places.{left_pushed, both_pushed, right_pushed, rest_of_left, rest_of_right}
use Rattle.lists.proofs.sets.push_union.Goals as goal
use Rattle.lists.proofs.sets.push_union.Goals.{then-loop-i-test+else-j-right, else-loop-i-test}

pub loop-i-preserved-in-Less : goal.loop-i-preserved-in-Less
loop-i-preserved-in-Less g c = record {
  left = omega arith;
  right = omega arith;
  merged = left_pushed g.met.T.Ord.total c.args.left.now c.args.right.now c.loop-i.i c.loop-i.j c.index-left-i.result c.index-right-j.result
      c.requires.left c.requires.right c.loop-i-test.true c.if-j-right.true c.index-left-i.is c.index-right-j.is
      c.loop-i.all.items _ c.loop-i.invariant.merged c.index-left-i-in-Less.result _ c.index-left-i-in-Less.is c.in_ok-push-in-Less.ensures.items c.in-Less.ensures;
}

pub loop-i-preserved-in-Equal : goal.loop-i-preserved-in-Equal
loop-i-preserved-in-Equal g c = record {
  left = omega arith;
  right = omega arith;
  merged = both_pushed g.met.T.Ord.total c.args.left.now c.args.right.now c.loop-i.i c.loop-i.j c.index-left-i.result c.index-right-j.result
      c.requires.left c.requires.right c.loop-i-test.true c.if-j-right.true c.index-left-i.is c.index-right-j.is
      c.loop-i.all.items _ c.loop-i.invariant.merged c.index-right-j-in-Equal.result _ c.index-right-j-in-Equal.is c.in_ok-push-in-Equal.ensures.items c.in-Equal.ensures;
}

pub loop-i-preserved : goal.loop-i-preserved
loop-i-preserved g c = record {
  left = omega arith;
  right = omega arith;
  merged = right_pushed g.met.T.Ord.total c.args.left.now c.args.right.now c.loop-i.i c.loop-i.j c.index-left-i.result c.index-right-j.result
      c.requires.left c.requires.right c.loop-i-test.true c.if-j-right.true c.index-left-i.is c.index-right-j.is
      c.loop-i.all.items _ c.loop-i.invariant.merged c.index-right-j-in-Greater.result _ c.index-right-j-in-Greater.is c.in_ok-push-in-Greater.ensures.items c.in-Greater.ensures;
}

pub returns : goal.returns
returns g c =
    let left = c.args.left.now in
    let right = c.args.right.now in
    let rest = c.in_ok-extend_from_slice-2.ensures.items
    ∙ ap₂ (λ (xs ys : List _). xs ++ ys) (c.in_ok-extend_from_slice.ensures.items ∙ ap (λ (xs : List _). c.loop-i.all.items ++ xs) (take_rest left c.loop-i.i)) (take_rest right c.loop-i.j) in
    let m = c.loop-i.invariant.merged in
    rest ∙ elim c.loop-i-test.branch [
      | then-loop-i-test+else-j-right w ↦ rest_of_left g.met.T.Ord.total c.loop-i.all.items left right _ c.loop-i.i c.loop-i.j m c.requires.left w.if-j-right.false
      | else-loop-i-test w ↦ rest_of_right g.met.T.Ord.total c.loop-i.all.items left right _ c.loop-i.i c.loop-i.j m w.loop-i-test.false
    ]
