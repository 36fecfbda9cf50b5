use Rattle.std.proofs.Common.{None, sym, ◌∙◌}
use Rattle.query_lang.specs.declared.choice.Span.{Span}
use Rattle.query_lang.proofs.SpanLemmas.{merging_begins, merging_joins, merging_keeps, merging_ends}
use Rattle.query_lang.proofs.chosen.merged.Goals as goal
use Rattle.query_lang.proofs.chosen.merged.Goals.{then-reaches, else-reaches+in_ok-push}

pub loop-span-init : goal.loop-span-init
loop-span-init c = merging_begins c.args.spans.now c.new-kept.result.items c.in-Some.first.now c.in-Some.others.now c.new-kept.ensures.items c.in-Some.ensures.cases.0 c.requires

-- what stands at an index that is none
abbrev none : Span
none = record { channel = 0; offsets = None }

pub loop-span-preserved : goal.loop-span-preserved
loop-span-preserved c =
    let before = c.loop-span in
    let all = c.args.spans.now in
    let others = c.in-Some.others.now in
    elim c.if-reaches.branch [
      | then-reaches w ↦ rw (w.last-is, w.kept-is) (merging_joins all before.kept.items before.last w.joined-last.result others before.span-index none before.invariant c.loop-span-test.true w.joined-last.ensures.start w.joined-last.ensures.both)
      | else-reaches+in_ok-push w ↦ rw (w.last-is, w.kept-is, w.in_ok-push.ensures.items) (merging_keeps all before.kept.items before.last others before.span-index none before.invariant c.loop-span-test.true (sym c.reaches.ensures ∙ w.if-reaches.false))
    ]

pub returns-clause-apart : goal.returns-clause-apart
returns-clause-apart c =
    let before = c.loop-span in
    let ends = merging_ends c.args.spans.now before.kept.items before.last c.in-Some.others.now before.span-index before.invariant c.loop-span-test.false in
    rw c.in_ok-push-2.ensures.items ends.0
