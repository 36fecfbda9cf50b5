use Rattle.query_lang.proofs.SpanLemmas.{IsMerging}
use Rattle.query_lang.proofs.chosen.merged.Given as goal

abbrev pub invariant-loop-span : goal.invariant-loop-span
invariant-loop-span l = IsMerging l.fn.spans l.kept.items l.last l.others l.span-index
