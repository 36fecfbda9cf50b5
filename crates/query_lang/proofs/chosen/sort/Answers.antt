use Rattle.std.proofs.Common.{sym}
use Rattle.std.proofs.lemmas.List.Sorted.{list_any-IsPermutation}
use Rattle.query_lang.specs.Spans.{span_has}
use Rattle.query_lang.proofs.chosen.sort.Goals as goal

pub returns-clause-same : goal.returns-clause-same
returns-clause-same c = λ channel offset. sym (list_any-IsPermutation (span_has channel offset) c.args.spans.items c.sort_unstable.new.self.items c.sort_unstable.ensures.permutation)
