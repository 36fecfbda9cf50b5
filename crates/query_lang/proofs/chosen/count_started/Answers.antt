use Rattle.std.proofs.Common.{rules}
use Rattle.std.proofs.lemmas.List.Sorted.{IsPartitionPoint-from_clause}
use Rattle.query_lang.specs.Spans.{starts_by}
use Rattle.query_lang.proofs.SpanLemmas.{partitioned}
use Rattle.query_lang.proofs.chosen.count_started.Goals as goal

pub returns-clause-point : goal.returns-clause-point
returns-clause-point c =
    let spans = c.args.spans.now in
    IsPartitionPoint-from_clause (starts_by c.args.channel c.args.offset) spans c.partition_point.result c.partition_point.ensures.partitioned
    (partitioned spans c.args.channel c.args.offset c.requires) (λ a r q k. search rules)
