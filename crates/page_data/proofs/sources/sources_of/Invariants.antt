use Rattle.std.proofs.Common.{◌≡◌, length}
use Rattle.std.specs.List.{filter, flat_map, range_with_len}
use Rattle.log_model.specs.Moved.{received}
use Rattle.report_model.specs.Query.{has_source}
use Rattle.jet_model.specs.Sources.{sources_on}
use Rattle.page_data.proofs.sources.sources_of.Given as goal

-- those of the first channels are added
abbrev pub invariant-loop-channel : goal.invariant-loop-channel
invariant-loop-channel l = l.sources ≡ filter (has_source l.query) (flat_map (λ c. sources_on c (length (received c l.job.log.records))) (range_with_len 0 l.channel))
