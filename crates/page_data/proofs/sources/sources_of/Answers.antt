use Rattle.std.proofs.Common.{◌≡◌, ◌∙◌, ap, sym, subst, arith, ℕ, ◌+◌, ◌-◌, ◌++◌, List, length}
use Rattle.std.specs.List.{filter, flat_map, range_with_len}
use Rattle.std.proofs.lemmas.List.Elements.{filter-append}
use Rattle.flow_model.specs.declared.SourceByte.{SourceByte}
use Rattle.flow_model.specs.Orders.{source_cmp}
use Rattle.flow_model.proofs.Orders.{source_total}
use Rattle.log_model.specs.Logs.{Log}
use Rattle.log_model.specs.Moved.{received}
use Rattle.lists.specs.Sets.{Ascends}
use Rattle.lists.proofs.Algebra.{Ascends-set_of}
use Rattle.replayer.specs.Jobs.{trace_of}
use Rattle.report_model.specs.Query.{Query, has_source}
use Rattle.report_model.specs.Influence.{chosen_sources, sources_of as sources_in}
use Rattle.jet_model.specs.Sources.{sources_on, received_sources}
use Rattle.jet_model.proofs.Received.{sources_are_received}
use Rattle.page_data.proofs.InputChannels.{flat_map-one_more}
use Rattle.page_data.proofs.sources.sources_of.Goals as goal

abbrev on_channel : Log → ℕ → List SourceByte
on_channel log c = sources_on c (length (received c log.records))

-- one more channel
next : (q : Query) (log : Log) (n : ℕ) → filter (has_source q) (flat_map (on_channel log) (range_with_len 0 n)) ++ filter (has_source q) (on_channel log n)
    ≡ filter (has_source q) (flat_map (on_channel log) (range_with_len 0 (n + 1)))
next q log n =
    sym (filter-append (has_source q) (flat_map (on_channel log) (range_with_len 0 n)) (on_channel log n))
    ∙ ap (filter (has_source q)) (sym (flat_map-one_more (on_channel log) n))

pub loop-channel-preserved : goal.loop-channel-preserved
loop-channel-preserved c =
    let q = c.args.query.now in
    let log = c.args.job.now.log in
    let n : ℕ = c.loop-channel.channel in
    let count : c.from-count.result ≡ length (received n log.records) =
    c.from-count.ensures ∙ c.received.ensures.bytes ∙ ap (λ (k : ℕ). length (received k log.records)) c.from.ensures in
    let from_none : c.from-count.result - 0 ≡ c.from-count.result = omega arith in
    c.in_ok-add_chosen.ensures
    ∙ ap (λ (k : ℕ). c.loop-channel.sources ++ filter (has_source q) (sources_on n k)) from_none
    ∙ ap (λ (xs : List SourceByte). xs ++ filter (has_source q) (sources_on n c.from-count.result)) c.loop-channel.invariant
    ∙ ap (λ (k : ℕ). filter (has_source q) (flat_map (on_channel log) (range_with_len 0 n)) ++ filter (has_source q) (sources_on n k)) count
    ∙ next q log n

-- those of all channels
all_channels : (q : Query) (log : Log) (n : ℕ) (sources chosen : List SourceByte) → n ≡ 16
    → sources ≡ filter (has_source q) (flat_map (on_channel log) (range_with_len 0 n)) → chosen ≡ filter (has_source q) (received_sources log) → sources ≡ chosen
all_channels q log n sources chosen whole is received =
    is ∙ ap (λ (k : ℕ). filter (has_source q) (flat_map (on_channel log) (range_with_len 0 k))) whole ∙ sym received

pub into_set-requires : goal.into_set-requires
into_set-requires c =
    let q = c.args.query.now in
    let job = c.args.job.now in
    let trace = trace_of job in
    let whole : c.loop-channel.channel ≡ 16 = omega (arith, c.loop-channel-test.false, c.loop-channel.auto.channel-end) in
    subst (Ascends source_cmp)
    (sym (all_channels q job.log c.loop-channel.channel c.loop-channel.sources (chosen_sources q trace) whole c.loop-channel.invariant
    (sources_are_received q job.start job.log c.form.ensures.form c.form.ensures.agrees)))
    (Ascends-set_of source_total (filter (has_source q) (sources_in trace)))

pub returns : goal.returns
returns c =
    let q = c.args.query.now in
    let job = c.args.job.now in
    let whole : c.loop-channel.channel ≡ 16 = omega (arith, c.loop-channel-test.false, c.loop-channel.auto.channel-end) in
    c.into_set.ensures
    ∙ all_channels q job.log c.loop-channel.channel c.loop-channel.sources (chosen_sources q (trace_of job)) whole c.loop-channel.invariant
    (sources_are_received q job.start job.log c.form.ensures.form c.form.ensures.agrees)
