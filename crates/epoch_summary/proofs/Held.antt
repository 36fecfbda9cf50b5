-- What is read of a sink.
use Rattle.std.proofs.Common.{◌≡◌, ℕ, ◌<◌, length, slice_get, get_or, ap, sym, ◌∙◌}
use Rattle.std.specs.Prelude.{Some}
use Rattle.epoch_model.specs.Summary.{Terms}
use Rattle.taint_shadow.specs.declared.labels.SinkLabel.{SinkLabel}
use Rattle.epoch_summary.specs.declared.summary.Summary.{Summary}
use Rattle.source_labels.specs.Words.{node_words}
use Rattle.epoch_summary.specs.Summaries.{summary_of, terms_of}
use Rattle.epoch_summary.proofs.Named.{nth}

-- what was read for a sink's label are the terms of the sink
pub sink_read : (e : Summary) (number : ℕ) (sink : SinkLabel) (read : Terms) → number < length (summary_of e).sinks → sink ≡ get_or e.sinks.items number sink
    → read ≡ node_words.means e.nodes sink.label → slice_get (terms_of e) number ≡ Some read
sink_read e number sink read inside at is = nth (λ k. k.terms) e.nodes e.sinks.items number sink inside at ∙ ap Some (sym is)
