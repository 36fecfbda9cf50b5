-- Sinks with labels of source bytes in one log, and the rows that they come to.
use Rattle.std.specs.Prelude.{List, All}
use Rattle.report_model.specs.Rows.{Row}
use Rattle.taint_shadow.specs.declared.labels.SinkLabel.{SinkLabel}
use Rattle.source_labels.specs.declared.labels.SourceLabels.{SourceLabels}
use Rattle.source_labels.specs.Words.{label_words}

-- the label of each of the sinks stands
abbrev pub SinksStand : SourceLabels → List SinkLabel → Type 0
SinksStand labels sinks = All (λ k. label_words.stands labels k.label) sinks

-- a sink with the source bytes of its label
abbrev pub row_by : SourceLabels → SinkLabel → Row
row_by labels k = record { sink = k.name; sources = label_words.means labels k.label }
