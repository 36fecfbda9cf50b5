-- What the analysis of an epoch found.
use Rattle.std.specs.Prelude.{ℕ, List, map}
use Rattle.flow_model.specs.declared.Loc.{Loc}
use Rattle.flow_model.specs.declared.SinkPoint.{SinkPoint}
use Rattle.epoch_model.specs.Summary.{Terms, SinkTerms, Summary as EpochSummary}
use Rattle.taint_shadow.specs.Places.{kept}
use Rattle.taint_shadow.specs.Steps.{meaning_at}
use Rattle.taint_shadow.specs.declared.labels.Label.{Label}
use Rattle.taint_shadow.specs.declared.labels.SinkLabel.{SinkLabel}
use Rattle.taint_shadow.specs.declared.places.Places.{Places}
use Rattle.source_labels.specs.declared.nodes.Nodes.{Nodes}
use Rattle.epoch_summary.specs.declared.summary.Summary.{Summary}
use Rattle.source_labels.specs.Words.{node_words}

-- the number of its epoch
abbrev pub number_of : Summary → ℕ
number_of e = e.number

-- the labels that its locations and its sinks have
abbrev pub nodes_of : Summary → Nodes
nodes_of e = e.nodes

-- its sinks in the order of the run, each with its label
abbrev pub sinks_of : Summary → List SinkLabel
sinks_of e = e.sinks.items

-- the label that a location has at the epoch's end
abbrev pub end_label : Summary → Loc → Label
end_label e l = kept e.places l

-- a sink with the terms of its label
abbrev pub named : Nodes → SinkLabel → SinkTerms
named nodes k = record { name = k.name; terms = node_words.means nodes k.label }

-- the terms of each location and of each sink: those of the labels that are kept
abbrev pub summary_by : Nodes → Places → List SinkLabel → EpochSummary
summary_by nodes places sinks = record {
  ends = λ l. meaning_at node_words nodes places l;
  sinks = map (named nodes) sinks;
}

-- the terms of each location at the epoch's end, and of each of its sinks
abbrev pub summary_of : Summary → EpochSummary
summary_of e = summary_by e.nodes e.places e.sinks.items

-- the names of its sinks, in the order of the run
abbrev pub names_of : Summary → List SinkPoint
names_of e = map (λ k. k.name) (summary_of e).sinks

-- the terms of its sinks, in the same order
abbrev pub terms_of : Summary → List Terms
terms_of e = map (λ k. k.terms) (summary_of e).sinks
