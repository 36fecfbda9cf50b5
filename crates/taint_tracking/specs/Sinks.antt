-- The sinks of an epoch, each with a label.
use Rattle.std.specs.Prelude.{◌≡◌, ℕ, ◌++◌, List, map, All}
use Rattle.std.specs.List.{filter}
use Rattle.flow_model.specs.declared.Loc.{Loc}
use Rattle.flow_model.specs.declared.SinkPoint.{SinkPoint}
use Rattle.flow_model.specs.declared.InnerSink.{InnerSink}
use Rattle.report_model.specs.Query.{Query, has_sink}
use Rattle.report_model.specs.Rows.{Sink, point_sink, at_time}
use Rattle.taint_shadow.specs.declared.places.Places.{Places}
use Rattle.taint_shadow.specs.Labels.{LabelWords}
use Rattle.taint_shadow.specs.Places.{kept}
use Rattle.taint_shadow.specs.declared.labels.SinkLabel.{SinkLabel}

-- those of the sinks that the query chooses
abbrev pub chosen : Query → List Sink → List Sink
chosen q sinks = filter (λ k. has_sink q k.name) sinks

-- the points at a time, as sinks
abbrev pub sinks_at : ℕ → List InnerSink → List Sink
sinks_at t points = map point_sink (at_time t points)

-- ---- noting

-- a sink with the label of its location
abbrev pub noted : Places → Sink → SinkLabel
noted places k = record { name = k.name; label = kept places k.loc }

-- these sinks came to those that were noted, in their order
abbrev pub Notes : Places → List Sink → List SinkLabel → List SinkLabel → Type 0
Notes places sinks old new = new ≡ old ++ map (noted places) sinks

-- ---- meanings

-- a sink with what m gives for its location at its time
abbrev pub meant : {M : Type 0} → (ℕ → Loc → M) → Sink → SinkPoint × M
meant m k = (k.name, m k.time k.loc)

module _ {A M : Type 0} (words : LabelWords A M) where
  -- a sink with what its label means
  abbrev pub labelled : A → SinkLabel → SinkPoint × M
  labelled labels k = (k.name, words.means labels k.label)

  -- the label of each of the sinks stands
  abbrev pub AreLabelled : A → List SinkLabel → Type 0
  AreLabelled labels sinks = All (λ k. words.stands labels k.label) sinks
