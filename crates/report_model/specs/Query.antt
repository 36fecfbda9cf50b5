-- Queries, and which bytes and points they choose.
use Rattle.std.specs.Prelude.{◌≡◌, ℕ, ◌==◌, nat_lt, nat_le, Bool, true, ◌&&◌, List, All, Option, Some, None}
use Rattle.std.specs.List.{list_any}
use Rattle.flow_model.specs.declared.Rule.{Rule}
use Rattle.flow_model.specs.declared.SourceByte.{SourceByte}
use Rattle.flow_model.specs.declared.InnerSink.{InnerSink}
use Rattle.flow_model.specs.declared.SinkPoint.{SinkPoint}
use Rattle.flow_model.specs.declared.SinkPoint.TheVariants.{Out, At}
use Rattle.flow_model.specs.Orders.{inner_cmp}
use Rattle.flow_model.specs.Origins.{Policy}
use Rattle.flow_model.specs.Ranges.{IsLocation}
use Rattle.lists.specs.Sets.{has}

-- the offsets from one up to another, and without it; all of them where none are named
pub record Offsets : Type 0 where
  pub from : ℕ
  pub past : ℕ

-- some bytes of a channel; of every channel where none is named
pub record Choice : Type 0 where
  pub channel : Option ℕ
  pub offsets : Option Offsets

pub record Query : Type 0 where
  pub rule : Rule
  pub sources : List Choice
  pub sinks : List Choice
  pub points : List InnerSink

abbrev pub is_channel : Option ℕ → ℕ → Bool
is_channel None c = true
is_channel (Some chosen) c = chosen == c

abbrev pub is_within : Option Offsets → ℕ → Bool
is_within None o = true
is_within (Some range) o = nat_le range.from o && nat_lt o range.past

-- some line chooses the byte: choices may overlap, and what they choose is their union
abbrev pub chooses : List Choice → ℕ → ℕ → Bool
chooses choices c o = list_any (λ x. is_channel x.channel c && is_within x.offsets o) choices

abbrev pub has_source : Query → SourceByte → Bool
has_source q b = chooses q.sources b.channel b.offset

-- the query asks for an output byte that one of its lines chooses, and for a point that is one of its own
abbrev pub has_sink : Query → SinkPoint → Bool
has_sink q (Out b) = chooses q.sinks b.channel b.offset
has_sink q (At p) = has inner_cmp p q.points

-- each of the points is at a lane of a register, or at an address
abbrev pub AreLocated : List InnerSink → Type 0
AreLocated points = All (λ p. IsLocation p.loc) points

-- taint comes from the chosen source bytes, and propagates by the query's rule
abbrev pub policy_of : Query → Policy
policy_of q = record { rule = q.rule; introduces = has_source q }

-- two queries are alike: they have one rule and the same points, and choose the same bytes
pub record Alike (q p : Query) : Type 0 where
  pub rule : q.rule ≡ p.rule
  pub sources : (c o : ℕ) → chooses q.sources c o ≡ chooses p.sources c o
  pub sinks : (c o : ℕ) → chooses q.sinks c o ≡ chooses p.sinks c o
  pub points : q.points ≡ p.points
