-- Choices of one byte or point alone.
use Rattle.std.specs.Prelude.{◌≡◌, ℕ, true, List}
use Rattle.flow_model.specs.declared.SourceByte.{SourceByte}
use Rattle.flow_model.specs.declared.SinkPoint.{SinkPoint}
use Rattle.report_model.specs.Query.{Choice, Query, chooses, has_source, has_sink}

-- this byte is chosen, and no other
pub record IsOnlyByte (choices : List Choice) (c o : ℕ) : Type 0 where
  pub chosen : chooses choices c o ≡ true
  pub alone : (d p : ℕ) → chooses choices d p ≡ true → (d ≡ c) × (p ≡ o)

pub record IsOnlySource (q : Query) (s : SourceByte) : Type 0 where
  pub chosen : has_source q s ≡ true
  pub alone : (b : SourceByte) → has_source q b ≡ true → b ≡ s

pub record IsOnlySink (q : Query) (name : SinkPoint) : Type 0 where
  pub chosen : has_sink q name ≡ true
  pub alone : (other : SinkPoint) → has_sink q other ≡ true → other ≡ name
