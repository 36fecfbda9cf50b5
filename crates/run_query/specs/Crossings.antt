-- What crosses the cuts of a run.
use Rattle.std.specs.Prelude.{ℕ, ◌+◌, List, [], ◌∷◌}
use Rattle.flow_model.specs.declared.Loc.{Loc}
use Rattle.flow_model.specs.declared.StepSeen.{StepSeen}
use Rattle.report_model.specs.Query.{Query}
use Rattle.stream_model.specs.Work.{asked_at}

-- the number of a cut, and the locations that are asked for there
pub record CrossedAt : Type 0 where
  pub cut : ℕ
  pub asked : List Loc

-- what is asked at cuts, of which the first has this number
abbrev pub numbered : ℕ → List (List Loc) → List CrossedAt
numbered k [] = []
numbered k (ls ∷ rest) = record { cut = k; asked = ls } ∷ numbered (k + 1) rest

-- what is asked at the inner cuts of a run, numbered from 1
abbrev pub crossed : Query → List StepSeen → List ℕ → List CrossedAt
crossed q trace cuts = numbered 1 (asked_at q trace cuts)
