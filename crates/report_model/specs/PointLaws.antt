-- The points of the queries that texts stand for are at locations.
use Rattle.std.specs.Prelude.{◌≡◌, ℕ, List, Ok, All}
use Rattle.report_model.specs.Query.{Query, AreLocated}
use Rattle.report_model.specs.Grammar.{query}
use Rattle.report_model.specs.Together.{together}

-- the points of a text's query are at locations
abbrev pub PointsOfTexts : Type 0
PointsOfTexts = (text : List ℕ) (q : Query) → query text ≡ Ok q → AreLocated q.points

-- and those of several queries taken together, where each one's are
abbrev pub PointsTogether : Type 0
PointsTogether = (qs : List Query) → All (λ q. AreLocated q.points) qs → AreLocated (together qs).points
