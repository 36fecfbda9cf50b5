-- What of a run is analysed for a query.
use Rattle.std.specs.Prelude.{ℕ, ◌≤◌, List}
use Rattle.log_model.specs.Logs.{Log, end_at, steps}
use Rattle.report_model.specs.Query.{Query}
use Rattle.epoch_model.specs.Cutting.{IsCutting}
use Rattle.run_beginning.specs.Need.{needed_by_log}
use Rattle.run_query.specs.declared.part.Part.{Part}
use Rattle.run_query.specs.declared.part.Part.TheVariants.{Whole, Beginning}

-- the first n steps of a run, up to its end, are enough for the rows of the query, and are cut so
pub record AreEnough (q : Query) (log : Log) (n : ℕ) (cuts : List ℕ) : Type 0 where
  pub needed : needed_by_log q log ≤ n
  pub within : n ≤ end_at log.end
  pub cutting : IsCutting n cuts

-- this part of a run is enough for the rows of the query, and is cut so
abbrev pub IsEnough : Query → Log → Part → Type 0
IsEnough q log (Whole cuts) = IsCutting (steps log) cuts
IsEnough q log (Beginning n cuts) = AreEnough q log n cuts
