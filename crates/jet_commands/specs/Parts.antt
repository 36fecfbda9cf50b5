-- What of a run is analysed for a query.
use Rattle.std.specs.Prelude.{ℕ, ◌/◌, nat_le, if◌then◌else◌, Option}
use Rattle.log_model.specs.Logs.{Log, steps}
use Rattle.report_model.specs.Query.{Query}
use Rattle.jet_model.specs.Lengths.{cuts_by}
use Rattle.run_beginning.specs.Need.{needed_by_log}
use Rattle.run_query.specs.declared.part.Part.{Part}
use Rattle.run_query.specs.declared.part.Part.TheVariants.{Whole, Beginning}

-- the whole run, where the rows need half of its steps; else the steps alone that they need. They are cut by the length that the
-- words tell, or as there are workers
abbrev pub part_by : Option ℕ → ℕ → Query → Log → Part
part_by told workers q log = let needed = needed_by_log q log in
    if nat_le (steps log / 2) needed
    then Whole (cuts_by told q.rule workers (steps log))
    else Beginning needed (cuts_by told q.rule workers needed)
