-- How many of a run's first steps the rows of a query need.
use Rattle.std.specs.Prelude.{◌≡◌, ℕ, ◌+◌, ◌≤◌, max, List, [], ◌∷◌, length, map, take}
use Rattle.flow_model.specs.declared.SinkPoint.{SinkPoint}
use Rattle.flow_model.specs.declared.SinkPoint.TheVariants.{Out, At}
use Rattle.flow_model.specs.declared.StepSeen.{StepSeen}
use Rattle.report_model.specs.Query.{Query}
use Rattle.report_model.specs.Rows.{Sink, rows, rows_as_written, chosen_sinks}

-- the greatest of these numbers, 0 where there is none
abbrev pub greatest : List ℕ → ℕ
greatest [] = 0
greatest (n ∷ ns) = max n (greatest ns)

-- an output byte that is written after t steps needs the step that writes it too; a point at time t does not
abbrev pub steps_for : SinkPoint → ℕ → ℕ
steps_for (Out b) t = t + 1
steps_for (At p) t = t

abbrev pub steps_for_sink : Sink → ℕ
steps_for_sink x = steps_for x.name x.time

-- what the last of the chosen sinks needs
abbrev pub needed_steps : Query → List StepSeen → ℕ
needed_steps q trace = greatest (map steps_for_sink (chosen_sinks q trace))

-- ---- laws

-- what comes after them changes no row: each beginning of a trace that has them has the rows of the whole
abbrev pub RowsOfBeginning : Type 0
RowsOfBeginning = (q : Query) (trace : List StepSeen) (n : ℕ)
    → needed_steps q trace ≤ n → rows q (take n trace) ≡ rows q trace

-- and has them in the same order of the run
abbrev pub OrderOfBeginning : Type 0
OrderOfBeginning = (q : Query) (trace : List StepSeen) (n : ℕ)
    → needed_steps q trace ≤ n → rows_as_written q (take n trace) ≡ rows_as_written q trace

-- the run makes them
abbrev pub NeededAreMade : Type 0
NeededAreMade = (q : Query) (trace : List StepSeen) → needed_steps q trace ≤ length trace
