-- What queries give over the run of a program under a log: one line for each chosen output byte and point, the same turned
-- round, or the reports of several queries.
use Rattle.std.specs.Prelude.{ℕ, ◌+◌, List, [], ◌∷◌, ◌++◌, codes, Option, Some, None}
use Rattle.std.specs.Fmt.{decimal}
use Rattle.isa.specs.Machine.{State}
use Rattle.flow_model.specs.declared.StepSeen.{StepSeen}
use Rattle.log_model.specs.Logs.{Log}
use Rattle.replay_model.specs.Run.{trace}
use Rattle.replay_model.specs.Fits.{beginning}
use Rattle.report_model.specs.Query.{Query}
use Rattle.report_model.specs.Rows.{rows}
use Rattle.report_model.specs.Text.{report_text}
use Rattle.report_model.specs.Influence.{influence, influence_text}

-- ---- over a trace

-- the report of a query
abbrev pub report_of : Query → List StepSeen → List ℕ
report_of q trace = report_text (rows q trace)

-- the influence of the source bytes that a query chooses
abbrev pub influence_of : Query → List StepSeen → List ℕ
influence_of q trace = influence_text (influence q trace)

-- `query I`, and the report
abbrev pub numbered_report : ℕ → Query → List StepSeen → List ℕ
numbered_report number q trace = codes "query " ++ decimal number ++ 0x0a ∷ [] ++ report_of q trace

-- the reports of several queries, of which the first has this number
abbrev pub reports_from : ℕ → List Query → List StepSeen → List ℕ
reports_from number [] trace = []
reports_from number (q ∷ qs) trace = numbered_report number q trace ++ reports_from (number + 1) qs trace

-- the reports of several queries, counted from 1
abbrev pub reports_of : List Query → List StepSeen → List ℕ
reports_of qs trace = reports_from 1 qs trace

-- ---- over the run of a program under a log

-- a text over the trace of the run that begins in this state
abbrev pub over_trace : (List StepSeen → List ℕ) → State → Log → List ℕ
over_trace text start log = text (trace start log)

-- the same, if the run can begin; that of one that can't is used nowhere
abbrev pub text_from : Option State → Log → (List StepSeen → List ℕ) → List ℕ
text_from None log text = []
text_from (Some start) log text = over_trace text start log

-- a text over the trace of the program's run under the log
abbrev pub text_over : List ℕ → Log → (List StepSeen → List ℕ) → List ℕ
text_over program log text = text_from (beginning program log) log text

-- the report of a query over the program's run under the log
abbrev pub report : List ℕ → Log → Query → List ℕ
report program log q = text_over program log (report_of q)
