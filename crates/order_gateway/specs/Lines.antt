-- The lines that `bench` prints.
use Rattle.std.specs.Prelude.{ℕ, List, ◌++◌, length, sum_by, codes}
use Rattle.flow_model.specs.declared.StepSeen.{StepSeen}
use Rattle.report_model.specs.Query.{Query}
use Rattle.report_model.specs.Rows.{rows}
use Rattle.report_model.specs.Text.{report_text}
use Rattle.record_model.specs.Counts.{capped}
use Rattle.sink_collect.specs.Pairs.{pairs}
use Rattle.run_output.specs.Summary.{number_line}
use Rattle.stream_model.specs.Work.{asked_at, run_work}
use Rattle.sha2.specs.Sha256.{sha256}
use Rattle.hex.specs.Hex.{encode_lower}
use Rattle.order_gateway.specs.declared.Numbers.{Numbers}
use Rattle.order_gateway.specs.Workload.{workload_query}

-- `report`, and the digest in lower-case hexadecimal digits
abbrev pub digest_line : List ℕ → List ℕ
digest_line digest = codes "report " ++ encode_lower digest ++ codes "\n"

-- the seven lines: each number in decimal
abbrev pub numbers_text : Numbers → List ℕ
numbers_text n =
    number_line (codes "steps") n.steps ++
    number_line (codes "epochs") n.epochs ++
    number_line (codes "sinks") n.sinks ++
    number_line (codes "pairs") n.pairs ++
    number_line (codes "asked") n.asked ++
    digest_line n.digest ++
    number_line (codes "events") n.events

-- the numbers of a query over a trace whose epochs end at the cuts
abbrev pub numbers_of : Query → List ℕ → List StepSeen → Numbers
numbers_of q cuts trace = let all = rows q trace in record {
  steps = length trace;
  epochs = length cuts;
  sinks = length all;
  pairs = capped (pairs all);
  asked = capped (sum_by length (asked_at q trace cuts));
  digest = sha256 (report_text all);
  events = capped (run_work q trace cuts);
}

-- the lines of the workload's query
abbrev pub bench_text : List ℕ → List StepSeen → List ℕ
bench_text cuts trace = numbers_text (numbers_of workload_query cuts trace)
