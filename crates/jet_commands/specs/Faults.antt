-- The query that a file holds, or why it holds none: the only query, or the one of several that has this number.
use Rattle.std.specs.Prelude.{ℕ, List, Option, Some, None, Result}
use Rattle.report_model.specs.Query.{Query}
use Rattle.report_model.specs.declared.FaultInQuery.{FaultInQuery}
use Rattle.no_memory.specs.declared.Fault.{Fault}
use Rattle.no_memory.specs.declared.Fault.TheVariants.{At, NoMemory}
use Rattle.jet_refusal.specs.declared.refusal.Refusal.{Refusal}
use Rattle.jet_refusal.specs.declared.refusal.Refusal.TheVariants as refusal
use Rattle.jet_model.specs.Outcomes.{and_then}
use Rattle.jet_model.specs.Contents.{Contents, file_at, query_in, numbered_query_in}

abbrev pub query_from : Option ℕ → List ℕ → Result Query Refusal
query_from None = query_in
query_from (Some number) = numbered_query_in number

abbrev pub query_by : Option ℕ → Contents → List ℕ → Result Query Refusal
query_by number file name = and_then (file_at file name) (query_from number)

abbrev pub query_refusal : Fault FaultInQuery → Option ℕ → Refusal
query_refusal (At fault) None = refusal.Query fault.line fault.kind
query_refusal (At fault) (Some number) = refusal.QueryOf number fault.line fault.kind
query_refusal (NoMemory no_memory) number = refusal.NoMemory no_memory
