-- What is always true of the texts of paths.
use Rattle.std.specs.Prelude.{◌≡◌, [], Some, ◌↔◌, All}
use Rattle.isa.specs.Machine.{State}
use Rattle.log_model.specs.Logs.{Log}
use Rattle.report_model.specs.Query.{Query, AreLocated}
use Rattle.report_model.specs.Rows.{rows}
use Rattle.replay_model.specs.Run.{trace}
use Rattle.path_find.specs.declared.Pair.{Pair}
use Rattle.path_find.specs.FirstPair.{first_pair, Names}
use Rattle.path_find.specs.Text.{no_path_text}
use Rattle.path_find.specs.Sinks.{IsLocated}
use Rattle.path_find.specs.Answer.{pair_report, path_report}

-- no path is told exactly where no row lists a source byte
abbrev pub NoPathIsToldOfNone : Type 0
NoPathIsToldOfNone = (state : State) (log : Log) (q : Query) → (path_report state log q ≡ no_path_text) ↔ All (λ r. r.sources ≡ []) (rows q (trace state log))

-- where a query names a pair, its path is the one that is told
abbrev pub NamedPairIsTold : Type 0
NamedPairIsTold = (state : State) (log : Log) (q : Query) (pair : Pair) → Names q pair
    → path_report state log q ≡ pair_report (record { start = state; log = log }) q.rule (Some pair)

-- the first pair of a report is located where the query's points are
abbrev pub FirstPairIsLocated : Type 0
FirstPairIsLocated = (state : State) (log : Log) (q : Query) (pair : Pair) → AreLocated q.points → first_pair (rows q (trace state log)) ≡ Some pair → IsLocated pair
