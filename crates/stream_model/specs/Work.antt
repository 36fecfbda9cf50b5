-- What is asked at the cuts of a run, and how many events move in its nodes.
use Rattle.std.specs.Prelude.{◌≡◌, ℕ, ◌+◌, ◌*◌, ◌-◌, Bool, true, false, List, [], ◌∷◌, length, All}
use Rattle.flow_model.specs.declared.Loc.{Loc}
use Rattle.flow_model.specs.declared.StepSeen.{StepSeen}
use Rattle.flow_model.specs.Origins.{Policy, origins}
use Rattle.flow_model.specs.Ranges.{IsInRange}
use Rattle.flow_model.specs.declared.Message.{Message}
use Rattle.flow_model.specs.declared.Message.TheVariants.{End}
use Rattle.report_model.specs.Query.{Query, AreLocated, policy_of}
use Rattle.report_model.specs.Rows.{rows_as_written}
use Rattle.epoch_model.specs.Cutting.{IsCutting}
use Rattle.epoch_model.specs.Summary.{AreSummaries}
use Rattle.epoch_model.specs.Crossing.{crossing_at}
use Rattle.stream_model.specs.Streams.{requests, Node, AreAllDone, summaries}

-- ---- in a node

-- how many messages were got. Where there is no link none is: the End there only counts as seen
abbrev pub many_got : Bool → List Message → ℕ
many_got true got = 0
many_got false got = length got

-- the events that moved in a node that is done and whole: in one it began, one walked a sink for each row, one pushed each
-- message that it sent and one popped each that it got, one built the answer to each request, and one resolved the rows
abbrev pub node_work : Bool → Bool → Node → ℕ
node_work first last n =
    1 + length n.rows
    + length n.asks_sent + many_got last n.asks_got
    + length (requests n.asks_got)
    + length n.answers_sent + many_got first n.answers_got
    + 1

-- ---- in all nodes of a run

abbrev pub work_in_all : Bool → List Node → ℕ
work_in_all first [] = 0
work_in_all first (n ∷ []) = node_work first true n
work_in_all first (n ∷ m ∷ ns) = node_work first false n + work_in_all false (m ∷ ns)

-- what is asked at each of these cuts but the last, which is the end of the run
abbrev pub asked_at : Query → List StepSeen → List ℕ → List (List Loc)
asked_at q trace [] = []
asked_at q trace (c ∷ []) = []
asked_at q trace (c ∷ d ∷ cuts) = crossing_at q trace c (d ∷ cuts) ∷ asked_at q trace (d ∷ cuts)

-- the locations asked at the inner cuts, and their origins there, counted
abbrev pub asked_in_all : Query → List StepSeen → List ℕ → ℕ
asked_in_all q trace [] = 0
asked_in_all q trace (c ∷ []) = 0
asked_in_all q trace (c ∷ d ∷ cs) = length (crossing_at q trace c (d ∷ cs)) + asked_in_all q trace (d ∷ cs)

abbrev pub listed : Policy → List StepSeen → ℕ → List Loc → ℕ
listed policy trace c [] = 0
listed policy trace c (l ∷ ls) = length (origins policy trace c l) + listed policy trace c ls

abbrev pub listed_in_all : Query → List StepSeen → List ℕ → ℕ
listed_in_all q trace [] = 0
listed_in_all q trace (c ∷ []) = 0
listed_in_all q trace (c ∷ d ∷ cs) = listed (policy_of q) trace c (crossing_at q trace c (d ∷ cs)) + listed_in_all q trace (d ∷ cs)

-- for each epoch a node begins, resolves its rows, and sends two Ends and gets two, but for the one before the first node
-- and the one after the last, which no one sent. A sink is walked for each row. Each location that is asked is sent and
-- got, its answer is built, and its Close sent and got; and so is each of its origins
abbrev pub run_work : Query → List StepSeen → List ℕ → ℕ
run_work q trace cuts =
    (6 * length cuts + length (rows_as_written q trace) + 5 * asked_in_all q trace cuts + 2 * listed_in_all q trace cuts) - 2

-- where there is no link an End alone is sent: after the last node, and before the first
abbrev pub EndsPastLast : List Node → Type 0
EndsPastLast [] = Unit {0}
EndsPastLast (n ∷ []) = n.answers_sent ≡ End true ∷ []
EndsPastLast (n ∷ m ∷ ns) = EndsPastLast (m ∷ ns)

abbrev pub EndsOutside : List Node → Type 0
EndsOutside [] = Unit {0}
EndsOutside (n ∷ ns) = (n.asks_sent ≡ End true ∷ []) × EndsPastLast (n ∷ ns)

-- so many events moved in nodes that are done, whose summaries are those of the epochs
abbrev pub DoneNodesWork : Type 0
DoneNodesWork = (q : Query) (trace : List StepSeen) (cuts : List ℕ) (ns : List Node)
    → All IsInRange trace → AreLocated q.points
    → IsCutting (length trace) cuts → AreSummaries q trace 0 cuts (summaries ns) → AreAllDone ns → EndsOutside ns
    → work_in_all true ns ≡ run_work q trace cuts
