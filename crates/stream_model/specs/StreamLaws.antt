-- What a node sends only grows with what it got; and in a row of nodes that are done the links carry exactly what is
-- needed and its origins, and the rows are those of the whole trace.
use Rattle.std.specs.Prelude.{◌≡◌, ℕ, ◌-◌, nat_le, true, ◌||◌, List, [], ◌∷◌, ◌++◌, map, length, All}
use Rattle.std.specs.List.{flat_map, IsDistinct}
use Rattle.std.specs.Ordering.{eq_by_cmp}
use Rattle.flow_model.specs.declared.Loc.{Loc}
use Rattle.flow_model.specs.declared.SourceByte.{SourceByte}
use Rattle.flow_model.specs.declared.StepSeen.{StepSeen}
use Rattle.flow_model.specs.Orders.{loc_cmp, source_cmp}
use Rattle.flow_model.specs.Origins.{origins}
use Rattle.flow_model.specs.Ranges.{IsInRange}
use Rattle.flow_model.specs.declared.Message.{Message}
use Rattle.flow_model.specs.declared.Message.TheVariants.{Ask, Byte, Close, End}
use Rattle.report_model.specs.Query.{Query, AreLocated, policy_of}
use Rattle.report_model.specs.Rows.{row, rows_as_written}
use Rattle.lists.specs.Sets.{Ascends, has, is_within}
use Rattle.epoch_model.specs.Stretch.{sinks_of_epoch}
use Rattle.epoch_model.specs.Cutting.{IsCutting}
use Rattle.epoch_model.specs.Summary.{Summary, Terms, AreSummaries}
use Rattle.epoch_model.specs.Crossing.{crossing_at, needed}
use Rattle.stream_model.specs.Streams.{is_ended, answers_in, heard, is_resolvable, places_needed, asks_for, answer, answers_for, Node, AreAllDone, summaries}

abbrev pub IsPrefix : {X : Type 0} → List X → List X → Type 0
IsPrefix {X} front whole = (rest : List X) × (front ++ rest ≡ whole)

-- whoever gets more sends what it sent, and maybe more
abbrev pub AsksGrow : Type 0
AsksGrow = (e : Summary) (got more : List Message) → IsPrefix (asks_for e got) (asks_for e (got ++ more))

abbrev pub AnswersGrow : Type 0
AnswersGrow = (e : Summary) (asked ls : List Loc) (got more : List Message)
    → IsPrefix (answers_for e asked ls got) (answers_for e asked ls (got ++ more))

-- an End is the last of the messages
abbrev pub EndsLast : List Message → Type 0
EndsLast [] = Unit {0}
EndsLast (Ask l ∷ ms) = EndsLast ms
EndsLast (Byte b ∷ ms) = EndsLast ms
EndsLast (Close l ∷ ms) = EndsLast ms
EndsLast (End whole ∷ ms) = ms ≡ []

-- so who got an End got all that was sent
abbrev pub NothingIsLeft : Type 0
NothingIsLeft = (got left : List Message) → EndsLast (got ++ left) → is_ended got ≡ true → left ≡ []

abbrev pub AsksEndLast : Type 0
AsksEndLast = (e : Summary) (got : List Message) → EndsLast (asks_for e got)

abbrev pub AnswersEndLast : Type 0
AnswersEndLast = (e : Summary) (asked ls : List Loc) (got : List Message) → EndsLast (answers_for e asked ls got)

-- a set that was got ascends, whatever the neighbour sent
abbrev pub HeardAscends : Type 0
HeardAscends = (asked : List Loc) (got : List Message) (l : Loc) → Ascends source_cmp (heard asked got l)

-- an answer to each location, and the End
abbrev pub answers_to : (Loc → List SourceByte) → List Loc → List Message
answers_to f ls = flat_map (λ l. answer l (f l)) ls ++ End true ∷ []

-- whether terms are resolvable is a comparison of two numbers, since what is asked is answered in its order
abbrev pub ResolvableByCount : Type 0
ResolvableByCount = (asked : List Loc) (got : List Message) (t : Terms)
    → is_within loc_cmp t.starts asked ≡ true
    → is_resolvable asked got t ≡ (is_ended got || nat_le (places_needed asked t.starts) (length (answers_in [] got)))

-- asking for more does not move what is asked already
abbrev pub PlacesStay : Type 0
PlacesStay = (asked more ls : List Loc)
    → is_within loc_cmp ls asked ≡ true
    → places_needed (asked ++ more) ls ≡ places_needed asked ls

-- a and b are the nodes on both sides of the cut c, in order, and the epochs from there on end at the cuts
pub record Carries (q : Query) (trace : List StepSeen) (c : ℕ) (cuts : List ℕ) (a b : Node) : Type 0 where
  pub asked : b.asked ≡ crossing_at q trace c cuts
  -- exactly what is needed was asked, each location once
  pub exactly : (l : Loc) → has loc_cmp l b.asked ≡ has loc_cmp l (needed q trace c (length trace - c))
  pub once : IsDistinct (eq_by_cmp loc_cmp) b.asked
  -- an Ask for each, and an End; and in the same order the origins at c of each, ascending, with its Close, and an End
  pub asks : a.asks_got ≡ map Ask b.asked ++ End true ∷ []
  pub answers : b.answers_got ≡ answers_to (origins (policy_of q) trace c) b.asked

-- so it is at each inner cut
abbrev pub LinksCarry : Query → List StepSeen → List ℕ → List Node → Type 0
LinksCarry q trace cs [] = Unit {0}
LinksCarry q trace [] (a ∷ ns) = Unit {0}
LinksCarry q trace (c ∷ cs) (a ∷ []) = Unit {0}
LinksCarry q trace (c ∷ cs) (a ∷ b ∷ ns) = Carries q trace c cs a b × LinksCarry q trace cs (b ∷ ns)

-- each node has the rows of the sinks of its epoch
abbrev pub HaveRows : Query → List StepSeen → ℕ → List ℕ → List Node → Type 0
HaveRows q trace s cs [] = Unit {0}
HaveRows q trace s [] (a ∷ ns) = Unit {0}
HaveRows q trace s (c ∷ cs) (a ∷ ns) = (a.rows ≡ map (row q trace) (sinks_of_epoch q trace s (c - s))) × HaveRows q trace c cs ns

pub record Meets (q : Query) (trace : List StepSeen) (cuts : List ℕ) (ns : List Node) : Type 0 where
  pub links : LinksCarry q trace cuts ns
  pub each : HaveRows q trace 0 cuts ns
  pub all : flat_map (λ n. n.rows) ns ≡ rows_as_written q trace

-- whatever the cutting: nodes that are done, whose summaries are those of the epochs, have the rows of the whole trace
abbrev pub DoneNodesMeet : Type 0
DoneNodesMeet = (q : Query) (trace : List StepSeen) (cuts : List ℕ) (ns : List Node)
    → All IsInRange trace → AreLocated q.points
    → IsCutting (length trace) cuts → AreSummaries q trace 0 cuts (summaries ns) → AreAllDone ns
    → Meets q trace cuts ns
