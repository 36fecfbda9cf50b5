-- What a node sends for what it got, and nodes in a row that links join.
use Rattle.std.specs.Prelude.{◌≡◌, ℕ, ◌+◌, max, Bool, true, false, ◌||◌, if◌then◌else◌, List, [], ◌∷◌, ◌++◌, map}
use Rattle.std.specs.List.{list_all}
use Rattle.std.specs.Ordering.{is_eq}
use Rattle.flow_model.specs.declared.Loc.{Loc}
use Rattle.flow_model.specs.declared.SourceByte.{SourceByte}
use Rattle.lists.specs.Sets.{inserted}
use Rattle.flow_model.specs.Orders.{loc_cmp, source_cmp}
use Rattle.flow_model.specs.declared.Message.{Message}
use Rattle.flow_model.specs.declared.Message.TheVariants.{Ask, Byte, Close, End}
use Rattle.report_model.specs.Rows.{Row}
use Rattle.epoch_model.specs.Summary.{Summary, Terms}
use Rattle.epoch_model.specs.Crossing.{asked_by}
use Rattle.epoch_model.specs.Join.{answer_to, resolved, rows_of}

-- ---- what was got

-- an End was got. What comes after it counts for nothing
abbrev pub is_ended : List Message → Bool
is_ended [] = false
is_ended (Ask l ∷ ms) = is_ended ms
is_ended (Byte b ∷ ms) = is_ended ms
is_ended (Close l ∷ ms) = is_ended ms
is_ended (End whole ∷ ms) = true

-- the locations that were asked for. A Byte or a Close on the way of the asks is dropped
abbrev pub requests : List Message → List Loc
requests [] = []
requests (Ask l ∷ ms) = l ∷ requests ms
requests (Byte b ∷ ms) = requests ms
requests (Close l ∷ ms) = requests ms
requests (End whole ∷ ms) = []

-- the answers that are complete, in the order of asking, each a set that ascends, where `so_far` has come of the next
-- one. A Close completes an answer, whatever location it names, and an End all that are still open. An Ask on the way of
-- the answers is dropped. So is an answer that nothing asked for: none is looked up beyond those that were asked
abbrev pub answers_in : List SourceByte → List Message → List (List SourceByte)
answers_in so_far [] = []
answers_in so_far (Ask l ∷ ms) = answers_in so_far ms
answers_in so_far (Byte b ∷ ms) = answers_in (inserted source_cmp b so_far) ms
answers_in so_far (Close l ∷ ms) = so_far ∷ answers_in [] ms
answers_in so_far (End whole ∷ ms) = so_far ∷ []

-- the answer that was got to an asked location
abbrev pub heard : List Loc → List Message → Loc → List SourceByte
heard asked got = answer_to asked (answers_in [] got)

-- l is asked, and its answer is among these
abbrev pub is_answered : List Loc → List (List SourceByte) → Loc → Bool
is_answered [] answers l = false
is_answered (m ∷ asked) [] l = false
is_answered (m ∷ asked) (a ∷ answers) l = is_eq (loc_cmp l m) || is_answered asked answers l

-- the answer to each start location is complete
abbrev pub is_resolvable : List Loc → List Message → Terms → Bool
is_resolvable asked got t = is_ended got || list_all (is_answered asked (answers_in [] got)) t.starts

-- how many of the asked locations there are up to l
abbrev pub places_up_to : List Loc → Loc → ℕ
places_up_to [] l = 0
places_up_to (m ∷ asked) l = if is_eq (loc_cmp l m) then 1 else 1 + places_up_to asked l

-- the least number such that each of the locations is among that many first ones of what is asked
abbrev pub places_needed : List Loc → List Loc → ℕ
places_needed asked [] = 0
places_needed asked (l ∷ ls) = max (places_up_to asked l) (places_needed asked ls)

-- ---- what is sent for it

abbrev pub end_if : Bool → List Message
end_if true = End true ∷ []
end_if false = []

-- backwards: an Ask for each location that the epoch asks, and the End once the successor's came
abbrev pub asks_for : Summary → List Message → List Message
asks_for e got = map Ask (asked_by e (requests got)) ++ end_if (is_ended got)

-- the bytes of a set, and its Close
abbrev pub answer : Loc → List SourceByte → List Message
answer l set = map Byte set ++ Close l ∷ []

abbrev pub then_if : Bool → List Message → List Message → List Message
then_if true now later = now ++ later
then_if false now later = []

-- forwards: the answer to each request in turn, as soon as its terms are resolvable, and the End once the predecessor's
-- came
abbrev pub answers_for : Summary → List Loc → List Loc → List Message → List Message
answers_for e asked [] got = end_if (is_ended got)
answers_for e asked (l ∷ ls) got =
    then_if (is_resolvable asked got (e.ends l))
    (answer l (resolved (heard asked got) (e.ends l)))
    (answers_for e asked ls got)

-- ---- nodes in a row

-- what a node has got and sent, what it asked, and the rows of its sinks
pub record Node : Type 0 where
  pub summary : Summary
  pub asks_got : List Message
  pub asks_sent : List Message
  pub answers_got : List Message
  pub answers_sent : List Message
  pub asked : List Loc
  pub rows : List Row

-- the first node asks nothing: nothing flows from the run's start
abbrev pub asked_of : Bool → Summary → List Loc → List Loc
asked_of true e ls = []
asked_of false e ls = asked_by e ls

-- the node has sent all that it is to send for what it got. The first node sends no asks, and the last one no answers
pub record IsDone (first last : Bool) (n : Node) : Type 0 where
  pub asked : n.asked ≡ asked_of first n.summary (requests n.asks_got)
  pub asks : first ≡ false → n.asks_sent ≡ asks_for n.summary n.asks_got
  pub answers : last ≡ false → n.answers_sent ≡ answers_for n.summary n.asked (requests n.asks_got) n.answers_got
  pub rows : n.rows ≡ rows_of n.summary (heard n.asked n.answers_got)

-- all are done, and what one sent its neighbour got. After the last one there is no link: there the End counts as seen
abbrev pub AreDone : Bool → List Node → Type 0
AreDone first [] = Unit {0}
AreDone first (a ∷ []) = IsDone first true a × (a.asks_got ≡ End true ∷ [])
AreDone first (a ∷ b ∷ ns) =
    IsDone first false a
    × (a.asks_got ≡ b.asks_sent)
    × (b.answers_got ≡ a.answers_sent)
    × AreDone false (b ∷ ns)

-- before the first one there is no link either
abbrev pub AreAllDone : List Node → Type 0
AreAllDone [] = Unit {0}
AreAllDone (a ∷ ns) = (a.answers_got ≡ End true ∷ []) × AreDone true (a ∷ ns)

abbrev pub summaries : List Node → List Summary
summaries ns = map (λ n. n.summary) ns
