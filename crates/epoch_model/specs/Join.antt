-- How epochs answer each other, and how their summaries are joined to the rows of the whole trace, by lists.
use Rattle.std.specs.Prelude.{if◌then◌else◌, List, [], ◌∷◌, ◌++◌, map}
use Rattle.std.specs.Ordering.{is_eq}
use Rattle.flow_model.specs.declared.Loc.{Loc}
use Rattle.flow_model.specs.declared.SourceByte.{SourceByte}
use Rattle.lists.specs.Sets.{union}
use Rattle.flow_model.specs.Orders.{loc_cmp, source_cmp}
use Rattle.flow_model.specs.Origins.{union_over}
use Rattle.report_model.specs.Rows.{Row}
use Rattle.epoch_model.specs.Summary.{Terms, SinkTerms, Summary}
use Rattle.epoch_model.specs.Crossing.{crossing}

-- the answer to l, where the answers stand in the order of what was asked; nothing where there is none
abbrev pub answer_to : List Loc → List (List SourceByte) → Loc → List SourceByte
answer_to [] answers l = []
answer_to (m ∷ asked) [] l = []
answer_to (m ∷ asked) (a ∷ answers) l = if is_eq (loc_cmp l m) then a else answer_to asked answers l

-- the source bytes of terms, where those of the start locations are known
abbrev pub resolved : (Loc → List SourceByte) → Terms → List SourceByte
resolved before t = union source_cmp t.sources (union_over before t.starts)

-- the row of a sink with its terms
abbrev pub resolved_row : (Loc → List SourceByte) → SinkTerms → Row
resolved_row before k = record { sink = k.name; sources = resolved before k.terms }

-- the rows of an epoch
abbrev pub rows_of : Summary → (Loc → List SourceByte) → List Row
rows_of e before = map (resolved_row before) e.sinks

-- its answers to these requests, in their order
abbrev pub answers_of : Summary → (Loc → List SourceByte) → List Loc → List (List SourceByte)
answers_of e before requests = map (λ l. resolved before (e.ends l)) requests

-- the rows of the epochs, from the first to the last, where the first of them asked this and had these answers
abbrev pub joined : List Loc → List (List SourceByte) → List Summary → List Row
joined asked answers [] = []
joined asked answers (e ∷ es) =
    rows_of e (answer_to asked answers)
    ++ joined (crossing es) (answers_of e (answer_to asked answers) (crossing es)) es
