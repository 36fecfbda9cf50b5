-- What the next epoch asks for, and how much must be answered first.
use Rattle.std.specs.Prelude.{◌≡◌, true, List, map, All}
use Rattle.flow_model.specs.declared.Loc.{Loc}
use Rattle.lists.specs.Sets.{is_within}
use Rattle.flow_model.specs.Orders.{loc_cmp}
use Rattle.epoch_model.specs.Summary.{Summary}
use Rattle.stream_model.specs.Streams.{places_needed}
use Rattle.pass_parts.specs.declared.requests.Request.{Request}

-- the locations that are asked for
abbrev pub locations : List Request → List Loc
locations requests = map (λ r. r.loc) requests

-- the start locations of the request are all asked, and its number is that of the asked ones up to the last of them
pub record IsCounted (asked : List Loc) (e : Summary) (r : Request) : Type 0 where
  pub within : is_within loc_cmp (e.ends r.loc).starts asked ≡ true
  pub count : r.needed_first ≡ places_needed asked (e.ends r.loc).starts

abbrev pub AreCounted : List Loc → Summary → List Request → Type 0
AreCounted asked e requests = All (IsCounted asked e) requests
