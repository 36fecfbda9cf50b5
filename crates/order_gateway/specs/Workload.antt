-- How the guest's run is recorded, and what is asked of it.
use Rattle.std.specs.Prelude.{ℕ, List, [], ◌∷◌, None, codes}
use Rattle.flow_model.specs.declared.Rule.TheVariants.{Compute}
use Rattle.report_model.specs.Query.{Choice, Query}
use Rattle.record_model.specs.Recorded.{Setting}
use Rattle.order_gateway.specs.Guest.{guest_file}
use Rattle.order_gateway.specs.Input.{input}

-- a window of four pages, and one channel. The run is cut off after so many steps
abbrev pub workload : ℕ → ℕ → Setting
workload seed steps = record {
  program = guest_file;
  pages = 4;
  inputs = input seed steps ∷ [];
  piece = 16777216;
  steps = steps;
}

abbrev pub query_text : List ℕ
query_text = codes "rule compute\nsource all\nsink all\n"

-- the bytes of every channel
abbrev pub everything : List Choice
everything = record { channel = None; offsets = None } ∷ []

-- the query of that text
abbrev pub workload_query : Query
workload_query = record { rule = Compute; sources = everything; sinks = everything; points = [] }
