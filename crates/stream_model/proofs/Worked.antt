-- Two nodes of a run of four steps, which reads two bytes, loads the first, stores it elsewhere, and writes it.
use Rattle.std.proofs.Common.{◌≡◌, List, [], ◌∷◌, refl, true, false, pos}
use Rattle.std.specs.Prelude.{Option, Some, None, ℕ, zero, suc, map, ◌++◌}
use Rattle.std.specs.List.{flat_map}
use Rattle.isa.specs.declared.Instr.TheVariants.{Lb, Sb, Ecall}
use Rattle.isa.specs.declared.CallKind.TheVariants as kind
use Rattle.flow_model.specs.declared.Loc.TheVariants.{Reg, Mem}
use Rattle.flow_model.specs.declared.Rule.TheVariants.{Copy}
use Rattle.flow_model.specs.declared.SinkPoint.TheVariants.{Out}
use Rattle.flow_model.specs.declared.StepSeen.{StepSeen}
use Rattle.flow_model.specs.declared.Message.{Message}
use Rattle.flow_model.specs.declared.Message.TheVariants.{Ask, Byte, Close, End}
use Rattle.report_model.specs.Query.{Query}
use Rattle.report_model.specs.Rows.{Row}
use Rattle.epoch_model.specs.Summary.{Summary}
use Rattle.epoch_model.specs.Crossing.{summary_of}
use Rattle.stream_model.specs.Streams.{answers_in, answers_for, places_needed}
use Rattle.stream_model.specs.Passes.{Links, asking_start, asking_after, answering_start, answering_after}
use Rattle.stream_model.specs.Schedules.{NodeState, Event, nodes_start, nodes_after, is_done, is_whole_in, node_in}
use Rattle.stream_model.specs.ScheduleLaws.{moves_in}

abbrev copied : Query
copied = record {
  rule = Copy;
  sources = record { channel = None; offsets = None } ∷ [];
  sinks = record { channel = None; offsets = None } ∷ [];
  points = [];
}

abbrev run : List StepSeen
run =
    record { number = 0; instr = Ecall; place = 0; call = Some (record { kind = kind.Read; channel = 0; place = 0x100; offset = 0; length = 2 }) }
    ∷ record { number = 1; instr = Lb 5 0 (pos 0x100); place = 0x100; call = None }
    ∷ record { number = 2; instr = Sb 0 5 (pos 0x200); place = 0x200; call = None }
    ∷ record { number = 3; instr = Ecall; place = 0; call = Some (record { kind = kind.Write; channel = 1; place = 0x200; offset = 0; length = 1 }) }
    ∷ []

abbrev one_row : List Row
one_row = record { sink = Out (record { channel = 1; offset = 0 }); sources = record { channel = 0; offset = 0 } ∷ [] } ∷ []

abbrev earlier : Summary
earlier = summary_of copied run 0 2

abbrev later : Summary
later = summary_of copied run 2 2

-- ---- one pass at a time

abbrev free : Option Message → Links
free next = record { has_room = true; item = next; is_refused = false }

-- the second node walks its sink, asks for the register, and ends
asking : asking_after false later (free None ∷ free None ∷ free None ∷ []) (asking_start true later)
    ≡ record { left = []; asked = Reg 5 0 ∷ []; pushed = 1; got = End true ∷ []; sent = Ask (Reg 5 0) ∷ End true ∷ []; is_whole = true; is_over = true }
asking = refl

abbrev source : Message
source = Byte (record { channel = 0; offset = 0 })

-- the first one answers it: nothing is asked at the run's start
answers : answers_for earlier [] (Reg 5 0 ∷ []) (End true ∷ []) ≡ source ∷ Close (Reg 5 0) ∷ End true ∷ []
answers = refl

-- and the second takes the answer, and has the row
answered : Option (List Row)
answered = (answering_after later (Reg 5 0 ∷ []) (free (Some source) ∷ free (Some (Close (Reg 5 0))) ∷ free (Some (End true)) ∷ free None ∷ []) (answering_start true false [])).rows

the_same_row : answered ≡ Some one_row
unfolding answered
the_same_row = refl

-- ---- what was got

-- bytes that come out of order, and twice, are a set all the same; an End completes the answer that is open
a_set_came : answers_in [] (Byte (record { channel = 0; offset = 4 }) ∷ source ∷ Byte (record { channel = 0; offset = 4 }) ∷ Close (Mem 8) ∷ source ∷ End true ∷ [])
    ≡ (record { channel = 0; offset = 0 } ∷ record { channel = 0; offset = 4 } ∷ []) ∷ (record { channel = 0; offset = 0 } ∷ []) ∷ []
a_set_came = refl

-- the last of the two start locations stands second
two_first : places_needed (Mem 8 ∷ Reg 5 0 ∷ Mem 9 ∷ []) (Reg 5 0 ∷ Mem 8 ∷ []) ≡ 2
two_first = refl

-- ---- both nodes and their links of capacity 1, in turns

abbrev both : List Event
both = record { node = 1; is_refused = false } ∷ record { node = 0; is_refused = false } ∷ []

abbrev rounds : ℕ → List Event
rounds zero = []
rounds (suc n) = both ++ rounds n

abbrev ended : List NodeState
ended = nodes_after 1 (rounds 14) (nodes_start (earlier ∷ later ∷ []))

-- 6 * 2 - 2 + 1 + 5 * 1 + 2 * 1 events move: two nodes, one sink, one location asked, and one source byte for it
both_done : (flat_map (λ n. (node_in n).rows) ended ≡ one_row) × (map (λ n. is_done n.phase) ended ≡ true ∷ true ∷ []) × (moves_in 1 (rounds 14) (nodes_start (earlier ∷ later ∷ [])) ≡ 18)
both_done = (refl, refl, refl)

-- where the second node's first growth is refused, both end, and neither is whole
abbrev refused : List NodeState
refused = nodes_after 1 (record { node = 1; is_refused = true } ∷ rounds 14) (nodes_start (earlier ∷ later ∷ []))

both_broken : (map (λ n. is_done n.phase) refused ≡ true ∷ true ∷ []) × (map (λ n. is_whole_in n.phase) refused ≡ false ∷ false ∷ [])
both_broken = (refl, refl)
