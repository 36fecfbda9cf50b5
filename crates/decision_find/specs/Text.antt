-- The text of a run's decisions: a line for each place.
use Rattle.std.specs.Prelude.{ℕ, List, [], ◌∷◌, ◌++◌, length, codes, Option, Some, None}
use Rattle.std.specs.List.{flat_map}
use Rattle.std.specs.Fmt.{decimal}
use Rattle.isa.specs.declared.Instr.{Instr}
use Rattle.isa.specs.Machine.{State}
use Rattle.log_model.specs.Logs.{Log}
use Rattle.flow_model.specs.declared.SourceByte.{SourceByte}
use Rattle.report_model.specs.Query.{Query, policy_of}
use Rattle.report_model.specs.Text.{loc_text}
use Rattle.instruction_text.specs.Assembly.{mnemonic_of}
use Rattle.printed_names.specs.Places.{pc_text}
use Rattle.printed_names.specs.Lines.{lines_end}
use Rattle.source_ranges.specs.Ranges.{ranges_of, range_text}
use Rattle.decision_find.specs.declared.Place.{Place}
use Rattle.decision_find.specs.Decides.{deciding_rule}
use Rattle.decision_find.specs.Decisions.{Decision, decided}
use Rattle.decision_find.specs.Places.{places, decided_there, sources_of}

-- the mnemonic; `.word` where the word stands for no instruction
abbrev pub mnemonic_text : Option Instr → List ℕ
mnemonic_text (Some i) = mnemonic_of i
mnemonic_text None = codes ".word"

-- the ranges of source bytes, each after a blank
abbrev pub ranges_text : List SourceByte → List ℕ
ranges_text bs = flat_map (λ r. codes " " ++ range_text r) (ranges_of bs)

-- `PC MNEMONIC LOC`: a place, and the instruction there
abbrev pub place_text : Place → Option Instr → List ℕ
place_text p instr = pc_text p.pc ++ codes " " ++ mnemonic_text instr ++ codes " " ++ loc_text p.loc

-- `PC MNEMONIC LOC COUNT T` and the ranges: of a place that has so many decisions, the first at this time, from these bytes
abbrev pub line_text : Place → Option Instr → ℕ → ℕ → List SourceByte → List ℕ
line_text p instr count first bs =
    place_text p instr ++ codes " " ++ decimal count ++ codes " " ++ decimal first ++ ranges_text bs ++ 0x0a ∷ []

-- the line of the decisions of a place: the instruction is that at the first of them
abbrev pub place_line : Place → List Decision → List ℕ
place_line p [] = []
place_line p (d ∷ ds) = line_text p d.instr (length (d ∷ ds)) d.time (sources_of (d ∷ ds))

-- a line for each place, and then `end N`, N the number of those lines
abbrev pub decisions_text : List Decision → List ℕ
decisions_text ds =
    flat_map (λ p. place_line p (decided_there p ds)) (places ds) ++ lines_end (length (places ds))

-- the query by which decisions have their origins: its own rule where that is no narrower than compute
abbrev pub deciding_query : Query → Query
deciding_query q = record q { rule = deciding_rule q.rule }

-- the decisions of a run that come from the source bytes of a query
abbrev pub decided_by : Query → State → Log → List Decision
decided_by q s log = decided (policy_of (deciding_query q)) s log

-- the text of those
abbrev pub decisions_report : State → Log → Query → List ℕ
decisions_report s log q = decisions_text (decided_by q s log)
