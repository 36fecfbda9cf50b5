-- The text of a path: a line for the read, one for each hop, and one for the sink, in the order of the run.
use Rattle.std.specs.Prelude.{ℕ, ◌+◌, List, [], ◌∷◌, ◌++◌, length, codes}
use Rattle.std.specs.Fmt.{decimal}
use Rattle.flow_model.specs.declared.SourceByte.{SourceByte}
use Rattle.flow_model.specs.declared.SinkPoint.{SinkPoint}
use Rattle.flow_model.specs.declared.SinkPoint.TheVariants.{Out, At}
use Rattle.report_model.specs.Text.{name_text, loc_text, point_text}
use Rattle.path_find.specs.declared.writing.Stop.{Stop}
use Rattle.path_find.specs.declared.writing.End.{End}
use Rattle.instruction_text.specs.Assembly.{instruction_text}
use Rattle.printed_names.specs.Lines.{lines_end}
use Rattle.printed_names.specs.Places.{pc_text}

-- a step's number and the pc at it
abbrev pub step_text : ℕ → ℕ → List ℕ
step_text number pc = codes " " ++ decimal number ++ codes " " ++ pc_text pc ++ codes " "

-- `read N PC c:o LOC`: step N, at PC, received the source byte and put it at LOC
abbrev pub read_line : SourceByte → Stop → List ℕ
read_line s a = codes "read" ++ step_text a.number a.pc ++ name_text s.channel s.offset ++ codes " " ++ loc_text a.loc ++ 0x0a ∷ []

-- `hop N PC FROM TO INSTRUCTION`: step N, at PC, carried it from one location to another, which may be the same
abbrev pub hop_line : Stop → Stop → List ℕ
hop_line a b = codes "hop" ++ step_text b.number b.pc ++ loc_text a.loc ++ codes " " ++ loc_text b.loc ++ codes " " ++ instruction_text b.instr ++ 0x0a ∷ []

-- the hops to each stop from the one before it
abbrev pub hop_lines : List Stop → List ℕ
hop_lines [] = []
hop_lines (a ∷ []) = []
hop_lines (a ∷ b ∷ bs) = hop_line a b ++ hop_lines (b ∷ bs)

-- of an output byte a write: `write N PC LOC c:o`; of a point `point N PC LOC LOC@N`, with the pc at its time
abbrev pub end_word : SinkPoint → List ℕ
end_word (Out b) = codes "write"
end_word (At p) = codes "point"

abbrev pub end_line : End → List ℕ
end_line e = end_word e.name ++ step_text e.number e.pc ++ loc_text e.loc ++ codes " " ++ point_text e.name ++ 0x0a ∷ []

-- where there is no path
abbrev pub no_path_text : List ℕ
no_path_text = lines_end 0

-- a line for each stop, a line for the sink, and `end N`, N the number of those lines
abbrev pub path_text : SourceByte → End → List Stop → List ℕ
path_text s e [] = no_path_text
path_text s e (a ∷ rest) = read_line s a ++ hop_lines (a ∷ rest) ++ end_line e ++ lines_end (length (a ∷ rest) + 1)
