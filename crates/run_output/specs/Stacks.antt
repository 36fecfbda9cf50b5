-- The text of several times of a run.
use Rattle.std.specs.Prelude.{ℕ, ◌==◌, List, [], ◌∷◌, ◌++◌, length, codes}
use Rattle.std.specs.List.{filter, flat_map}
use Rattle.isa.specs.Machine.{State}
use Rattle.log_model.specs.Logs.{Log}
use Rattle.run_output.specs.Summary.{number_line}
use Rattle.printed_names.specs.Lines.{lines_end}
use Rattle.run_output.specs.Stack.{stack_text}

-- one of several: a line `stack T`, T the time as it was told, and the text of the time alone
abbrev pub stack_part : State → Log → ℕ → List ℕ
stack_part s log t = number_line (codes "stack") t ++ stack_text s log t

-- how many lines a text has: each ends by a line feed
abbrev pub line_count : List ℕ → ℕ
line_count text = length (filter (λ byte. byte == 0x0a) text)

-- a text, and the number of its lines
abbrev pub with_lines_end : List ℕ → List ℕ
with_lines_end text = text ++ lines_end (line_count text)

-- the parts of times in the order in which they were told, and the number of their lines
abbrev pub parts_text : State → Log → List ℕ → List ℕ
parts_text s log ts = with_lines_end (flat_map (stack_part s log) ts)

-- one time has its text alone, several have their parts
abbrev pub stacks_text : State → Log → List ℕ → List ℕ
stacks_text s log [] = parts_text s log []
stacks_text s log (t ∷ []) = stack_text s log t
stacks_text s log (t ∷ u ∷ ts) = parts_text s log (t ∷ u ∷ ts)
