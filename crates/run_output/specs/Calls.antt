-- The text of a run's calls: a line for each, one for the end, and the number of those lines.
use Rattle.std.specs.Prelude.{ℕ, ◌+◌, List, [], ◌∷◌, ◌++◌, length, codes}
use Rattle.std.specs.List.{flat_map}
use Rattle.std.specs.Fmt.{decimal}
use Rattle.log_model.specs.declared.RunEnd.{RunEnd}
use Rattle.log_model.specs.declared.RunEnd.TheVariants.{Exit, Trap, Limit}
use Rattle.log_model.specs.Logs.{Log}
use Rattle.printed_names.specs.Places.{pc_text}
use Rattle.printed_names.specs.Lines.{lines_end}
use Rattle.run_output.specs.Lines.{Line, lines_after, line_text, number_text}

-- the lines of all calls of a run, in order
abbrev pub lines : Log → List Line
lines log = lines_after [] log.records

abbrev pub trap_text : ℕ → ℕ → ℕ → List ℕ
trap_text at kind pc = decimal at ++ codes " trap " ++ decimal kind ++ codes " " ++ pc_text pc ++ 0x0a ∷ []

abbrev pub limit_text : ℕ → List ℕ
limit_text at = decimal at ++ codes " limit\n"

-- `T exit CODE`, `T trap KIND PC`, `T limit`
abbrev pub end_text : RunEnd → List ℕ
end_text (Exit at code) = number_text at (codes " exit ") code
end_text (Trap at kind pc) = trap_text at kind pc
end_text (Limit at) = limit_text at

abbrev pub calls_text : Log → List ℕ
calls_text log = flat_map line_text (lines log) ++ end_text log.end ++ lines_end (length (lines log) + 1)
