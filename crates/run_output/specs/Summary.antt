-- The numbers of a run as text: five lines, each with a line feed. All numbers are plain decimals.
use Rattle.std.specs.Prelude.{ℕ, List, ◌++◌, codes}
use Rattle.std.specs.Fmt.{decimal}
use Rattle.log_model.specs.declared.RunEnd.{RunEnd}
use Rattle.log_model.specs.declared.RunEnd.TheVariants.{Exit, Trap, Limit}
use Rattle.log_model.specs.Logs.{Log, steps}
use Rattle.replay_model.specs.Summary.{calls, bytes_read, bytes_written}

-- a name, a blank and a number
abbrev pub number_line : List ℕ → ℕ → List ℕ
number_line name n = name ++ codes " " ++ decimal n ++ codes "\n"

abbrev pub trap_line : ℕ → ℕ → List ℕ
trap_line kind pc = codes "end trap " ++ decimal kind ++ codes " " ++ decimal pc ++ codes "\n"

-- `end exit CODE`, `end trap KIND PC` or `end limit`
abbrev pub end_line : RunEnd → List ℕ
end_line (Exit at code) = number_line (codes "end exit") code
end_line (Trap at kind pc) = trap_line kind pc
end_line (Limit at) = codes "end limit\n"

abbrev pub numbers_text : ℕ → ℕ → ℕ → ℕ → RunEnd → List ℕ
numbers_text steps calls read written end =
    number_line (codes "steps") steps ++
    number_line (codes "calls") calls ++
    number_line (codes "read") read ++
    number_line (codes "written") written ++
    end_line end

-- what a log says of its run
abbrev pub summary_text : Log → List ℕ
summary_text log = numbers_text (steps log) (calls log) (bytes_read log) (bytes_written log) log.end
