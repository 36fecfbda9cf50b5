-- The command line of the program, as a command of `clap`.
use Rattle.std.specs.Prelude.{codes, List, [], ◌∷◌}
use Rattle.clap.specs.Words.{App, Rule, Text, new_app, with_rule, with_subcommand}
use Rattle.clap.specs.Simple.{on_top}
use Rattle.clap_command.specs.Arguments.{positional, number, list, required_list, required_numbers, number_option, optional_number, requires_subcommand}

-- NAME PROG LOG
abbrev pub program_and_log : Text → App
program_and_log name = with_rule (with_rule (new_app name) (positional (codes "PROG"))) (positional (codes "LOG"))

-- [--epoch N]
abbrev pub epoch_option : Rule
epoch_option = optional_number (codes "epoch") 1 1099511627776

-- [--workers W]
abbrev pub workers_option : Rule
workers_option = number_option (codes "workers") 1 64 (codes "4")

-- [--link C]
abbrev pub link_option : Rule
link_option = optional_number (codes "link") 1 65536

-- COMMAND .. [--epoch N] [--workers W] [--link C]
abbrev pub with_pipeline : App → App
with_pipeline command = with_rule (with_rule (with_rule command epoch_option) workers_option) link_option

-- NAME PROG LOG QUERY [--epoch N] [--workers W] [--link C]
abbrev pub analysis : Text → App
analysis name = with_pipeline (with_rule (program_and_log name) (positional (codes "QUERY")))

abbrev pub query_app : App
query_app = analysis (codes "query")

abbrev pub influence_app : App
influence_app = analysis (codes "influence")

abbrev pub path_app : App
path_app = analysis (codes "path")

abbrev pub show_app : App
show_app = analysis (codes "show")

-- NAME PROG LOG C
abbrev pub on_channel : Text → App
on_channel name = with_rule (program_and_log name) (number (codes "C") 0 15)

-- replay PROG LOG
abbrev pub replay_app : App
replay_app = program_and_log (codes "replay")

-- calls PROG LOG
abbrev pub calls_app : App
calls_app = program_and_log (codes "calls")

abbrev pub input_app : App
input_app = on_channel (codes "input")

abbrev pub output_app : App
output_app = on_channel (codes "output")

-- record PROG LOG [IN].. [--pages N] [--piece N] [--steps N]
abbrev pub record_app : App
record_app =
    with_rule (with_rule (with_rule (with_rule (program_and_log (codes "record")) (list (codes "IN") 16))
    (number_option (codes "pages") 1 4096 (codes "256")))
    (number_option (codes "piece") 1 16777216 (codes "16777216")))
    (number_option (codes "steps") 1 1099511627776 (codes "4294967295"))

-- convert PROG LOG NEW
abbrev pub convert_app : App
convert_app = with_rule (program_and_log (codes "convert")) (positional (codes "NEW"))

-- core PROG LOG T FILE
abbrev pub core_app : App
core_app = with_rule (with_rule (program_and_log (codes "core")) (number (codes "T") 0 1099511627776)) (positional (codes "FILE"))

-- queries PROG LOG QUERY.. [--epoch N] [--workers W] [--link C], 1 to 16 of QUERY
abbrev pub queries_app : App
queries_app = with_pipeline (with_rule (program_and_log (codes "queries")) (required_list (codes "QUERY") 16))

-- bench SEED STEPS [--epoch N] [--workers W] [--link C]
abbrev pub bench_app : App
bench_app =
    with_pipeline (with_rule (with_rule (new_app (codes "bench"))
    (number (codes "SEED") 0 18446744073709551615))
    (number (codes "STEPS") 1 2000000))

-- jet, with a subcommand that has to be there
abbrev pub bare_app : App
bare_app = on_top requires_subcommand (new_app (codes "jet"))

-- a command with these subcommands besides
abbrev pub with_each : App → List App → App
with_each command [] = command
with_each command (subcommand ∷ more) = with_each (with_subcommand command subcommand.top) more

-- stack PROG LOG T.., 1 to 4096 of T
abbrev pub stack_app : App
stack_app = with_rule (program_and_log (codes "stack")) (required_numbers (codes "T") 4096 0 1099511627776)

-- decisions PROG LOG QUERY
abbrev pub decisions_app : App
decisions_app = with_rule (program_and_log (codes "decisions")) (positional (codes "QUERY"))

-- page PROG LOG QUERY PAGE [--epoch N] [--workers W] [--link C]
abbrev pub page_app : App
page_app =
    with_pipeline (with_rule (with_rule (program_and_log (codes "page")) (positional (codes "QUERY")))
    (positional (codes "PAGE")))

-- the subcommands that tell of the rows of a query
abbrev pub analyses : List App
analyses = query_app ∷ influence_app ∷ path_app ∷ show_app ∷ []

-- those that make something of a run without a query
abbrev pub products : List App
products = replay_app ∷ calls_app ∷ input_app ∷ output_app ∷ []

abbrev pub others : List App
others = stack_app ∷ decisions_app ∷ page_app ∷ record_app ∷ convert_app ∷ core_app ∷ queries_app ∷ bench_app ∷ []

-- jet SUBCOMMAND ..
abbrev pub jet_app : App
jet_app = with_each (with_each (with_each bare_app analyses) products) others
