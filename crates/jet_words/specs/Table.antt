-- The command line as the table of the code has it. No meaning of words rests on it.
use Rattle.std.specs.Prelude.{List}
use Rattle.std.specs.List.{fold}
use Rattle.clap.specs.Words.{App, Rule, Text, new_app, with_rule, with_subcommand}
use Rattle.clap_command.specs.Arguments.{positional, number, list, required_list, required_numbers, number_option, optional_number}
use Rattle.jet_words.specs.declared.subcommands.Argument.{Argument}
use Rattle.jet_words.specs.declared.subcommands.Argument.TheVariants.{Positional, Number, List as Words, RequiredList, RequiredNumbers, OptionalNumber, NumberOption}
use Rattle.jet_words.specs.declared.subcommands.Subcommand.{Subcommand}

-- an argument
abbrev pub rule_by : Argument → Rule
rule_by (Positional id) = positional id.now
rule_by (Number id least most) = number id.now least most
rule_by (Words id) = list id.now 16
rule_by (RequiredList id) = required_list id.now 16
rule_by (RequiredNumbers id least most) = required_numbers id.now 4096 least most
rule_by (OptionalNumber name least most) = optional_number name.now least most
rule_by (NumberOption name least most default) = number_option name.now least most default.now

-- a command with one more argument
abbrev pub with_argument_by : App → Argument → App
with_argument_by command argument = with_rule command (rule_by argument)

-- a subcommand
abbrev pub subcommand_by : Text → List Argument → App
subcommand_by name arguments = fold with_argument_by (new_app name) arguments

-- a command with one more subcommand
abbrev pub with_row : App → Subcommand → App
with_row command row = with_subcommand command (subcommand_by row.name.now row.arguments.now).top

-- a command with these subcommands besides
abbrev pub with_rows : App → List Subcommand → App
with_rows command rows = fold with_row command rows
