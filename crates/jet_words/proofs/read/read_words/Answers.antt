use Rattle.std.proofs.Common.{rules, ◌∙◌, ap, sym, subst, map, string_bytes, List, IfSome, IsSomeAnd, option_map, Option, Some, None}
use Rattle.clap.specs.Words.{Row, Text}
use Rattle.jet_words.specs.Commands.{CommandOf, IsInRange, plain_command}
use Rattle.jet_words.specs.Numbers.{HasNumbers}
use Rattle.jet_words.proofs.Ranges.{IsSound, taken_sound}
use Rattle.jet_words.proofs.Taken.{command_at, command-of_taken, command-of_refused, taken_in_range}
use Rattle.jet_words.proofs.read.read_words.Goals as goal

numbers : (named : Option (Text × List Row)) → IsSomeAnd named IsSound → IfSome named HasNumbers
numbers None sound = tt
numbers (Some p) sound = sound.numbers

pub command_by_subcommand-command-requires : goal.command_by_subcommand-command-requires
command_by_subcommand-command-requires c =
    let words : List Text = map string_bytes c.args.words.now in
    subst (λ (o : Option (Text × List Row)). IfSome o HasNumbers) (sym c.in_ok-matches.ensures.subcommand) (numbers _ (taken_sound words c.in_ok-matches.ensures.taken))

-- words that are taken stand for a command
pub unreachable-requires : goal.unreachable-requires
unreachable-requires c =
    let words : List Text = map string_bytes c.args.words.now in
    subst (λ (o : Option CommandOf). IsSomeAnd o IsInRange)
    (ap command_at (sym c.in_ok-matches.ensures.subcommand) ∙ sym c.in_ok-command.ensures ∙ ap (option_map plain_command) c.in-None.is)
    (taken_in_range words c.in_ok-matches.ensures.taken)

pub returns-in_err-matches-clause-nothing : goal.returns-in_err-matches-clause-nothing
returns-in_err-matches-clause-nothing c =
    let nothing = command-of_refused (map string_bytes c.args.words.now) _ c.in_err-matches.ensures.usage in
    search rules

pub returns-clause-command : goal.returns-clause-command
returns-clause-command c =
    let words : List Text = map string_bytes c.args.words.now in
    command-of_taken words c.in_ok-matches.ensures.taken ∙ ap command_at (sym c.in_ok-matches.ensures.subcommand) ∙ sym c.in_ok-command.ensures ∙ ap (option_map plain_command) c.in-Some.is

pub returns-clause-ranges : goal.returns-clause-ranges
returns-clause-ranges c =
    let words : List Text = map string_bytes c.args.words.now in
    subst (λ (o : Option CommandOf). IsSomeAnd o IsInRange)
    (ap command_at (sym c.in_ok-matches.ensures.subcommand) ∙ sym c.in_ok-command.ensures ∙ ap (option_map plain_command) c.in-Some.is)
    (taken_in_range words c.in_ok-matches.ensures.taken)
