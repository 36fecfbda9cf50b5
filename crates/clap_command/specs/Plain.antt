-- The commands that this crate reads words for. A test tells them, which the checker computes for a given command.
use Rattle.std.specs.Prelude.{Bool, true, false, not, ◌&&◌, ◌||◌, List, [], ◌∷◌, length, nat_le}
use Rattle.std.specs.List.{list_all}
use Rattle.clap.specs.Words.{App, Rule, Shape, Text, built, is_simple_and_free}
use Rattle.clap.specs.Facts.{unwrap_or_range}
use Rattle.clap.specs.Takes.{default_passes, values_pass}
use Rattle.clap.specs.Walk.{action_of, most_values}
use Rattle.clap.specs.declared.builder.ArgAction.{ArgAction}
use Rattle.clap.specs.declared.builder.ArgAction.TheVariants.{Set, Append, SetTrue, SetFalse, Count, Help, HelpShort, HelpLong, Version}

-- the defaults of the arguments pass, and no argument has a rule on another
abbrev pub is_sound : Shape → Bool
is_sound s = list_all default_passes s.rules && list_all (λ a. a.is_free) s.rules

-- a command of which it is told which words it takes, and by which faults it refuses words
abbrev pub is_sound_command : App → Bool
is_sound_command a = is_simple_and_free a && (is_sound (built a).top && list_all is_sound (built a).subs)

abbrev pub are_none : List Shape → Bool
are_none [] = true
are_none (s ∷ subs) = false

-- one without subcommands
abbrev pub is_single_command : App → Bool
is_single_command a = is_sound_command a && are_none (built a).subs

-- a command with subcommands, one of which has to be there; `help` is refused
abbrev pub is_plain_command : App → Bool
is_plain_command a =
    is_simple_and_free a && (is_sound (built a).top && (list_all is_sound (built a).subs
    && ((built a).top.subcommand_required && not (built a).top.disable_help_subcommand)))

-- a use of the argument gives its values alone, or doesn't pass
abbrev pub is_plain_action : ArgAction → Bool
is_plain_action Set = true
is_plain_action Append = false
is_plain_action SetTrue = false
is_plain_action SetFalse = false
is_plain_action Count = false
is_plain_action Help = true
is_plain_action HelpShort = true
is_plain_action HelpLong = true
is_plain_action Version = true

abbrev pub no_values : List Text → Bool
no_values [] = true
no_values (v ∷ vs) = false

-- the number of values lies in the argument's range, and each passes
abbrev pub fits_values : Rule → List Text → Bool
fits_values a values = nat_le (unwrap_or_range a.range).start_inclusive (length values) && (nat_le (length values) (most_values a) && values_pass a values)

-- the argument is used once, has a value for each use, and its default fits it
abbrev pub is_plain_rule : Rule → Bool
is_plain_rule a = is_plain_action (action_of a) && (no_values a.missing && (no_values a.defaults || fits_values a a.defaults))

-- a subcommand whose arguments are all plain
abbrev pub is_plain_subcommand : Shape → Bool
is_plain_subcommand s = list_all is_plain_rule s.rules && not s.args_override_self
