-- Words that the command line takes stand for a command.
use Rattle.std.proofs.Common.{◌≡◌, ◌↔◌, refl, true, false, Bool, List, Option, Some, None, IsSomeAnd, option_and_then, if◌then◌else◌}
use Rattle.clap.specs.Words.{Row, Text, takes, subcommand_of}
use Rattle.no_memory.specs.declared.Fault.{Fault}
use Rattle.no_memory.specs.declared.Fault.TheVariants.{At, NoMemory}
use Rattle.no_memory.specs.Faults.{IsCausedBy}
use Rattle.clap_command.specs.declared.fault.Usage.{Usage}
use Rattle.jet_words.specs.CommandLine.{jet_app}
use Rattle.jet_words.specs.Commands.{CommandOf, IsInRange, command_by, command_of}
use Rattle.jet_words.proofs.Ranges.{IsSound, taken_sound}

-- the command of a subcommand
abbrev pub command_at : Option (Text × List Row) → Option CommandOf
command_at = option_and_then command_by

at_sound : (named : Option (Text × List Row)) → IsSomeAnd named IsSound → IsSomeAnd (command_at named) IsInRange
at_sound None sound = sound
at_sound (Some p) sound = sound.ranges

-- what is taken stands for a command in its ranges
pub taken_in_range : (words : List Text) → takes jet_app words ≡ true → IsSomeAnd (command_at (subcommand_of jet_app words)) IsInRange
taken_in_range words e = at_sound _ (taken_sound words e)

if_none : (b : Bool) (o : Option CommandOf) → (b ≡ true → IsSomeAnd o IsInRange) → ((if b then o else None) ≡ None) ↔ (b ≡ false)
if_none true None f = absurd (f refl)
if_none true (Some c) f = (λ e. cc, λ e. cc)
if_none false o f = (λ e. refl, λ e. refl)

pub command-where_taken : (words : List Text) → (command_of words ≡ None) ↔ (takes jet_app words ≡ false)
unfolding command_of
command-where_taken words = if_none _ _ (taken_in_range words)

-- words that are refused stand for nothing
pub command-of_refused : (words : List Text) (f : Fault Usage) → IsCausedBy (λ _. takes jet_app words ≡ false) f → IsCausedBy (λ _. command_of words ≡ None) f
command-of_refused words (At usage) h = (command-where_taken words).1 h
command-of_refused words (NoMemory no_memory) h = tt

pub command-of_taken : (words : List Text) → takes jet_app words ≡ true → command_of words ≡ command_at (subcommand_of jet_app words)
unfolding command_of
command-of_taken words e = rw e refl
