-- The arguments of a simple command.
use Rattle.std.specs.Prelude.{ℕ, true, [], ◌∷◌, Some}
use Rattle.clap.specs.Words.{Rule, Shape, Text, new_rule}
use Rattle.clap.specs.declared.builder.ArgAction.TheVariants.{Set}
use Rattle.clap.specs.declared.builder.value_parser.ValueParser.TheVariants.{Unsigned}

-- a word that has to be there
abbrev pub positional : Text → Rule
positional id = record (new_rule id) { action = Some Set; required = true }

-- a number in a range that has to be there
abbrev pub number : Text → ℕ → ℕ → Rule
number id least most = record (positional id) { parser = Some (Unsigned least most) }

-- a number in a range, or the default
abbrev pub number_or : Text → ℕ → ℕ → Text → Rule
number_or id least most default = record (new_rule id) {
  action = Some Set;
  parser = Some (Unsigned least most);
  defaults = default ∷ [];
}

-- words one after another: none, or up to `most`
abbrev pub list : Text → ℕ → Rule
list id most = record (new_rule id) { action = Some Set; range = Some (record { start_inclusive = 0; end_inclusive = most }) }

-- words one after another, at least one and up to `most`
abbrev pub required_list : Text → ℕ → Rule
required_list id most = record (new_rule id) {
  action = Some Set;
  required = true;
  range = Some (record { start_inclusive = 1; end_inclusive = most });
}

-- numbers in a range one after another, at least one and up to `most`
abbrev pub required_numbers : Text → ℕ → ℕ → ℕ → Rule
required_numbers id most least greatest = record (required_list id most) { parser = Some (Unsigned least greatest) }

-- a number in a range, by the option's long name, where it is given
abbrev pub optional_number : Text → ℕ → ℕ → Rule
optional_number name least most = record (new_rule name) {
  long = Some name;
  action = Some Set;
  parser = Some (Unsigned least most);
}

-- the same, or the default
abbrev pub number_option : Text → ℕ → ℕ → Text → Rule
number_option name least most default = record (optional_number name least most) { defaults = default ∷ [] }

-- a subcommand has to be there
abbrev pub requires_subcommand : Shape → Shape
requires_subcommand s = record s { subcommand_required = true }
