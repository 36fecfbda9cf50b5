use Rattle.std.proofs.Common.{◌≡◌, false, take}
use Rattle.clap.specs.Words.{app_of}
use Rattle.clap.specs.declared.builder.Command.TheViews.{out-Command as fields_of}
use Rattle.jet_words.specs.Table.{subcommand_by}
use Rattle.jet_words.proofs.command_line.subcommand_of.Given as goal

-- the command has the first of the arguments
abbrev pub invariant-loop-argument : goal.invariant-loop-argument
invariant-loop-argument l = record {
  app : app_of l.command ≡ subcommand_by l.name (take l.argument-index l.arguments);
  globals : (fields_of l.command).has_globals ≡ false;
}
