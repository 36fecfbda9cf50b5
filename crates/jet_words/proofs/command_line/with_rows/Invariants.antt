use Rattle.std.proofs.Common.{◌≡◌, take}
use Rattle.clap.specs.Words.{app_of}
use Rattle.jet_words.specs.Table.{with_rows}
use Rattle.jet_words.proofs.command_line.with_rows.Given as goal

-- the command has the first of the subcommands
abbrev pub invariant-loop-row : goal.invariant-loop-row
invariant-loop-row l = app_of l.command ≡ with_rows (app_of l.fn.command) (take l.row-index l.rows)
