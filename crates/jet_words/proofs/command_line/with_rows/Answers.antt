use Rattle.std.proofs.Common.{◌∙◌, [], ap, get_or, sym}
use Rattle.std.proofs.lemmas.List.Sums.{fold_more}
use Rattle.clap.specs.Words.{App, app_of}
use Rattle.jet_words.specs.declared.subcommands.Subcommand.{Subcommand}
use Rattle.jet_words.specs.Table.{with_row}
use Rattle.jet_words.proofs.command_line.with_rows.Goals as goal

abbrev none : Subcommand
none = record { name = record { ref_ptr = (0, 0); now = [] }; arguments = record { ref_ptr = (0, 0); now = [] } }

pub loop-row-preserved : goal.loop-row-preserved
loop-row-preserved c =
    let row = get_or c.args.rows.now c.loop-row.row-index none in
    c.in_ok-command.ensures ∙ ap (λ (app : App). with_row app row) c.loop-row.invariant
    ∙ sym (fold_more with_row (app_of c.args.command) c.args.rows.now c.loop-row.row-index none c.loop-row-test.true)
