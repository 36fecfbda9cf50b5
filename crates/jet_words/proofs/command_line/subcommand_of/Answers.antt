use Rattle.std.proofs.Common.{◌∙◌, ap₂, sym}
use Rattle.std.proofs.lemmas.List.Sums.{fold_more}
use Rattle.clap.specs.Words.{new_app, with_rule}
use Rattle.jet_words.specs.Table.{with_argument_by}
use Rattle.jet_words.proofs.command_line.subcommand_of.Goals as goal

pub loop-argument-preserved : goal.loop-argument-preserved
loop-argument-preserved c = record {
  app = c.in_ok-command.ensures.app ∙ ap₂ with_rule c.loop-argument.invariant.app c.argument_of.ensures.rule
      ∙ sym (fold_more with_argument_by (new_app c.args.name.now) c.args.arguments.now c.loop-argument.argument-index _ c.loop-argument-test.true);
  globals = c.in_ok-command.ensures.globals;
}
