use Rattle.std.proofs.Common.{◌∙◌, append_assoc}
use Rattle.std.specs.Fmt.{decimal}
use Rattle.run_output.specs.Lines.{word_of}
use Rattle.run_output.proofs.Lines.{six_appended}
use Rattle.run_output.proofs.writing.push_piece.Goals as goal

pub returns : goal.returns
returns c =
    let beginning = c.in_ok-push_beginning.ensures ∙ append_assoc c.args.out.now.items (decimal c.args.at) (word_of c.args.way) in
    six_appended _ _ _ _ _ _ _ _ _ _ _ _ _ beginning c.in_ok-push_wide_byte.ensures c.in_ok-push_extent.ensures c.in_ok-push.ensures.items c.in_ok-push_quoted.ensures c.in_ok-push-2.ensures.items
