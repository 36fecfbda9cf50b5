use Rattle.std.proofs.Common.{sym, ◌∙◌, ◌+◌}
use Rattle.std.proofs.lemmas.List.{take_rest}
use Rattle.query_lang.proofs.LineLemmas.{lines_after, one_line}
use Rattle.query_lang.proofs.lines.split_line.Goals as goal

pub returns-in_default-clause-lines : goal.returns-in_default-clause-lines
returns-in_default-clause-lines c = one_line c.args.text.now (sym c.line_feed_in.ensures ∙ c.in_default.is)

pub returns-clause-lines : goal.returns-clause-lines
returns-clause-lines c =
    rw (take_rest c.args.text.now (c.in-Some.end + 1), c.without_carriage_return.ensures)
    (lines_after c.args.text.now c.in-Some.end (sym c.line_feed_in.ensures ∙ c.in-Some.is))
