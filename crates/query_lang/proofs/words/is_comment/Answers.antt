use Rattle.std.proofs.Common.{sym, ◌∙◌, ap}
use Rattle.query_lang.proofs.WordLemmas.{is_comment-from_word, begins_comment}
use Rattle.query_lang.proofs.words.is_comment.Goals as goal

pub returns : goal.returns
returns c = c.starts_with.ensures.value ∙ ap begins_comment c.without_blanks.ensures ∙ sym (is_comment-from_word c.args.line.now)
