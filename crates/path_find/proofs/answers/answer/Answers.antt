use Rattle.path_find.proofs.Passing.{path_falls}
use Rattle.path_find.proofs.answers.answer.Goals as goal

pub text_of-requires-clause-falls : goal.text_of-requires-clause-falls
text_of-requires-clause-falls c = path_falls c.args.job.now c.args.rule c.in-Some.pair c.in_ok-found.found c.in_ok-found.ensures.path
