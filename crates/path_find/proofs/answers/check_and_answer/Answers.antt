use Rattle.std.proofs.Common.{◌∙◌, ap}
use Rattle.elf_model.specs.Image.{image}
use Rattle.path_find.proofs.Passing.{path_falls}
use Rattle.path_find.proofs.answers.check_and_answer.Goals as goal

pub check_watched-requires : goal.check_watched-requires
check_watched-requires c = ap image c.deref.ensures.value ∙ c.args.program.loads

pub text_of-requires-clause-falls : goal.text_of-requires-clause-falls
text_of-requires-clause-falls c =
    let job = c.in_ok-job.job in
    let seen = c.in_ok-job.ensures.seen c.args.rule c.args.pair c.new-watching.ensures in
    path_falls job c.args.rule c.args.pair c.in_ok-found.found (c.in_ok-found.ensures c.args.rule c.args.pair seen).path

pub text_of-requires-clause-inside : goal.text_of-requires-clause-inside
text_of-requires-clause-inside c =
    let seen = c.in_ok-job.ensures.seen c.args.rule c.args.pair c.new-watching.ensures in
    (c.in_ok-found.ensures c.args.rule c.args.pair seen).inside

pub returns-clause-text : goal.returns-clause-text
returns-clause-text c =
    let seen = c.in_ok-job.ensures.seen c.args.rule c.args.pair c.new-watching.ensures in
    c.in_ok-text.ensures c.args.rule (c.in_ok-found.ensures c.args.rule c.args.pair seen).path
