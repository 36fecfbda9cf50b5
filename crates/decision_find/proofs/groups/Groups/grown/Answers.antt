use Rattle.std.proofs.Common.{ap, sym, ◌∙◌}
use Rattle.std.specs.Prelude.{Some}
use Rattle.std.specs.Option.{option_copied}
use Rattle.decision_find.proofs.Counted.{found_at}
use Rattle.decision_find.proofs.groups.Groups.grown.Goals as goal

pub with_one-requires-clause-one : goal.with_one-requires-clause-one
with_one-requires-clause-one c =
    c.requires.groups c.args.place c.in-Some.group.now
    (found_at c.args.self.now.by_place c.args.place (Some c.in-Some.group.now) (sym (ap option_copied c.in-Some.is) ∙ c.get.ensures.value))
