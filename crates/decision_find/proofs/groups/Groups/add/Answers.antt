use Rattle.decision_find.proofs.Counted.{IsPut, is_put, labels_added, groups_added}
use Rattle.decision_find.proofs.groups.Groups.add.Goals as goal
use Rattle.decision_find.proofs.groups.Groups.add.Goals.{In_ok-insert}

put : (c : In_ok-insert) → IsPut (record { pc = c.args.look.now.pc; loc = c.args.loc }) c.in_ok-group.group c.args.self.now.by_place c.insert.new.self
put c = is_put _ _ _ _ c.in_ok-insert.ensures.entries c.in_ok-insert.ensures.updates.0

pub returns-clause-groups : goal.returns-clause-groups
returns-clause-groups c =
    labels_added c.args.labels.now c.grown.new.labels c.in_ok-group.ensures.keeps c.args.look.now c.args.loc c.args.label c.requires.stands
    c.args.self.now.by_place c.insert.new.self c.in_ok-group.group c.in_ok-group.ensures.grows (put c) c.requires.groups

pub returns-clause-added : goal.returns-clause-added
returns-clause-added c =
    groups_added c.args.labels.now c.grown.new.labels c.in_ok-group.ensures.keeps c.args.look.now c.args.loc c.args.label c.requires.stands
    c.args.self.now.by_place c.insert.new.self c.in_ok-group.group c.in_ok-group.ensures.grows (put c)
