use Rattle.taint_shadow.proofs.lanes.Lanes.shuffled.Goals as goal

pub chosen-requires : goal.chosen-requires
chosen-requires c = c.requires 0

pub chosen-requires-2 : goal.chosen-requires-2
chosen-requires-2 c = c.requires 1

pub chosen-requires-3 : goal.chosen-requires-3
chosen-requires-3 c = c.requires 2

pub chosen-requires-4 : goal.chosen-requires-4
chosen-requires-4 c = c.requires 3
