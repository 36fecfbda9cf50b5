use Rattle.std.proofs.Common.{subst}
use Rattle.flow_model.proofs.Located.{flow_table}
use Rattle.path_find.specs.Carriers.{HasNothing}
use Rattle.path_find.specs.Trails.{IsApart}
use Rattle.path_find.proofs.Apart.{apart_stays}
use Rattle.path_find.proofs.following.follow_instruction.Goals as goal

pub returns-then-is_apart : goal.returns-then-is_apart
returns-then-is_apart c = apart_stays c.args.nodes.now c.args.carriers.now c.args.number _ c.requires.standing (flow_table c.args.rule c.args.instr.now c.args.place c.requires.fits)
    (subst (IsApart (HasNothing c.args.carriers.now)) c.shape_of.ensures.targets (c.is_apart.ensures c.if-is_apart.true))
