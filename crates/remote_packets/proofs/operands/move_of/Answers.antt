use Rattle.std.proofs.Common.{ap, ◌∙◌}
use Rattle.std.specs.List.{before_first}
use Rattle.remote_packets.specs.Packets.{is_colon, move_named}
use Rattle.remote_packets.proofs.operands.move_of.Goals as goal

pub returns : goal.returns
returns c =
    c.move_by.ensures
    ∙ ap move_named (c.cut_at-2.ensures.before ∙ ap (before_first is_colon) c.cut_at.ensures.before)
