use Rattle.std.proofs.Common.{rules, arith, refl, ◌++◌}
use Rattle.atomic_table.specs.Table.{keeps}
use Rattle.epoch_link.specs.ListLink.{history}
use Rattle.epoch_link.proofs.list_link.look.Goals as goal

pub load-requires : goal.load-requires
load-requires g c =
    let me = c.args.seat.now.me in
    (search rules, omega (arith, c.requires.seat.1), λ s h l at b. (history (me.0.sent ++ g.B.Moves.sent) (me.0.got ++ g.B.Moves.got), keeps, tt, tt, refl))
