use Rattle.std.proofs.Common.{rules, ◌-◌}
use Rattle.rv_machine.proofs.Known.{written_known}
use Rattle.rv_machine.proofs.hart.Machine.step_inlined.Goals as goal
use Rattle.rv_machine.proofs.hart.Machine.step_inlined.Goals.{in-On, in-To, in-Loaded, in-Stored, in-Called, in-Trapped}

pub invariant_of-self-2 : goal.invariant_of-self-2
invariant_of-self-2 c =
    elim c.match-execute.branch [ in-On w ↦ search rules | in-To w ↦ search rules | in-Loaded w ↦ search rules | in-Stored w ↦ let known = written_known c.look_up.new.self w.forget.new.self c.self.inside.state.memory c.execute.new.self.memory (w.in-Stored.place - c.base-base.result) w.forget.ensures (search rules) (search rules) in search rules | in-Called w ↦ search rules | in-Trapped w ↦ search rules ]
