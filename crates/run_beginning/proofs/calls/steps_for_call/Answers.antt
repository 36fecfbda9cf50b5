use Rattle.std.proofs.Common.{◌≡◌, Bool, [], refl, ap, ◌∙◌, arith, length}
use Rattle.std.specs.Prelude.{if◌then◌else◌}
use Rattle.std.proofs.lemmas.Bool.{eq-eqb}
use Rattle.isa.specs.Calls.{channel_of}
use Rattle.log_model.specs.Moved.{written_by}
use Rattle.run_beginning.proofs.calls.steps_for_call.Goals as goal

pub overflow_cast-length : goal.overflow_cast-length
overflow_cast-length c =
    let w = c.in-Write in
    let channel = channel_of w.args in
    let own : written_by channel c.args.call.now ≡ w.bytes = ap (written_by channel) w.is ∙ ap (λ (b : Bool). if b then w.bytes else []) (eq-eqb channel channel refl) in
    let room = c.requires.room channel c.if-args-ge16.false in
    omega (arith, room, ap length own, c.len-length.ensures)
