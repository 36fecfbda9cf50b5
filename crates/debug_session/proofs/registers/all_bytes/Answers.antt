use Rattle.std.proofs.Common.{◌≡◌, ℕ, ap, ◌∙◌, arith}
use Rattle.std.specs.List.{flat_map, range_with_len}
use Rattle.replayer.specs.Positions.{state_at}
use Rattle.debug_model.specs.States.{register_bytes}
use Rattle.debug_session.proofs.Ranges.{flat_map_next}
use Rattle.debug_session.proofs.registers.all_bytes.Goals as goal

pub loop-number-preserved : goal.loop-number-preserved
loop-number-preserved c =
    flat_map_next (register_bytes (state_at c.args.here.now)) c.loop-number.number c.loop-number.bytes.items c.push_register.new.bytes.items c.loop-number.invariant c.in_ok-push_register.ensures

pub returns : goal.returns
returns c =
    let all : c.loop-number.number ≡ 33 = omega arith in
    c.loop-number.invariant ∙ ap (λ (n : ℕ). flat_map (register_bytes (state_at c.args.here.now)) (range_with_len 0 n)) all
