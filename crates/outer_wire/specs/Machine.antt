-- What is known of a wire of the machine: it tells nothing of what passed.
use Rattle.std.specs.Prelude.{ℕ, None}
use Rattle.outer_io.specs.Faults.{shown_count}
use Rattle.outer_wire.specs.Wires.{WireShown}

pub record MachineWired : Type 0 where
  -- how often a call failed
  pub faults : ℕ

abbrev pub machine_wire_shown : MachineWired → WireShown
machine_wire_shown w = record { history = None; faults = shown_count w.faults }
