use Rattle.debug_model.proofs.StateTexts.{of_run, among_all, registers_read, memory_bytes}
use Rattle.debug_model.proofs.laws.the_state_is_told.Goals as goal

pub returns : goal.returns
returns c = record { run = of_run; among = among_all; registers = registers_read; memory = memory_bytes }
