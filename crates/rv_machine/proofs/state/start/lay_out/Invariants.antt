use Rattle.std.proofs.Common.{◌≡◌, drop}
use Rattle.elf_model.specs.Window.{laid_out}
use Rattle.rv_machine.proofs.state.start.lay_out.Given as goal

-- what is left to lay out in memory comes to the whole
abbrev pub invariant-loop-segment : goal.invariant-loop-segment
invariant-loop-segment l = laid_out l.base l.memory (drop l.segment-index l.segments) ≡ laid_out l.base l.fn.memory l.segments
