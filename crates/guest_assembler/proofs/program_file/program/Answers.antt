use Rattle.std.proofs.Common.{◌<◌, ◌∙◌, ap, length, w32, arith}
use Rattle.std.specs.Int.{to_le_bytes}
use Rattle.guest_assembler.specs.ProgramFile.{headers, size_of}
use Rattle.guest_assembler.proofs.Bytes.{one_more}
use Rattle.guest_assembler.proofs.program_file.program.Goals as goal

pub loop-instr-preserved : goal.loop-instr-preserved
loop-instr-preserved c = λ have.
    let inside : c.loop-instr.instr-index < length c.args.code.now = omega arith in
    let bytes = c.to_le_bytes.ensures ∙ ap (to_le_bytes w32) (c.word_of.ensures (have c.loop-instr.instr-index _ inside)) in
    c.in_ok-extend_from_slice.ensures.items ∙ one_more c.args.code.now c.loop-instr.instr-index _ (headers (size_of c.args.code.now)) _ c.to_le_bytes.result inside bytes (c.loop-instr.invariant have)
