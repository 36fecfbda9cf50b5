use Rattle.std.proofs.Common.{rules, arith}
use Rattle.order_gateway.proofs.Generated.{one_more}
use Rattle.order_gateway.proofs.generator.input.Goals as goal

pub loop-i-preserved : goal.loop-i-preserved
loop-i-preserved c = record {
  bytes = one_more c.input_length-length.result c.loop-i._i c.loop-i.state c.next_state-state.result c.byte_of.result c.loop-i.bytes.items _ _
      (omega arith) c.next_state-state.ensures c.byte_of.ensures c.push_reserved.ensures.items c.loop-i.invariant.bytes;
  count = search rules;
  room = search rules;
}
