use Rattle.std.proofs.Common.{◌∙◌}
use Rattle.remote_packets.proofs.HexTexts.{even_hex}
use Rattle.remote_packets.proofs.operands.is_hex.Goals as goal

pub returns-then-digits-eq0 : goal.returns-then-digits-eq0
returns-then-digits-eq0 c = c.are_digits.ensures ∙ even_hex c.args.digits.now c.if-digits-eq0.true
