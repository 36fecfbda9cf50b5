use Rattle.std.proofs.Common.{◌∙◌, arith, rules}
use Rattle.std.proofs.lemmas.List.{take_all}
use Rattle.epoch_model.specs.Cutting.{epochs}
use Rattle.epoch_cut.specs.Numbered.{numbered}
use Rattle.epoch_cut.proofs.Numbered.{numbered_more, length-numbered}
use Rattle.epoch_cut.proofs.cutting.Cuts.tickets.Goals as goal

pub loop-number-preserved : goal.loop-number-preserved
loop-number-preserved c = record {
  tickets = let more = numbered_more c.args.self c.loop-number.number c.at.result c.at-in-loop-number.result c.at.ensures c.at-in-loop-number.ensures in cc;
  count = search rules;
  room = search rules;
}

pub returns : goal.returns
returns c = c.loop-number.invariant.tickets ∙ take_all c.loop-number.number (numbered 0 (epochs 0 c.args.self)) (omega (arith, length-numbered 0 0 c.args.self, c.count-count.ensures.is, c.loop-number-test.false))
