use Rattle.std.proofs.Common.{ap₂}
use Rattle.epoch_link.specs.Ends.{Producing, Consuming}
use Rattle.flow_model.specs.declared.Message.{Message}
use Rattle.epoch_layout.specs.declared.ends.Before.{Before}
use Rattle.epoch_layout.specs.declared.ends.After.{After}
use Rattle.epoch_layout.proofs.ends.join_two.Goals as goal

after : Consuming Message → Producing Message → After
after c p = record { ask_in = c; answer_out = p }

before : Producing Message → Consuming Message → Before
before p c = record { ask_out = p; answer_in = c }

pub returns : goal.returns
unfolding after before
returns c =
    let asks = c.in_ok-ask_out in
    let answers = c.in_ok-answer_out in (
      record { ask = asks.ask_out.link; answer = answers.answer_out.link },
      ap₂ after asks.ensures.consumer answers.ensures.producer,
      ap₂ before asks.ensures.producer answers.ensures.consumer,
    )
