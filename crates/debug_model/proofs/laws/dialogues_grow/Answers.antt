use Rattle.debug_model.proofs.Hearing.{beginning_is_beginning, nothing_is_behind_the_end}
use Rattle.debug_model.proofs.laws.dialogues_grow.Goals as goal

pub returns : goal.returns
returns c = record {
  beginning = beginning_is_beginning c.beginning_is_heard.ensures;
  end = nothing_is_behind_the_end c.beginning_is_heard.ensures;
}
