use Rattle.answer_meaning.proofs.Ranges.{copied_are_unchanged, moves_are_unchanged}
use Rattle.answer_meaning.proofs.laws.copied_runs_are_unchanged.Goals as goal

pub returns : goal.returns
returns c = record {
  rows = copied_are_unchanged c.runs_are_longest.ensures.rows;
  moves = moves_are_unchanged c.runs_are_longest.ensures.rows c.copied_bytes_are_received.ensures.rows;
}
