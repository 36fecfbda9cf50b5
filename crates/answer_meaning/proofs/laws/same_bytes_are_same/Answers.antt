use Rattle.answer_meaning.proofs.Ranges.{lines_moved, same_is_same}
use Rattle.answer_meaning.proofs.laws.same_bytes_are_same.Goals as goal

pub returns : goal.returns
returns c = record {
  moved = lines_moved c.runs_are_longest.ensures.rows c.ranges_are_longest.ensures.bytes c.rows_are_of_moved_bytes.ensures;
  same = same_is_same c.runs_are_longest.ensures.rows c.ranges_are_longest.ensures.bytes c.same_holds_its_range.ensures c.rows_are_of_moved_bytes.ensures;
}
