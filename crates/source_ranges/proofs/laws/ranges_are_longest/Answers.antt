use Rattle.source_ranges.proofs.Longest.{ranges_hold_bytes, ranges_alone}
use Rattle.source_ranges.proofs.laws.ranges_are_longest.Goals as goal

pub returns-clause-bytes : goal.returns-clause-bytes
returns-clause-bytes c = ranges_hold_bytes

pub returns-clause-alone : goal.returns-clause-alone
returns-clause-alone c = ranges_alone
