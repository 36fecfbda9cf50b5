use Rattle.std.proofs.Common.{append-nil}
use Rattle.source_ranges.specs.Ranges.{bytes_of}
use Rattle.source_ranges.proofs.Kept.{kept-one}
use Rattle.source_ranges.proofs.set.SourceSet.of_range.Goals as goal

pub invariant_of-result : goal.invariant_of-result
invariant_of-result c = kept-one c.args.range c.requires

pub returns : goal.returns
returns c = append-nil (bytes_of c.args.range)
