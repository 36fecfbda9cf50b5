-- What a pass knows of its epoch, which tells whether it is whole.
use Rattle.std.specs.Prelude.{Bool, true, false, Option, Some, None}
use Rattle.std.specs.Option.{ForSome}
use Rattle.terms_ahead.specs.declared.ahead.TermsAhead.{TermsAhead}
use Rattle.epoch_summary.specs.declared.summary.Summary.{Summary}
use Rattle.epoch_summary.specs.Ahead.{IsAhead}
use Rattle.pass_parts.specs.declared.pass_summary.PassSummary.{PassSummary}
use Rattle.pass_parts.specs.declared.pass_summary.PassSummary.TheVariants.{Whole, Broken}

abbrev pub is_whole : PassSummary → Bool
is_whole (Whole s) = true
is_whole (Broken s) = false

-- a broken pass still has its summary's name, though it reads it no more
abbrev pub summary_in : PassSummary → Option Summary
summary_in (Whole s) = Some s
summary_in (Broken s) = s

-- the summary that a pass still reads: a broken one reads none
abbrev pub read_summary : PassSummary → Option Summary
read_summary (Whole s) = Some s
read_summary (Broken s) = None

-- the terms that were read ahead are of the summary that is still read
abbrev pub IsOfEpoch : PassSummary → TermsAhead → Type 0
IsOfEpoch epoch ahead = ForSome (read_summary epoch) (λ s. IsAhead s ahead)
