-- Terms that are read ahead of their use.
use Rattle.source_labels.specs.Words.{log_of}
use Rattle.terms_ahead.specs.declared.ahead.TermsAhead.{TermsAhead}
use Rattle.terms_ahead.specs.Ahead.{IsOfLog}
use Rattle.epoch_summary.specs.declared.summary.Summary.{Summary}

-- what was read ahead is of the summary: it is good for no other
abbrev pub IsAhead : Summary → TermsAhead → Type 0
IsAhead e ahead = IsOfLog (log_of e.nodes) ahead
