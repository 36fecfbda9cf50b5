-- What of a row is a query's own.
use Rattle.std.specs.List.{filter}
use Rattle.report_model.specs.Query.{Query, has_source}
use Rattle.report_model.specs.Rows.{Row}

-- the row with those of its source bytes that the query chooses
abbrev pub own_part : Query → Row → Row
own_part q r = record { sink = r.sink; sources = filter (has_source q) r.sources }
