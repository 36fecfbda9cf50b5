-- A page: its data between two constant texts.
use Rattle.std.specs.Prelude.{ℕ, List, ◌++◌}
use Rattle.isa.specs.Machine.{State}
use Rattle.log_model.specs.Logs.{Log}
use Rattle.report_model.specs.Query.{Query}
use Rattle.page_text.specs.Texts.{head, tail}
use Rattle.page_data.specs.Data.{page_data}

-- the page of a query, over the run from a state under a log
abbrev pub page_report : Query → State → Log → List ℕ
page_report q state log = head ++ page_data q state log ++ tail
