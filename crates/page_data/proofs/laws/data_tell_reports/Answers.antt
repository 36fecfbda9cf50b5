use Rattle.page_data.proofs.Apart.{data_tell}
use Rattle.page_data.proofs.laws.data_tell_reports.Goals as goal

pub returns : goal.returns
returns c = data_tell
