use Rattle.std.proofs.lemmas.List.{append_cancel_left, append_cancel_right}
use Rattle.std.proofs.Common.{◌++◌}
use Rattle.replay_model.specs.Run.{trace}
use Rattle.report_model.specs.Rows.{rows}
use Rattle.page_text.specs.Texts.{head, tail}
use Rattle.page_data.specs.Data.{asked, page_data}
use Rattle.page_data.specs.PageLaws.{PagesTellReports}
use Rattle.page_data.proofs.Apart.{data_tell}
use Rattle.page_data.proofs.Small.{rows_are_small}
use Rattle.page_data.proofs.laws.pages_tell_reports.Goals as goal

pages_tell : PagesTellReports
pages_tell q p state other log k hq hp hl hk e =
    let same = append_cancel_right (head ++ page_data q state log) (head ++ page_data p other k) tail e in
    data_tell (asked q (trace state log)) (asked p (trace other k)) log k (rows q (trace state log)) (rows p (trace other k)) (rows_are_small q state log hq hl) (rows_are_small p other k hp hk)
    (append_cancel_left head (page_data q state log) (page_data p other k) same)

pub returns : goal.returns
returns c = pages_tell
