use Rattle.std.proofs.Common.{ap, sym, ◌∙◌}
use Rattle.std.specs.Prelude.{Option}
use Rattle.std.proofs.lemmas.Result.{IfOk-weaker}
use Rattle.path_find.specs.declared.finding.SinkPath.{SinkPath}
use Rattle.path_find.specs.Sinks.{shown_path}
use Rattle.path_find.specs.Answer.{found_report_or}
use Rattle.path_find.proofs.answers.text_of.Goals as goal

pub returns-in-None : goal.returns-in-None
returns-in-None c =
    let told = found_report_or c.args.job.now c.args.pair.source in
    IfOk-weaker c.text_of_none.result _ _ (λ text e rule is. e ∙ ap (λ (o : Option SinkPath). told (shown_path o)) (sym c.in-None.is) ∙ ap told is) c.text_of_none.ensures

pub returns-in-Some : goal.returns-in-Some
returns-in-Some c =
    let told = found_report_or c.args.job.now c.args.pair.source in
    IfOk-weaker c.found_text.result _ _ (λ text e rule is. e ∙ ap (λ (o : Option SinkPath). told (shown_path o)) (sym c.in-Some.is) ∙ ap told is) c.found_text.ensures
