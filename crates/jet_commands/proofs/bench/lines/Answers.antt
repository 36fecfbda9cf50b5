use Rattle.std.proofs.Common.{◌∙◌, ap}
use Rattle.std.proofs.lemmas.Result.{IfOk-weaker}
use Rattle.replayer.specs.Jobs.{trace_of}
use Rattle.order_gateway.specs.Workload.{workload_query}
use Rattle.order_gateway.specs.Lines.{numbers_text}
use Rattle.order_gateway.proofs.SameNumbers.{same_numbers}
use Rattle.jet_commands.proofs.bench.lines.Goals as goal

pub returns : goal.returns
returns g c =
    IfOk-weaker c.text_of.result _ _ (λ text e. e
    ∙ ap numbers_text (c.in_ok-numbers.ensures ∙ same_numbers c.in_ok-query.query workload_query c.args.cuts (trace_of c.args.job.now) c.in_ok-query.ensures))
    c.text_of.ensures
