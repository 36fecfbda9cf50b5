use Rattle.std.proofs.Common.{get_or}
use Rattle.std.proofs.lemmas.List.{get_or_default}
use Rattle.flow_model.specs.declared.SinkPoint.{SinkPoint}
use Rattle.flow_model.specs.declared.SinkPoint.TheVariants.{Out}
use Rattle.report_model.specs.Influence.{sink_text}
use Rattle.outer_io.proofs.PiecesLemmas.{puts-fault, puts-some}
use Rattle.sink_collect.proofs.writing.put_sinks.Goals as goal

pub returns-in_err-put_sink : goal.returns-in_err-put_sink
returns-in_err-put_sink g c =
    let items = c.args.sinks.now in
    let i = c.loop-sink.sink-index in
    let none : SinkPoint = Out (record { channel = 0; offset = 0 }) in
    let sink : SinkPoint = get_or items i none in
    puts-fault g.P.Pieces.putting _ c.args.place.now c.put_sink.new.place _ c.from_residual.result c.from_residual.ensures.1
    (puts-some g.P.Pieces.putting g.met.P.Pieces.laws sink_text items i sink c.args.place.now c.loop-sink.place c.put_sink.new.place
    c.loop-sink-test.true (get_or_default items i none sink c.loop-sink-test.true) c.loop-sink.invariant c.in_err-put_sink.ensures)
