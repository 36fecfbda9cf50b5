use Rattle.std.proofs.Common.{◌≡◌, true, sym, subst, arith}
use Rattle.std.proofs.lemmas.Grind.{common_steps}
use Rattle.flow_model.specs.declared.SinkPoint.TheVariants.{Out}
use Rattle.report_model.specs.Query.{has_sink}
use Rattle.report_model.specs.Rows.{Sink}
use Rattle.taint_tracking.specs.Sinks.{Notes}
use Rattle.taint_tracking.proofs.Notes.{one_note, chosen_one}
use Rattle.taint_tracking.proofs.sinks.collect_byte.Goals as goal

pub returns : goal.returns
returns c t =
    let q = c.args.query.now in
    let places = c.args.places.now in
    let before = c.args.sinks.now.items in
    let after = c.push.new.self.items in
    let sink : Sink = record { name = Out c.args.sink; time = t; loc = c.args.loc } in
    let asked : has_sink q (Out c.args.sink) ≡ true = grind (arith, common_steps, c.sink_has.ensures, c.if-not-sink_has.false) in
    subst (λ (ks : _). Notes places ks before after) (sym (chosen_one q sink asked)) (one_note places sink before after c.get.result c.get.ensures c.in_ok-push.ensures.items)
