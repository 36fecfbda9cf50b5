use Rattle.std.proofs.Common.{arith, ◌*◌, ◌/◌}
use Rattle.outer_io.proofs.PiecesLemmas.{puts-fault}
use Rattle.sink_collect.proofs.Putting.{some_before, some_between, all_three}
use Rattle.sink_collect.specs.Waiting.{waiting}
use Rattle.sink_collect.proofs.Waiting.{waiting_laws}
use Rattle.sink_collect.proofs.writing.add_range.Goals as goal

pub returns-in_err-add_few : goal.returns-in_err-add_few
returns-in_err-add_few g c =
    let r = c.args.range in
    puts-fault (waiting g.P.Pieces.putting) _ (c.args.place.now, c.args.text.now) (c.add_few-2.new.place, c.add_few-2.new.text) _ c.from_residual.result c.from_residual.ensures.1
    (some_before (waiting g.P.Pieces.putting) (waiting_laws g.P.Pieces.putting g.met.P.Pieces.laws) r.channel r.from (10 * c.max-from.result)
    (10 * (r.past / 10)) r.past
    (omega (arith, c.div_ceil.ensures, c.max-from.ensures)) (omega (arith, c.if-range-le-MOST_NAMES.false)) (omega arith) (c.args.place.now, c.args.text.now)
    (c.add_few-2.new.place, c.add_few-2.new.text)
    c.in_err-add_few.ensures)

pub returns-in_err-add_tens : goal.returns-in_err-add_tens
returns-in_err-add_tens g c =
    let r = c.args.range in
    puts-fault (waiting g.P.Pieces.putting) _ (c.args.place.now, c.args.text.now) (c.add_tens.new.place, c.add_tens.new.text) _ c.from_residual-in_err-add_tens.result c.from_residual-in_err-add_tens.ensures.1
    (some_between (waiting g.P.Pieces.putting) (waiting_laws g.P.Pieces.putting g.met.P.Pieces.laws) r.channel r.from (10 * c.max-from.result)
    (10 * (r.past / 10)) r.past
    (omega (arith, c.div_ceil.ensures, c.max-from.ensures)) (omega (arith, c.if-range-le-MOST_NAMES.false)) (omega arith)
    (c.args.place.now, c.args.text.now) (c.add_few-2.new.place, c.add_few-2.new.text) (c.add_tens.new.place, c.add_tens.new.text) c.in_ok-add_few.ensures c.in_err-add_tens.ensures)

pub returns : goal.returns
returns g c =
    let r = c.args.range in
    all_three (waiting g.P.Pieces.putting) (waiting_laws g.P.Pieces.putting g.met.P.Pieces.laws) r.channel r.from (10 * c.max-from.result)
    (10 * (r.past / 10)) r.past
    (omega (arith, c.div_ceil.ensures, c.max-from.ensures)) (omega (arith, c.if-range-le-MOST_NAMES.false)) (omega arith)
    (c.args.place.now, c.args.text.now) (c.add_few-2.new.place, c.add_few-2.new.text) (c.add_tens.new.place, c.add_tens.new.text) (c.add_few-3.new.place, c.add_few-3.new.text) c.add_few-3.result
    c.in_ok-add_few.ensures c.in_ok-add_tens.ensures c.add_few-3.ensures
