use Rattle.std.proofs.Common.{subst, arith, ℕ, List}
use Rattle.outer_io.proofs.PiecesLemmas.{puts-fault}
use Rattle.sink_collect.specs.Reaching.{line_of}
use Rattle.sink_collect.proofs.Putting.{all_texts, one_more_text, some_texts}
use Rattle.sink_collect.proofs.writing.put_range_reach.Goals as goal

pub returns-in_err-put_reach : goal.returns-in_err-put_reach
returns-in_err-put_reach g c =
    puts-fault g.P.Pieces.putting _ c.args.place.now c.put_reach.new.place _ c.from_residual.result c.from_residual.ensures.1
    (some_texts (line_of c.args.sinks.now) c.args.range c.loop-offset.offset g.P.Pieces.putting g.met.P.Pieces.laws c.loop-offset.invariant.from c.loop-offset-test.true
    c.args.place.now c.loop-offset.place c.put_reach.new.place c.loop-offset.invariant.put c.in_err-put_reach.ensures)

pub loop-offset-preserved : goal.loop-offset-preserved
loop-offset-preserved g c = record {
  from = omega (arith, c.loop-offset.invariant.from);
  put = one_more_text (line_of c.args.sinks.now) c.args.range c.loop-offset.offset g.P.Pieces.putting g.met.P.Pieces.laws c.loop-offset.invariant.from c.loop-offset-test.true
      c.args.place.now c.loop-offset.place c.put_reach.new.place c.loop-offset.invariant.put c.in_ok-put_reach.ensures;
}

pub returns : goal.returns
returns g c =
    subst (λ (text : List ℕ). g.P.Pieces.putting.whole c.args.place.now text c.loop-offset.place)
    (all_texts (line_of c.args.sinks.now) c.args.range c.loop-offset.offset c.loop-offset-test.false) c.loop-offset.invariant.put
