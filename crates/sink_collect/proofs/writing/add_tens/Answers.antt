use Rattle.std.proofs.Common.{◌≡◌, sym, subst, arith, ℕ, List}
use Rattle.outer_io.proofs.PiecesLemmas.{puts-fault}
use Rattle.sink_collect.proofs.Putting.{names_of, tens_of, no_tens, more_tens, some_tens}
use Rattle.sink_collect.specs.Waiting.{waiting}
use Rattle.sink_collect.proofs.Waiting.{waiting_laws}
use Rattle.sink_collect.proofs.writing.add_tens.Goals as goal

pub loop-tens-init : goal.loop-tens-init
loop-tens-init g c = record {
  from = omega arith;
  past = omega (arith, c.requires.1);
  put = subst (λ (text : List ℕ). (waiting g.P.Pieces.putting).whole (c.args.place.now, c.args.text.now) text (c.args.place.now, c.args.text.now)) (sym (no_tens c.args.channel c.args.from))
      ((waiting_laws g.P.Pieces.putting g.met.P.Pieces.laws).nothing (c.args.place.now, c.args.text.now));
}

pub loop-tens-preserved : goal.loop-tens-preserved
loop-tens-preserved g c =
    record {
      from = omega (arith, c.loop-tens.invariant.from);
      past = omega (arith, c.loop-tens-test.true);
      put = more_tens (waiting g.P.Pieces.putting) (waiting_laws g.P.Pieces.putting g.met.P.Pieces.laws) c.args.channel c.args.from c.loop-tens.tens c.args.past c.loop-tens.invariant.from c.loop-tens-test.true
          (c.args.place.now, c.args.text.now) (c.loop-tens.place, c.loop-tens.text) (c.add_ten.new.place, c.add_ten.new.text) c.loop-tens.invariant.put c.in_ok-add_ten.ensures;
    }

pub returns-in_err-add_ten : goal.returns-in_err-add_ten
returns-in_err-add_ten g c =
    puts-fault (waiting g.P.Pieces.putting) _ (c.args.place.now, c.args.text.now) (c.add_ten.new.place, c.add_ten.new.text) _ c.from_residual.result c.from_residual.ensures.1
    (some_tens (waiting g.P.Pieces.putting) (waiting_laws g.P.Pieces.putting g.met.P.Pieces.laws) c.args.channel c.args.from c.loop-tens.tens c.args.past c.loop-tens.invariant.from c.loop-tens-test.true
    (c.args.place.now, c.args.text.now) (c.loop-tens.place, c.loop-tens.text) (c.add_ten.new.place, c.add_ten.new.text) c.loop-tens.invariant.put c.in_err-add_ten.ensures)

pub returns : goal.returns
returns g c =
    let all : c.loop-tens.tens ≡ c.args.past = omega (arith, c.loop-tens.invariant.past, c.loop-tens-test.false) in
    subst (λ (past : ℕ). (waiting g.P.Pieces.putting).whole (c.args.place.now, c.args.text.now) (names_of (tens_of c.args.channel c.args.from past)) (c.loop-tens.place, c.loop-tens.text)) all c.loop-tens.invariant.put
