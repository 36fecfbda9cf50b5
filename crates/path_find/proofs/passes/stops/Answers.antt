use Rattle.std.proofs.Common.{◌-◌, ◌<◌, ◌∷◌, ◌++◌, length, get_or, refl, ap, ◌∙◌, arith}
use Rattle.std.specs.Prelude.{[]}
use Rattle.log_model.specs.Logs.{steps}
use Rattle.flow_model.specs.declared.Loc.TheVariants.{Reg}
use Rattle.replayer.specs.Jobs.{Job}
use Rattle.replayer.specs.Positions.{CursorAt}
use Rattle.path_find.specs.declared.Arrival.{Arrival}
use Rattle.path_find.specs.declared.writing.Stop.{Stop}
use Rattle.path_find.specs.Stops.{stop_at}
use Rattle.path_find.proofs.Passing.{before_all, earlier, one_told}
use Rattle.path_find.proofs.passes.stops.Goals as goal

pub stop_of-stop-requires-clause-inside : goal.stop_of-stop-requires-clause-inside
stop_of-stop-requires-clause-inside c =
    let xs = c.args.arrivals.now in
    let k = length xs - 1 - c.loop-i.i in
    let within : k < length xs = omega (arith, c.loop-i-test.true) in
    let low = before_all c.args.time xs k (record { number = 0; loc = Reg 0 0 }) c.requires.before within in
    let log = ap (λ (j : Job). steps j.log) c.loop-i.invariant.job in
    omega (arith, low, log, c.requires.inside)

pub loop-i-preserved : goal.loop-i-preserved
loop-i-preserved c =
    let xs = c.args.arrivals.now in
    let none : Arrival = record { number = 0; loc = Reg 0 0 } in
    let k = length xs - 1 - c.loop-i.i in
    let within : k < length xs = omega (arith, c.loop-i-test.true) in
    let low = before_all c.args.time xs k none c.requires.before within in
    let moved = c.stop_of-stop.ensures.moved in
    let time = ap (λ (n : CursorAt). n.time) moved in
    let stop = c.stop_of-stop.ensures.stop ∙ ap (λ (j : Job). stop_at j (get_or xs k none)) c.loop-i.invariant.job in
    record {
      job = ap (λ (n : CursorAt). n.job) moved ∙ c.loop-i.invariant.job;
      made = c.in_ok-push.ensures.items ∙ ap (λ (x : Stop). c.loop-i.stops.items ++ x ∷ []) stop
          ∙ one_told c.args.job.now xs (length xs) c.loop-i.i none c.loop-i.stops.items refl c.loop-i-test.true c.loop-i.invariant.made;
      ahead = λ j d less. (let first : j < k = omega (arith, less) in let later = earlier c.args.time xs j k none d c.requires.before first within in omega (arith, later, time));
      inside = omega (arith, low, time);
    }
