use Rattle.std.proofs.Common.{sym, subst, List, arith}
use Rattle.run_board.specs.Workers.{Keeps, view_of}
use Rattle.run_board.proofs.Keeping.{has_turned, keeps_ended}
use Rattle.run_board.proofs.turning.turn_once.Goals as goal

pub put_back-requires-clause-taken : goal.put_back-requires-clause-taken
put_back-requires-clause-taken g c κs within =
    let transitive = (g.met.T.Task g.world.𝓛 g.world.𝓜 g.world.𝓡 ((λ s x. x), (λ x. x), (λ x. x), λ x. x)).transitive in
    has_turned g.T.Numbered.words (view_of c.args.worker.now) c.args.worker.now.finished.items c.args.task c.turn-answer.new.self transitive c.turn-answer.ensures.number c.turn-answer.ensures.led c.requires.taken

pub returns-in-Done-clause-ready : goal.returns-in-Done-clause-ready
returns-in-Done-clause-ready g c =
    let transitive = (g.met.T.Task g.world.𝓛 g.world.𝓜 g.world.𝓡 ((λ s x. x), (λ x. x), (λ x. x), λ x. x)).transitive in
    let taken = has_turned g.T.Numbered.words (view_of c.args.worker.now) c.args.worker.now.finished.items c.args.task c.turn-answer.new.self transitive c.turn-answer.ensures.number c.turn-answer.ensures.led c.requires.taken in
    let k = keeps_ended g.T.Numbered.words (view_of c.args.worker.now) c.args.worker.now.finished.items c.turn-answer.new.self taken c.in-Done.ensures.done in
    record {
      has_pass = c.requires.pass;
      keeps = subst (λ (l : List g.row.T.Denot). Keeps g.T.Numbered.words (view_of c.args.worker.now) l) (sym c.push_reserved.ensures.items) k;
      few = c.requires.few;
      room = omega (arith, c.requires.room, c.push_reserved.ensures.capacity);
    }
