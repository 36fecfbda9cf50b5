use Rattle.std.proofs.Common.{◌≡◌, List, length, sym, ap, ◌∙◌, subst, arith}
use Rattle.std.proofs.lemmas.List.{nil_from_length}
use Rattle.crossbeam_queue.specs.Passes.{view}
use Rattle.run_board.specs.declared.view.WorkerView.{WorkerView}
use Rattle.run_board.specs.Rule.{queue_weight, view_weight, whole_weight}
use Rattle.run_board.specs.Workers.{Keeps}
use Rattle.run_board.proofs.KeepsRule.{takes, has_rest}
use Rattle.run_board.proofs.Keeping.{takes_one, can_keep}
use Rattle.run_board.proofs.turning.turn_until_empty.Goals as goal

pub pop_as-requires-clause-rule : goal.pop_as-requires-clause-rule
pop_as-requires-clause-rule g c = (
  takes g.T.Numbered.words _ _ c.loop.invariant.ready.keeps.working,
  has_rest g.T.Numbered.words _ _,
)

pub turn_once-requires-clause-taken : goal.turn_once-requires-clause-taken
turn_once-requires-clause-taken g c κs within =
    let told = c.in-Some-pop_as.ensures.rule in
    takes_one g.T.Numbered.words (view c.loop.worker.pass) (view c.pop_as.new.pass) c.loop.worker.finished.items c.in-Some-pop_as.task c.loop.invariant.ready.keeps told.0 told.1

pub turn_once-requires-clause-space : goal.turn_once-requires-clause-space
turn_once-requires-clause-space g c κs within =
    let i = c.loop.invariant.ready in
    let told = c.in-Some-pop_as.ensures.rule in
    let few = can_keep g.T.Numbered.words (view c.loop.worker.pass) (view c.pop_as.new.pass) c.loop.worker.finished.items c.in-Some-pop_as.task _ i.keeps told.0 told.2 in
    omega (arith, few, i.few, i.room)

pub loop-preserved : goal.loop-preserved
loop-preserved g c =
    let before = c.loop.invariant.same_worker in
    let told = c.in-Some-pop_as.ensures.rule.0 in
    let after = c.turn_once.ensures.same_worker in
    record {
      ready = c.turn_once.ensures.ready;
      same_worker = record {
        shares = after.shares ∙ ap (λ v. v.shares) told ∙ before.shares;
        starts = after.starts ∙ ap (λ v. v.starts) told ∙ before.starts;
      };
    }

pub turn_once-requires-clause-pass : goal.turn_once-requires-clause-pass
turn_once-requires-clause-pass g c κs within =
    let was = c.loop.invariant.ready.has_pass in
    let same = c.pop_as.ensures.queue in
    (same.0 ∙ was.0, same.2 ∙ was.1)

pub returns-in-None-pop_as : goal.returns-in-None-pop_as
returns-in-None-pop_as g c =
    let V : Type 0 = WorkerView g.row.T.Denot in
    let i = c.loop.invariant.ready in
    let same = c.pop_as.ensures.queue in
    let knows = c.in-None-pop_as.ensures.rule.0 in
    let before = c.loop.invariant.same_worker in
    record {
      ready =
          record {
            has_pass = (same.0 ∙ i.has_pass.0, same.2 ∙ i.has_pass.1);
            keeps = subst (λ (v : V). Keeps g.T.Numbered.words v c.loop.worker.finished.items) (sym knows) i.keeps;
            few = omega (arith, ap (λ (v : V). length v.starts) knows, i.few);
            room = i.room;
          };
      same_worker = record { shares = ap (λ (v : V). v.shares) knows ∙ before.shares; starts = ap (λ (v : V). v.starts) knows ∙ before.starts };
      has_all = λ all weight.
          let T : Type 0 = g.row.T.Denot in
          let V : Type 0 = WorkerView T in
          let knows = c.in-None-pop_as.ensures.rule.0 in
          let looked = c.in-None-pop_as.ensures.rule.1 in
          let rest = looked.2 (sym (ap (λ (v : V). v.shares) knows) ∙ all) weight in
          let none = ap (λ (l : List T). queue_weight g.T.Numbered.words.number weight l) (nil_from_length looked.0 looked.1) in
          subst (λ (v : V). view_weight weight v ≡ whole_weight (length v.starts) weight) (sym knows) (omega (arith, rest, none));
    }
