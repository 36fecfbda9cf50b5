use Rattle.std.proofs.Common.{◌∙◌, arith, false, refl, sym}
use Rattle.std.proofs.lemmas.List.{get_or_read}
use Rattle.summary_join.specs.Labels.{IsMarked}
use Rattle.summary_join.proofs.Looking.{start_looked, union_looked}
use Rattle.summary_join.proofs.needs.look_at.Goals as goal

pub returns-in_ok-add-in-Start : goal.returns-in_ok-add-in-Start
returns-in_ok-add-in-Start c =
    let a = c.args in
    let marked : IsMarked a.marks.now.items a.node =
    sym (get_or_read a.marks.now.items a.node c.index.result.now (omega (arith, c.requires.stands, c.requires.room)) c.index.ensures false) ∙ c.if-not-index.false in
    start_looked a.log.now a.node a.marks.now.items a.asked.now c.in-Start.loc c.add.new.self marked c.in-Start.ensures.at c.in_ok-add-in-Start.ensures.added

pub returns-in-Union : goal.returns-in-Union
returns-in-Union c =
    let a = c.args in
    let marked : IsMarked a.marks.now.items a.node =
    sym (get_or_read a.marks.now.items a.node c.index.result.now (omega (arith, c.requires.stands, c.requires.room)) c.index.ensures false) ∙ c.if-not-index.false in
    union_looked a.log.now a.node a.marks.now.items a.asked.now c.in-Union.left c.in-Union.right marked c.in-Union.ensures.at c.in-Union.ensures.before (omega (arith, c.requires.stands, c.requires.room)) _ refl
