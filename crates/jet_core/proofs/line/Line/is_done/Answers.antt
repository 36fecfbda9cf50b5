use Rattle.std.proofs.Common.{rules, ◌≡◌, ℕ, add-one, map, length, get_or, ap, sym, ◌∙◌, subst, arith}
use Rattle.std.proofs.lemmas.List.{length-map}
use Rattle.epoch_node.specs.declared.stage.Phase.TheVariants.{Done}
use Rattle.epoch_node.specs.Cores.{core_of, phase_of}
use Rattle.jet_core.proofs.Placing.{map_get}
use Rattle.jet_core.proofs.Doing.{DoneTo, done_next, done_all, one_undone}
use Rattle.jet_core.proofs.line.Line.is_done.Goals as goal

pub returns-then-ne-clause-no : goal.returns-then-ne-clause-no
returns-then-ne-clause-no g c = λ e.
    let core = c.core-item.result in
    let items = c.args.self.now.cores.items in
    let same = c.deref-core-items.ensures.value in
    let undone : phase_of (core_of {G = g.row.G.Denot} core).stage ≡ Done → ⊥ = search rules in
    let long : length (map (core_of {G = g.row.G.Denot}) items) ≡ length c.deref-core-items.result.now = length-map items _ ∙ ap length (sym same) in
    one_undone c.loop-core.core-index _ (core_of core) (omega (arith, long, c.loop-core-test.true))
    (map_get (core_of {G = g.row.G.Denot}) items c.loop-core.core-index core (ap (λ l. get_or l c.loop-core.core-index core) (sym same) ∙ sym c.core-item.is)) undone

pub loop-core-preserved : goal.loop-core-preserved
loop-core-preserved g c =
    let core = c.core-item.result in
    let items = c.args.self.now.cores.items in
    let same = c.deref-core-items.ensures.value in
    let done : phase_of (core_of {G = g.row.G.Denot} core).stage ≡ Done = search rules in
    subst (λ (n : ℕ). DoneTo n (map (core_of {G = g.row.G.Denot}) items)) (sym (add-one c.loop-core.core-index))
    (done_next c.loop-core.core-index _ (core_of core) c.loop-core.invariant
    (map_get (core_of {G = g.row.G.Denot}) items c.loop-core.core-index core (ap (λ l. get_or l c.loop-core.core-index core) (sym same) ∙ sym c.core-item.is)) done)

pub returns-clause-yes : goal.returns-clause-yes
returns-clause-yes g c = λ e.
    let items = c.args.self.now.cores.items in
    let long : length (map (core_of {G = g.row.G.Denot}) items) ≡ length c.deref-core-items.result.now = length-map items _ ∙ ap length (sym c.deref-core-items.ensures.value) in
    done_all c.loop-core.core-index _ (omega (arith, long, c.loop-core-test.false, c.loop-core.auto.core-index-end)) c.loop-core.invariant
