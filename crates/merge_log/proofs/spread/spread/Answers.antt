use Rattle.std.proofs.Common.{arith, ◌≡◌, ◌∙◌, ℕ, ap, sym, subst, List}
use Rattle.std.proofs.lemmas.Result.{on_ok_weaker}
use Rattle.merge_log.specs.declared.finding.Leaves.TheVariants.{Run, Start}
use Rattle.merge_log.proofs.Terms.{terms_step}
use Rattle.merge_log.proofs.Walking.{source_under}
use Rattle.merge_log.specs.Masks.{HasBit, IsCover, found_at}
use Rattle.merge_log.proofs.Covering.{added, leaf_cover, union_cover}
use Rattle.merge_log.proofs.spread.spread.Goals as goal

pub returns-in-Source-clause-covers : goal.returns-in-Source-clause-covers
returns-in-Source-clause-covers c =
    on_ok_weaker c.give.result (λ given r root h cover. leaf_cover _ root _ c.args.node c.args.mask r _ _ (Run c.of_byte.result)
    (source_under c.args.log.now c.args.node c.in-Source.byte c.of_byte.result c.in-Source.ensures.at c.of_byte.ensures) (given r h) cover) c.give.ensures.given

pub returns-in-Run-clause-covers : goal.returns-in-Run-clause-covers
returns-in-Run-clause-covers c =
    on_ok_weaker c.give-in-Run.result (λ given r root h cover. leaf_cover _ root _ c.args.node c.args.mask r _ _ (Run (record { channel = c.in-Run.channel; first = c.in-Run.first; last = c.in-Run.last }))
    (terms_step c.args.log.now c.args.node _ c.in-Run.ensures.at tt) (given r h) cover) c.give-in-Run.ensures.given

pub returns-in-Start-clause-covers : goal.returns-in-Start-clause-covers
returns-in-Start-clause-covers c =
    on_ok_weaker c.give-in-Start.result (λ given r root h cover. leaf_cover _ root _ c.args.node c.args.mask r _ _ (Start c.in-Start.loc)
    (terms_step c.args.log.now c.args.node _ c.in-Start.ensures.at tt) (given r h) cover) c.give-in-Start.ensures.given

pub returns-in-Union-clause-covers : goal.returns-in-Union-clause-covers
returns-in-Union-clause-covers c =
    let masks = c.args.masks.now.masks.items in
    let both : c.add-in-Union.new.self.masks.items ≡ added (added masks c.in-Union.left c.args.mask) c.in-Union.right c.args.mask = c.add-in-Union.ensures ∙ ap (λ (ms : List ℕ). added ms c.in-Union.right c.args.mask) c.add.ensures in
    λ r root h cover. subst (λ (ms : List ℕ). IsCover c.args.log.now root (HasBit ms r) (found_at c.args.found.now.items r)) (sym both)
    (union_cover c.args.log.now root masks c.args.node c.args.mask r _ c.in-Union.left c.in-Union.right c.in-Union.ensures.at c.in-Union.ensures.before
    (omega (arith, c.requires.room, c.requires.stands)) cover)
