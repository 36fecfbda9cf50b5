use Rattle.std.proofs.Common.{◌≡◌, ◌-◌, List, get_or, sym, subst}
use Rattle.std.specs.Prelude.{Some}
use Rattle.merge_log.specs.declared.nodes.Entry.{Entry}
use Rattle.merge_log.specs.declared.nodes.Entry.TheVariants.{Source}
use Rattle.merge_log.specs.Log.{IsNode, entry_at}
use Rattle.merge_log.proofs.Terms.{entry_before}
use Rattle.merge_log.proofs.Walking.{entry_there}
use Rattle.merge_log.proofs.nodes.MergeLog.entry.Goals as goal

abbrev none : Entry
none = Source (record { channel = 0; offset = 0 })

pub returns-clause-at : goal.returns-clause-at
returns-clause-at c =
    let node = c.args.node in
    let keys = c.self.inside.entries.keys in
    subst (λ (log : List Entry). entry_at log node ≡ Some (get_or c.as_slice.result.now (node - 1) none)) c.self.view_is
    (subst (λ (slice : List Entry). entry_at keys node ≡ Some (get_or slice (node - 1) none)) (sym c.as_slice.ensures.keys)
    (entry_there keys node none c.requires.above_0 (subst (λ (log : List Entry). IsNode log node) (sym c.self.view_is) c.requires.stands)))

pub returns-clause-before : goal.returns-clause-before
returns-clause-before c = rw c.as_slice.ensures.keys (entry_before c.self.inside.entries.keys c.args.node _ c.self.invariant.0.ordered (entry_there c.self.inside.entries.keys c.args.node _ c.requires.above_0 (rw (← c.self.view_is) at c.requires.stands)))
