use Rattle.std.proofs.Common.{◌≡◌, ◌+◌, List, [], ◌∷◌, ap, ap₂, length, slice_get, subst, sym, ◌∙◌}
use Rattle.std.proofs.lemmas.List.{length-append}
use Rattle.std.specs.List.{IsDistinct}
use Rattle.std.specs.Ordering.{eq_by_cmp}
use Rattle.flow_model.specs.declared.Loc.{Loc}
use Rattle.flow_model.specs.Orders.{loc_cmp}
use Rattle.epoch_summary.specs.Placed.{ArePlaced}
use Rattle.epoch_summary.proofs.Placing.{added_had, added_last, distinct_more, gets_last, has_at, none_read, not_had, place_put, place_read, placed_same}
use Rattle.epoch_summary.proofs.asked.Asked.put.Goals as goal

pub invariant_of-self : goal.invariant_of-self
invariant_of-self c =
    let s = c.self.inside in
    (c.self.invariant.0, placed_same s.locations.items s.table c.find.new.self c.find.ensures.same c.self.invariant.1)

pub invariant_of-self-then-past-gt0 : goal.invariant_of-self-then-past-gt0
invariant_of-self-then-past-gt0 c =
    let s = c.self.inside in
    (c.self.invariant.0, placed_same s.locations.items s.table c.find.new.self c.find.ensures.same c.self.invariant.1)

pub returns-then-past-gt0-clause-place : goal.returns-then-past-gt0-clause-place
returns-then-past-gt0-clause-place c =
    place_read c.self.inside.locations.items c.find.new.self c.args.loc c.number_of.result c.in_ok-slot.slot c.get-past.result (invariant_of-self-then-past-gt0 c).1
    c.number_of.ensures.fits c.number_of.ensures.number c.in_ok-slot.ensures.slot c.get-past.ensures c.if-past-gt0.true

pub returns-then-past-gt0-clause-added : goal.returns-then-past-gt0-clause-added
returns-then-past-gt0-clause-added c =
    let ls = c.self.inside.locations.items in
    rw (← c.self.view_is) (added_had ls c.args.loc (has_at ls _ c.args.loc (returns-then-past-gt0-clause-place c)))

pub invariant_of-self-in_err-push : goal.invariant_of-self-in_err-push
invariant_of-self-in_err-push c =
    let s = c.self.inside in
    let same = sym c.in_err-push.ensures.items in
    (subst (IsDistinct (eq_by_cmp loc_cmp)) same c.self.invariant.0, subst (λ (ls : List Loc). ArePlaced ls c.find.new.self) same (placed_same s.locations.items s.table c.find.new.self c.find.ensures.same c.self.invariant.1))

pub invariant_of-self-2 : goal.invariant_of-self-2
invariant_of-self-2 c =
    let s = c.self.inside in
    let t = c.find.new.self in
    let placed = placed_same s.locations.items s.table t c.find.ensures.same c.self.invariant.1 in
    let none = none_read t c.args.loc c.number_of.result c.in_ok-slot.slot c.get-past.result c.number_of.ensures.number c.in_ok-slot.ensures.slot c.get-past.ensures c.if-past-gt0.false in
    let new = not_had s.locations.items t c.args.loc placed none in
    let more = sym c.in_ok-push.ensures.items in
    let counted : c.len-count.result ≡ length s.locations.items + 1 =
    c.len-count.ensures ∙ c.push.new.self.ok.0 ∙ ap length c.in_ok-push.ensures.items ∙ length-append s.locations.items (c.args.loc ∷ []) in (
      subst (IsDistinct (eq_by_cmp loc_cmp)) more (distinct_more s.locations.items c.args.loc c.self.invariant.0 new),
      subst (λ (ls : List Loc). ArePlaced ls c.set.new.self) more
          (place_put s.locations.items c.args.loc t c.set.new.self c.number_of.result c.in_ok-slot.slot _ c.number_of.ensures.fits placed none c.number_of.ensures.number
          c.in_ok-slot.ensures.slot c.in_ok-slot.ensures.inside counted c.set.ensures.slots c.set.ensures.blocks),
    )

pub returns-clause-added : goal.returns-clause-added
returns-clause-added c =
    let s = c.self.inside in
    let t = c.find.new.self in
    let placed = placed_same s.locations.items s.table t c.find.ensures.same c.self.invariant.1 in
    let none = none_read t c.args.loc c.number_of.result c.in_ok-slot.slot c.get-past.result c.number_of.ensures.number c.in_ok-slot.ensures.slot c.get-past.ensures c.if-past-gt0.false in
    rw (← c.self.view_is) (c.in_ok-push.ensures.items ∙ added_last s.locations.items c.args.loc (not_had s.locations.items t c.args.loc placed none))

pub returns-clause-place : goal.returns-clause-place
returns-clause-place c =
    let at_end : c.len-place.result ≡ length c.self.inside.locations.items = c.len-place.ensures ∙ c.self.inside.locations.ok.0 in
    ap₂ slice_get c.in_ok-push.ensures.items at_end ∙ gets_last c.self.inside.locations.items c.args.loc
