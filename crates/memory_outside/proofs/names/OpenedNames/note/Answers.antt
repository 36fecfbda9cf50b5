use Rattle.std.proofs.Common.{rules, ◌≡◌, ◌∙◌, ap, sym, ◌++◌, ◌∷◌, [], length, true, false}
use Rattle.memory_outside.specs.Names.{opened_of, has_room_for}
use Rattle.memory_outside.proofs.NamesLemmas.{noted, noted-lost}
use Rattle.memory_outside.proofs.names.OpenedNames.note.Goals as goal

pub returns : goal.returns
returns c =
    let name = c.args.name.now in
    let before = c.self.inside in
    let view : opened_of before.bytes.items before.lengths.items before.is_lost ≡ c.args.self.now = c.self.view_is in
    let room : has_room_for name (opened_of before.bytes.items before.lengths.items before.is_lost) ≡ true = ap (λ o. has_room_for name o) view ∙ sym c.if-not-has_room_for.ensures in
    let bytes : c.extend_from_slice.new.self.items ≡ before.bytes.items ++ name = search rules in
    let lengths : c.push.new.self.items ≡ before.lengths.items ++ length name ∷ [] = search rules in
    rw (← view, bytes, lengths) (noted name before.bytes.items before.lengths.items before.is_lost c.self.invariant.whole room)

pub returns-then-not-has_room_for : goal.returns-then-not-has_room_for
returns-then-not-has_room_for c =
    let name = c.args.name.now in
    let before = c.self.inside in
    let view : opened_of before.bytes.items before.lengths.items before.is_lost ≡ c.args.self.now = c.self.view_is in
    let room : has_room_for name (opened_of before.bytes.items before.lengths.items before.is_lost) ≡ false = ap (λ o. has_room_for name o) view ∙ sym c.if-not-has_room_for.ensures in
    rw (← view) (noted-lost name before.bytes.items before.lengths.items before.is_lost room)
