use Rattle.std.proofs.Common.{rules, ◌-◌, ℕ, subst}
use Rattle.std.specs.Option.{is_some}
use Rattle.replayer.specs.Watching.{IsToldInRow}
use Rattle.checkpoints.specs.Touched.{stored_size, AreMarked}
use Rattle.checkpoints.specs.Taking.{TakerAt, quiet_of, HasSeen}
use Rattle.checkpoints.proofs.Taking.{store_stores, told_in_row}
use Rattle.checkpoints.proofs.taker.CheckpointTakerFollower.follow_store.Goals as goal

pub returns : goal.returns
returns c instr fits is =
    let inside = c.self.inside in
    let w : TakerAt = record { cuts = inside.cuts.items; next = inside.next; touched = inside.touched; taken = inside.taken; is_out = is_some inside.fault } in
    let new = c.note.new.self in
    let place = c.args.place in
    let size = store_stores instr c.args.store is in
    let marked : AreMarked inside.touched.flags (place - inside.touched.base) (stored_size instr) new.flags = subst (λ (n : ℕ). AreMarked inside.touched.flags (place - inside.touched.base) n new.flags) (search rules) c.note.ensures.flags in
    subst (λ (x : TakerAt). IsToldInRow HasSeen quiet_of x instr place (record w { touched = new })) c.self.view_is (told_in_row w new instr place c.note.ensures.base marked)
