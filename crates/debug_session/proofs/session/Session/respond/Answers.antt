use Rattle.std.proofs.Common.{◌≡◌, ℕ, List, ◌++◌, subst}
use Rattle.std.specs.Prelude.{OnOk}
use Rattle.std.specs.List.{flat_map}
use Rattle.remote_frames.specs.Frames.{frame}
use Rattle.debug_session.proofs.Replies.{reply_is}
use Rattle.debug_session.proofs.session.Session.respond.Goals as goal

pub returns-in_ok-reply-in_default-clause-answered : goal.returns-in_ok-reply-in_default-clause-answered
returns-in_ok-reply-in_default-clause-answered c =
    let bytes = c.args.packet.now in
    let text = c.in_ok-reply-in_default.field-0.items in
    let answer = reply_is c.args.self.now c.change.new.self bytes c.args.asked text c.in_default.not-Command (c.in_ok-change-in_default.ensures bytes) (c.in_ok-reply-in_default.ensures bytes) in
    let pushed = rw c.deref.ensures.value at c.push_packet.ensures in
    subst (λ (packets : List (List ℕ)). OnOk c.push_packet.result (c.push_packet.new.frames.items ≡ c.args.frames.now.items ++ flat_map frame packets)) answer pushed
