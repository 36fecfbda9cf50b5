use Rattle.std.proofs.Common.{ap, sym, ◌∙◌}
use Rattle.remote_frames.specs.Frames.{heard}
use Rattle.remote_frames.specs.Reading.{FramerAt, begun}
use Rattle.remote_frames.proofs.Steps.{nothing_yet}
use Rattle.remote_frames.proofs.framer.Framer.form.Goals as goal

pub returns : goal.returns
returns c =
    let inside = c.self.inside in
    ap (λ (f : FramerAt). heard (begun f)) (sym c.self.view_is)
    ∙ nothing_yet inside.place inside.packet.items c.self.invariant.plain c.self.invariant.digit
