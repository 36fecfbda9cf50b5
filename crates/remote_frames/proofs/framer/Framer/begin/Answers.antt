use Rattle.std.proofs.Common.{ℕ, List, ◌∷◌, ◌++◌, ap, sym, ◌∙◌}
use Rattle.remote_frames.specs.Frames.{heard}
use Rattle.remote_frames.specs.Reading.{FramerAt, begun}
use Rattle.remote_frames.proofs.Steps.{dollar}
use Rattle.remote_frames.proofs.framer.Framer.begin.Goals as goal

pub returns : goal.returns
returns c after =
    let inside = c.self.inside in
    ap (λ (f : FramerAt). heard (begun f ++ 0x24 ∷ after)) (sym c.self.view_is)
    ∙ dollar inside.place inside.packet.items after c.self.invariant.plain c.self.invariant.digit
    ∙ ap (λ (items : List ℕ). heard ((0x24 ∷ items) ++ after)) (sym c.clear.ensures.items)
