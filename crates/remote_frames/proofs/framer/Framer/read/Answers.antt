use Rattle.std.proofs.Common.{◌≡◌, ◌∷◌, ◌++◌, List, ap, sym, ◌∙◌, subst}
use Rattle.std.proofs.lemmas.Bool.{eq-eqb, ne_eqb}
use Rattle.remote_frames.specs.declared.framer.Place.{Place}
use Rattle.remote_frames.specs.Frames.{Heard, heard}
use Rattle.remote_frames.specs.Reading.{FramerAt, begun, HasNoDollar}
use Rattle.remote_frames.proofs.Steps.{outside_read, inside_read, digit_read}
use Rattle.remote_frames.proofs.framer.Framer.read.Goals as goal

pub returns-then-byte-eq45-clause-heard : goal.returns-then-byte-eq45-clause-heard
returns-then-byte-eq45-clause-heard c after =
    let packet = c.self.inside.packet.items in
    let stands = sym c.self.view_is ∙ ap (λ (p : Place). record { place = p; packet = packet }) c.in-Outside.is in
    let said = outside_read c.args.self.now packet after c.args.byte stands c.if-byte-eq36.false in
    rw (eq-eqb c.args.byte 0x2d c.if-byte-eq45.true) at said

pub returns-else-byte-eq45-clause-heard : goal.returns-else-byte-eq45-clause-heard
returns-else-byte-eq45-clause-heard c after =
    let packet = c.self.inside.packet.items in
    let stands = sym c.self.view_is ∙ ap (λ (p : Place). record { place = p; packet = packet }) c.in-Outside.is in
    let said = outside_read c.args.self.now packet after c.args.byte stands c.if-byte-eq36.false in
    rw (ne_eqb c.args.byte 0x2d c.if-byte-eq45.false) at said

pub returns-in_ok-add-in-Inside-clause-heard : goal.returns-in_ok-add-in-Inside-clause-heard
returns-in_ok-add-in-Inside-clause-heard c after =
    let packet = c.self.inside.packet.items in
    let stands = sym c.self.view_is ∙ ap (λ (p : Place). record { place = p; packet = packet }) c.in-Inside.is in
    inside_read c.args.self.now packet after c.args.byte stands c.self.invariant.plain
    c.if-byte-eq36.false c.if-byte-eq35.false
    ∙ ap (λ (f : FramerAt). heard (begun f ++ after)) (sym c.in_ok-add-in-Inside.ensures.ok)

pub returns-in-SecondDigit-clause-heard : goal.returns-in-SecondDigit-clause-heard
returns-in-SecondDigit-clause-heard c after =
    let packet = c.self.inside.packet.items in
    let high = c.in-SecondDigit.high in
    let stands = sym c.self.view_is ∙ ap (λ (p : Place). record { place = p; packet = packet }) c.in-SecondDigit.is in
    digit_read c.args.self.now packet after high c.args.byte stands c.self.invariant.plain
    (subst HasNoDollar c.in-SecondDigit.is c.self.invariant.digit) c.if-byte-eq36.false
    ∙ ap (λ (said : List Heard). said ++ heard after) (sym c.ended.ensures)
