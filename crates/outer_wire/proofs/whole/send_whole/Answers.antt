use Rattle.std.proofs.Common.{◌≡◌, ◌∙◌, ap, sym, refl, subst, [], ◌++◌, ℕ, List, take, length, append-nil}
use Rattle.std.proofs.lemmas.Bool.{eqb-true}
use Rattle.std.proofs.lemmas.List.{nil_from_length}
use Rattle.outer_io.specs.Tells.{Tells, Gains}
use Rattle.outer_io.proofs.TellsLemmas.{tells-then, tells-same, seam, prefix-front}
use Rattle.outer_wire.specs.Wires.{Passed, sent}
use Rattle.outer_wire.specs.Sending.{Sends, SendsPrefix}
use Rattle.outer_wire.proofs.History.{sends-nothing, sends-on, sends-piece}
use Rattle.outer_wire.proofs.Causes.{none_failed, last_failed}
use Rattle.outer_wire.proofs.whole.send_whole.Goals as goal

pub loop-rest-init : goal.loop-rest-init
loop-rest-init g c = record {
  done = [];
  whole = refl;
  stood = refl;
  told = tells-same (g.W.Wire.shown c.args.wire.now).history (Sends []) sends-nothing;
}

pub loop-rest-preserved : goal.loop-rest-preserved
loop-rest-preserved g c =
    let w = c.loop-rest.invariant in
    let n : ℕ = c.in-Ok.count in
    let r : List ℕ = c.loop-rest.rest.now in
    record {
      done = w.done ++ take n r;
      whole = seam w.done _ n r w.whole;
      stood = c.in-Ok.ensures.cause.stood refl ∙ w.stood;
      told = tells-then _ _ _ (Sends w.done) (Gains (sent (take n r))) (Sends (w.done ++ take n r))
          (λ x y z p q. sends-on w.done (take n r) x y z p (sends-piece (take n r) y z q)) w.told c.in-Ok.ensures.ok;
    }

pub returns-in_default-clause-cause : goal.returns-in_default-clause-cause
returns-in_default-clause-cause g c = last_failed _ _ _ _ _ c.loop-rest.invariant.stood c.in_default.ensures.cause

pub returns-in_default-clause-err : goal.returns-in_default-clause-err
returns-in_default-clause-err g c =
    let w = c.loop-rest.invariant in
    tells-then _ _ _ (Sends w.done) (Gains []) (SendsPrefix c.args.bytes.now)
    (λ x y z p q. record {
      part = w.done;
      is_prefix = prefix-front w.done c.loop-rest.rest.now c.args.bytes.now w.whole;
      sends = subst (λ (h : List Passed). Sends w.done x h) (sym (append-nil y) ∙ sym q) p;
    }) w.told c.in_default.ensures.err

pub returns-clause-cause : goal.returns-clause-cause
returns-clause-cause g c = none_failed _ _ tt c.loop-rest.invariant.stood

pub returns-clause-ok : goal.returns-clause-ok
returns-clause-ok g c =
    let w = c.loop-rest.invariant in
    let none : c.loop-rest.rest.now ≡ [] = nil_from_length c.loop-rest.rest.now (eqb-true (length c.loop-rest.rest.now) 0 (sym c.loop-rest-test.ensures)) in
    let all : w.done ≡ c.args.bytes.now = sym (append-nil w.done) ∙ ap (λ r. w.done ++ r) (sym none) ∙ w.whole in
    subst (λ (text : List ℕ). Tells (g.W.Wire.shown c.args.wire.now).history (g.W.Wire.shown c.loop-rest.wire).history (Sends text)) all w.told
