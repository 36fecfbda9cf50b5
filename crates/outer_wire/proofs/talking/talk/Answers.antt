use Rattle.std.proofs.Common.{rules, ◌≡◌, ◌∙◌, ap, refl, arith, ℕ, length, take, length-take}
use Rattle.std.proofs.lemmas.Result.{err_from_is_err_and}
use Rattle.outer_io.proofs.TellsLemmas.{tells-same}
use Rattle.outer_wire.proofs.Causes.{rose_last}
use Rattle.outer_wire.proofs.Turns.{StandsAt, begins, not_begun, faults-then, told-failed, told-stopped, told-came, told-at_end, told-on, told-over, told-broken}
use Rattle.outer_wire.proofs.talking.talk.Goals as goal

pub returns-in_err-buffer : goal.returns-in_err-buffer
returns-in_err-buffer g c =
    let p = err_from_is_err_and c.from_residual.result c.from_residual.ensures.1 in
    rw p.1 (not_begun (g.A.Answerer.answers c.args.answerer.now) (g.W.Wire.shown c.args.wire.now) p.0 p.2)

pub loop-receive-init : goal.loop-receive-init
loop-receive-init g c = record {
  room = search rules;
  stood = refl;
  told = tells-same (g.W.Wire.shown c.args.wire.now).history (StandsAt (g.A.Answerer.answers c.args.answerer.now) (g.A.Answerer.answers c.args.answerer.now)) (begins (g.A.Answerer.answers c.args.answerer.now));
}

pub returns-in_default : goal.returns-in_default
returns-in_default g c =
    let w = c.loop-receive.invariant in
    record {
      told = told-failed _ _ _ _ _ (record { silent = c.form.ensures.silent; still = c.form.ensures.goes_on }) w.told c.in_default.ensures.err;
      faults = rose_last _ _ _ _ w.stood c.in_default.ensures.cause;
    }

pub returns-then-count-eq0 : goal.returns-then-count-eq0
returns-then-count-eq0 g c =
    let w = c.loop-receive.invariant in
    let none : c.in-Ok.count ≡ 0 = c.if-count-eq0.true in
    record {
      told = told-at_end _ _ _ _ (record { silent = c.form.ensures.silent; still = c.form.ensures.goes_on }) (take c.in-Ok.count c.receive.new.into) (ap (λ (n : ℕ). take n c.receive.new.into) none)
          (told-came _ _ _ _ _ _ (take c.in-Ok.count c.receive.new.into) (omega (arith, w.room)) w.told c.in-Ok.ensures.ok);
      faults = c.in-Ok.ensures.cause.stood refl ∙ w.stood;
    }

pub returns-in_err-answer_piece : goal.returns-in_err-answer_piece
returns-in_err-answer_piece g c =
    let w = c.loop-receive.invariant in
    let p = err_from_is_err_and c.from_residual-in_err-answer_piece.result c.from_residual-in_err-answer_piece.ensures.1 in
    rw (p.1, p.2) (record {
      told = told-broken _ _ _ _ _ _ (record { silent = c.form.ensures.silent; still = c.form.ensures.goes_on })
          (told-came _ _ _ _ _ _ (take c.in-Ok.count c.receive.new.into) (omega (arith, w.room)) w.told c.in-Ok.ensures.ok) _ _ c.in_err-answer_piece.ensures.told;
      faults = faults-then _ _ _ _ (c.in-Ok.ensures.cause.stood refl ∙ w.stood) c.in_err-answer_piece.ensures.faults;
    })

pub returns-then-branch : goal.returns-then-branch
returns-then-branch g c =
    let w = c.loop-receive.invariant in
    let next = g.A.Answerer.answers c.answer_piece.new.answerer in
    let got = take c.in-Ok.count c.receive.new.into in
    record {
      told = told-over _ _ _ _ _ _ (record { silent = c.form.ensures.silent; still = c.form.ensures.goes_on })
          (told-came _ _ _ _ _ _ got (omega (arith, w.room)) w.told c.in-Ok.ensures.ok)
          next _ c.if-branch.true c.in_ok-answer_piece.ensures.told;
      faults = c.in_ok-answer_piece.ensures.faults ∙ (c.in-Ok.ensures.cause.stood refl ∙ w.stood);
    }

pub loop-receive-preserved : goal.loop-receive-preserved
loop-receive-preserved g c =
    let w = c.loop-receive.invariant in
    let next = g.A.Answerer.answers c.answer_piece.new.answerer in
    let got = take c.in-Ok.count c.receive.new.into in
    let nonzero : c.in-Ok.count ≡ 0 → ⊥ = c.if-count-eq0.false in
    let room : length c.receive.new.into ≡ 4096 = search rules in
    record {
      room = room;
      stood = c.in_ok-answer_piece.ensures.faults ∙ (c.in-Ok.ensures.cause.stood refl ∙ w.stood);
      told = told-on _ _ _ _ _ _ (record { silent = c.form.ensures.silent; still = c.form.ensures.goes_on })
          (told-came _ _ _ _ _ _ got (omega (arith, w.room)) w.told c.in-Ok.ensures.ok)
          next _ c.if-branch.false (omega (arith, room, length-take c.in-Ok.count c.receive.new.into, c.in-Ok.ensures.count, w.room, nonzero))
          c.in_ok-answer_piece.ensures.told;
    }

pub returns : goal.returns
returns g c =
    let w = c.loop-receive.invariant in
    record { told = told-stopped _ _ _ _ w.told; faults = w.stood }
