use Rattle.std.proofs.Common.{◌∙◌, sym, refl, subst, ℕ, Bool, List, [], ◌∷◌, ◌++◌, take, drop, suc, get_or, ◌+◌}
use Rattle.std.proofs.lemmas.List.{take_more}
use Rattle.std.proofs.lemmas.Result.{err_from_is_err_and}
use Rattle.outer_io.proofs.TellsLemmas.{tells-then, tells-map}
use Rattle.outer_wire.specs.Sending.{Sends, SendsPrefix}
use Rattle.outer_wire.specs.Talks.{left_by, no_more}
use Rattle.outer_wire.specs.Answering.{IsAnswered, IsAnsweredInPart}
use Rattle.outer_wire.proofs.Causes.{rose_last}
use Rattle.outer_wire.proofs.Pieces.{around, up_to, answered-byte, part-byte, answered-early, part-none}
use Rattle.outer_wire.proofs.talking.answer_piece.Goals as goal

pub returns-in_err-is_over : goal.returns-in_err-is_over
returns-in_err-is_over g c =
    let first = g.A.Answerer.answers c.args.answerer.now in
    let now = g.A.Answerer.answers c.loop-byte.answerer in
    let bytes = c.args.bytes.now in
    let i = c.loop-byte.byte-index in
    let w = c.loop-byte.invariant in
    let p = err_from_is_err_and c.from_residual.result c.from_residual.ensures.1 in
    rw (p.1, p.2) (record {
      told = tells-map _ _ (IsAnswered first (take i bytes) now) (IsAnsweredInPart first bytes)
          (λ x y q. part-none first now bytes (take i bytes) _ x y (around bytes i 0 c.loop-byte-test.true) q) w.told;
      faults = w.stood;
    })

pub returns-in-Err : goal.returns-in-Err
returns-in-Err g c =
    let first = g.A.Answerer.answers c.args.answerer.now in
    let now = g.A.Answerer.answers c.loop-byte.answerer in
    let bytes = c.args.bytes.now in
    let i = c.loop-byte.byte-index in
    let w = c.loop-byte.invariant in
    record {
      told = tells-then _ _ _ (IsAnswered first (take i bytes) now) (SendsPrefix c.deref.result.now) (IsAnsweredInPart first bytes)
          (λ x y z q s. part-byte first now _ bytes (take i bytes) _ _ _ _ c.hear.new.out.items x y z (around bytes i 0 c.loop-byte-test.true) c.clear.ensures.items c.in_ok-is_over.ensures q
          (subst (λ (text : List ℕ). SendsPrefix text y z) c.deref.ensures.value s)) w.told c.in-Err.ensures.err;
      faults = rose_last _ _ _ _ w.stood c.in-Err.ensures.cause;
    }

pub returns-then-is_over : goal.returns-then-is_over
returns-then-is_over g c =
    let first = g.A.Answerer.answers c.args.answerer.now in
    let now = g.A.Answerer.answers c.loop-byte.answerer in
    let next = g.A.Answerer.answers c.hear.new.self in
    let bytes = c.args.bytes.now in
    let i = c.loop-byte.byte-index in
    let w = c.loop-byte.invariant in
    record {
      told = tells-then _ _ _ (IsAnswered first (take i bytes) now) (Sends c.deref.result.now) (IsAnswered first bytes no_more)
          (λ x y z q s. answered-early first bytes (take i bytes ++ get_or bytes i 0 ∷ []) (drop (suc i) bytes) x z (up_to bytes i 0 c.loop-byte-test.true)
          (subst (λ (over : Bool). IsAnswered first (take i bytes ++ get_or bytes i 0 ∷ []) (left_by over next) x z) c.if-is_over.true
          (answered-byte first now next bytes (take i bytes) _ _ _ _ c.hear.new.out.items x y z (around bytes i 0 c.loop-byte-test.true) c.clear.ensures.items c.in_ok-is_over.ensures q
          (subst (λ (text : List ℕ). Sends text y z) c.deref.ensures.value s)))) w.told c.in-Ok.ensures.ok;
      faults = c.in-Ok.ensures.cause.stood refl ∙ w.stood;
    }

pub loop-byte-preserved : goal.loop-byte-preserved
loop-byte-preserved g c =
    let first = g.A.Answerer.answers c.args.answerer.now in
    let now = g.A.Answerer.answers c.loop-byte.answerer in
    let next = g.A.Answerer.answers c.hear.new.self in
    let bytes = c.args.bytes.now in
    let i = c.loop-byte.byte-index in
    let w = c.loop-byte.invariant in
    record {
      stood = c.in-Ok.ensures.cause.stood refl ∙ w.stood;
      told = tells-then _ _ _ (IsAnswered first (take i bytes) now) (Sends c.deref.result.now) (IsAnswered first (take (i + 1) bytes) next)
          (λ x y z q s. subst (λ (done : List ℕ). IsAnswered first done next x z) (sym (take_more bytes i 0 c.loop-byte-test.true))
          (subst (λ (over : Bool). IsAnswered first (take i bytes ++ get_or bytes i 0 ∷ []) (left_by over next) x z) c.if-is_over.false
          (answered-byte first now next bytes (take i bytes) _ _ _ _ c.hear.new.out.items x y z (around bytes i 0 c.loop-byte-test.true) c.clear.ensures.items c.in_ok-is_over.ensures q
          (subst (λ (text : List ℕ). Sends text y z) c.deref.ensures.value s)))) w.told c.in-Ok.ensures.ok;
    }
