use Rattle.std.proofs.Common.{◌≡◌, ◌∙◌, List, ℕ, [], ◌∷◌, true, cond, ap, sym}
use Rattle.std.specs.Prelude.{Err}
use Rattle.std.specs.Str.{bytes_eq}
use Rattle.report_model.specs.declared.QueryKind.TheVariants.{Count}
use Rattle.report_model.specs.Grammar.{choice_of, range_of, is_all}
use Rattle.query_lang.proofs.statement.operands_of.Goals as goal

-- a word before words that are known
onto : {ws more known : List (List ℕ)} (word : List ℕ) → ws ≡ word ∷ more → more ≡ known → ws ≡ word ∷ known
onto word first rest = first ∙ ap (λ more. word ∷ more) rest

-- `all` has no offsets
no_offsets : (word from past : List ℕ) → is_all word ≡ true → choice_of (word ∷ from ∷ past ∷ []) ≡ Err Count
no_offsets word from past all = ap (λ b. cond b (Err Count) (range_of word from past)) all

pub returns-in_err-first : goal.returns-in_err-first
returns-in_err-first c = rw c.from_residual.ensures (ap choice_of c.in_err-first.ensures.steps.0)

pub returns-then-is_all : goal.returns-then-is_all
returns-then-is_all c =
    let word = c.in_ok-first.first.now in
    (word, onto word c.in_ok-first.ensures.steps c.in_default.ensures.steps.0, sym (c.eq-is_all.ensures ∙ ap (bytes_eq word) c.as_slice.ensures) ∙ c.if-is_all.true)

pub returns-in_default : goal.returns-in_default
returns-in_default c =
    let word = c.in_ok-first.first.now in
    (onto word c.in_ok-first.ensures.steps c.in_default.ensures.steps.0, sym (c.eq-is_all.ensures ∙ ap (bytes_eq word) c.as_slice.ensures) ∙ c.if-is_all.false)

pub returns-in_err-past : goal.returns-in_err-past
returns-in_err-past c =
    let known = onto c.in_ok-first.first.now c.in_ok-first.ensures.steps (onto c.in-Some.from.now c.in-Some.ensures.steps c.in_err-past.ensures.steps.0) in
    rw c.from_residual-in_err-past.ensures (ap choice_of known)

pub returns-in-Some-next : goal.returns-in-Some-next
returns-in-Some-next c =
    let rest = onto c.in_ok-past.past.now c.in_ok-past.ensures.steps c.in-Some-next.ensures.steps in
    ap choice_of (onto c.in_ok-first.first.now c.in_ok-first.ensures.steps (onto c.in-Some.from.now c.in-Some.ensures.steps rest))

pub returns-in-None : goal.returns-in-None
returns-in-None c =
    let word = c.in_ok-first.first.now in
    let from = c.in-Some.from.now in
    let past = c.in_ok-past.past.now in
    let known = onto word c.in_ok-first.ensures.steps (onto from c.in-Some.ensures.steps (onto past c.in_ok-past.ensures.steps c.in-None.ensures.steps.0)) in
    ap choice_of known ∙ no_offsets word from past (sym (c.eq-is_all.ensures ∙ ap (bytes_eq word) c.as_slice.ensures) ∙ c.if-is_all-2.true)

pub returns-in-None-2 : goal.returns-in-None-2
returns-in-None-2 c =
    let word = c.in_ok-first.first.now in
    let rest = onto c.in-Some.from.now c.in-Some.ensures.steps (onto c.in_ok-past.past.now c.in_ok-past.ensures.steps c.in-None-2.ensures.steps.0) in
    (onto word c.in_ok-first.ensures.steps rest, sym (c.eq-is_all.ensures ∙ ap (bytes_eq word) c.as_slice.ensures) ∙ c.if-is_all-2.false)
