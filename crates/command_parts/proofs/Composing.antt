-- Outcomes of calls made one after another. Crates above cite these lemmas.
use Rattle.std.proofs.Common.{◌≡◌, ◌∙◌, subst, List, Bool, Option, Result, Ok, Err}
use Rattle.outer_io.specs.Faults.{Rose}
use Rattle.outer_io.specs.Tells.{Tells}
use Rattle.outer_io.specs.Files.{Files, Text, KeepsFiles}
use Rattle.outer_io.specs.Shown.{StoreShown}
use Rattle.outer_io.specs.Reads.{Reads}
use Rattle.outer_io.proofs.TellsLemmas.{tells-then, tells-map, tells-both, rose-earlier}
use Rattle.jet_refusal.specs.declared.refusal.Refusal.{Refusal}
use Rattle.jet_refusal.specs.Causes.{IsOwedTo}
use Rattle.jet_refusal.proofs.Causes.{IsOwedTo-map}
use Rattle.jet_model.specs.Outcomes.{and_then}
use Rattle.jet_model.specs.Contents.{Contents}
use Rattle.jet_model.proofs.AndThen.{and_then-ok, and_then-err}
use Rattle.command_parts.specs.Outcome.{HeldBefore, by_reading, IsOutcomeBy, IsOutcomeOf, IsWork}

-- ---- what is told

pub held-map : (fact more : Contents → Type 0) (f g : Option Files) → ((file : Contents) → fact file → more file) → Tells f g (HeldBefore fact) → Tells f g (HeldBefore more)
held-map fact more f g step = tells-map f g (HeldBefore fact) (HeldBefore more) (λ x y d. record { held = step x.file d.held })

-- what two calls find, of which the first keeps the files
pub held-then : (one two all : Contents → Type 0) (f g h : Option Files)
    → ((file : Contents) → one file → two file → all file)
    → Tells f g (HeldBefore one) → Tells f g KeepsFiles → Tells g h (HeldBefore two) → Tells f h (HeldBefore all)
held-then one two all f g h step found keeps more =
    tells-then f g h (λ x y. HeldBefore one x y × KeepsFiles x y) (HeldBefore two) (HeldBefore all)
    (λ x y z r q. record { held = step x.file r.0.held (subst two r.1.file q.held) }) (tells-both f g (HeldBefore one) KeepsFiles found keeps) more

-- ---- outcomes that follow

-- the first calls gave a value, and the outcome of the next is that of all
pub outcome_by-then : {A B : Type 0} {names more : List Text} {one two : Bool} (R : Contents → Result A Refusal → Type 0) (Q T : Contents → Result B Refusal → Type 0) (x : A) (f g h : StoreShown)
    → ((file : Contents) (outcome : Result B Refusal) → R file (Ok x) → Q file outcome → T file outcome)
    → IsOutcomeBy R f g (Ok x) → Reads names one f g → Reads more two g h → (outcome : Result B Refusal) → IsOutcomeBy Q g h outcome → IsOutcomeBy T f h outcome
outcome_by-then R Q T x f g h step first reads after (Ok y) next = (
  next.0 ∙ first.0,
  held-then (λ file. R file (Ok x)) (λ file. Q file (Ok y)) (λ file. T file (Ok y)) f.files g.files h.files (λ file. step file (Ok y)) first.1 reads.keeps next.1,
)
outcome_by-then R Q T x f g h step first reads after (Err r) next =
    IsOwedTo-map (by_reading (Tells g.files h.files (HeldBefore (λ file. Q file (Err r)))) (Rose g.faults h.faults))
    (by_reading (Tells f.files h.files (HeldBefore (λ file. T file (Err r)))) (Rose f.faults h.faults))
    (λ p. p) (held-then (λ file. R file (Ok x)) (λ file. Q file (Err r)) (λ file. T file (Err r)) f.files g.files h.files (λ file. step file (Err r)) first.1 reads.keeps)
    (λ rose. rose-earlier f.faults g.faults h.faults reads.later rose after.later) (λ p. p) r next

-- a refusal of the first calls is one of all
pub outcome_by-stops : {A B : Type 0} (R : Contents → Result A Refusal → Type 0) (T : Contents → Result B Refusal → Type 0) (f g : StoreShown) (r : Refusal)
    → ((file : Contents) → R file (Err r) → T file (Err r)) → IsOutcomeBy R f g (Err r) → IsOutcomeBy T f g (Err r)
outcome_by-stops R T f g r step first =
    IsOwedTo-map (by_reading (Tells f.files g.files (HeldBefore (λ file. R file (Err r)))) (Rose f.faults g.faults))
    (by_reading (Tells f.files g.files (HeldBefore (λ file. T file (Err r)))) (Rose f.faults g.faults))
    (λ p. p) (held-map (λ file. R file (Err r)) (λ file. T file (Err r)) f.files g.files step) (λ p. p) (λ p. p) r first

-- the first calls gave a value, and the outcome of the work on it is that of all
pub outcome_by-work : {A B : Type 0} (R : Contents → Result A Refusal → Type 0) (T : Contents → Result B Refusal → Type 0) (x : A) (answer : Result B Refusal) (f g : StoreShown)
    → ((file : Contents) (outcome : Result B Refusal) → R file (Ok x) → answer ≡ outcome → T file outcome)
    → IsOutcomeBy R f g (Ok x) → (outcome : Result B Refusal) → IsWork answer outcome → IsOutcomeBy T f g outcome
outcome_by-work R T x answer f g step first (Ok y) work =
    (first.0, held-map (λ file. R file (Ok x)) (λ file. T file (Ok y)) f.files g.files (λ file is. step file (Ok y) is work) first.1)
outcome_by-work R T x answer f g step first (Err r) work =
    IsOwedTo-map (by_reading (answer ≡ Err r) ⊥) (by_reading (Tells f.files g.files (HeldBefore (λ file. T file (Err r)))) (Rose f.faults g.faults))
    (λ p. p) (λ e. held-map (λ file. R file (Ok x)) (λ file. T file (Err r)) f.files g.files (λ file is. step file (Err r) is e) first.1) (λ p. absurd p) (λ p. p) r work

-- ---- outcomes that are what the files come to

-- two steps
pub outcome_of-then : {A B : Type 0} {names more : List Text} {one two : Bool} (of : Contents → Result A Refusal) (next : A → Contents → Result B Refusal) (x : A) (f g h : StoreShown)
    → IsOutcomeOf of f g (Ok x) → Reads names one f g → Reads more two g h → (outcome : Result B Refusal) → IsOutcomeOf (next x) g h outcome
    → IsOutcomeOf (λ file. and_then (of file) (λ y. next y file)) f h outcome
outcome_of-then of next x f g h =
    outcome_by-then (λ file answer. of file ≡ answer) (λ file answer. next x file ≡ answer) (λ file answer. and_then (of file) (λ y. next y file) ≡ answer) x f g h
    (λ file outcome first e. and_then-ok (of file) (λ y. next y file) x first ∙ e)

-- the first step alone
pub outcome_of-stops : {A B : Type 0} (of : Contents → Result A Refusal) (next : A → Contents → Result B Refusal) (f g : StoreShown) (r : Refusal)
    → IsOutcomeOf of f g (Err r) → IsOutcomeOf (λ file. and_then (of file) (λ y. next y file)) f g (Err r)
outcome_of-stops of next f g r =
    outcome_by-stops (λ file answer. of file ≡ answer) (λ file answer. and_then (of file) (λ y. next y file) ≡ answer) f g r (λ file. and_then-err (of file) (λ y. next y file) r)

-- a step that reads no file
pub outcome_of-work : {A B : Type 0} (of : Contents → Result A Refusal) (next : A → Result B Refusal) (x : A) (f g : StoreShown)
    → IsOutcomeOf of f g (Ok x) → (outcome : Result B Refusal) → IsWork (next x) outcome → IsOutcomeOf (λ file. and_then (of file) next) f g outcome
outcome_of-work of next x f g =
    outcome_by-work (λ file answer. of file ≡ answer) (λ file answer. and_then (of file) next ≡ answer) x (next x) f g
    (λ file outcome first e. and_then-ok (of file) next x first ∙ e)

-- ---- work after work

-- a refusal of work for which more holds
pub owed-map : (P Q : Type 0) → (P → Q) → (r : Refusal) → IsOwedTo (by_reading P ⊥) r → IsOwedTo (by_reading Q ⊥) r
owed-map P Q step r = IsOwedTo-map (by_reading P ⊥) (by_reading Q ⊥) (λ p. p) step (λ p. p) (λ p. p) r

pub work-then : {A B : Type 0} (answer : Result A Refusal) (next : A → Result B Refusal) (x : A) → answer ≡ Ok x → (outcome : Result B Refusal) → IsWork (next x) outcome → IsWork (and_then answer next) outcome
work-then answer next x e (Ok y) h = and_then-ok answer next x e ∙ h
work-then answer next x e (Err r) h = owed-map (next x ≡ Err r) (and_then answer next ≡ Err r) (λ d. and_then-ok answer next x e ∙ d) r h

pub work-stops : {A B : Type 0} (answer : Result A Refusal) (next : A → Result B Refusal) (r : Refusal) → IsWork answer (Err r) → IsWork (and_then answer next) (Err r)
work-stops answer next r = owed-map (answer ≡ Err r) (and_then answer next ≡ Err r) (and_then-err answer next r) r
