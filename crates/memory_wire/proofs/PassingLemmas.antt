-- One more step, and what is told of all of them.
use Rattle.std.proofs.Common.{◌≡◌, ◌≤◌, ◌<◌, ◌∙◌, ap, ap₂, sym, refl, arith, ℕ, ◌+◌, ◌-◌, List, [], ◌∷◌, ◌++◌, length, take, drop, map, length-drop, take-append-drop}
use Rattle.std.proofs.lemmas.List.{take-append-le, drop-append-le, drop-drop, length-take-le}
use Rattle.std.proofs.Math.Seq.{take-length}
use Rattle.outer_io.specs.Buffered.{Buffered, after_push}
use Rattle.outer_wire.specs.Wires.{Passed, Came, Went, went, received, sent}
use Rattle.outer_wire.proofs.History.{received-some}
use Rattle.memory_wire.specs.declared.step.Step.{Step}
use Rattle.memory_wire.specs.declared.step.Step.TheVariants.{Received, Sent}
use Rattle.memory_wire.specs.Passing.{PassingAt, passed_in, step_of}
use Rattle.memory_wire.specs.PassingRoom.{count_came, count_went}

-- ---- one more step

pub passed-received : (coming gone : List ℕ) (steps : List Step) (n : ℕ)
    → passed_in coming gone (steps ++ Received n ∷ []) ≡ passed_in coming gone steps ++ Came (take n (drop (count_came steps) coming)) ∷ []
passed-received coming gone [] n = refl
passed-received coming gone (Received m ∷ steps) n =
    ap (λ (more : List Passed). Came (take m coming) ∷ more)
    (passed-received (drop m coming) gone steps n
    ∙ ap (λ (rest : List ℕ). passed_in (drop m coming) gone steps ++ Came (take n rest) ∷ []) (drop-drop (count_came steps) m coming))
passed-received coming gone (Sent m ∷ steps) n =
    ap (λ (more : List Passed). Went (take m gone) ∷ more) (passed-received coming (drop m gone) steps n)

pub passed-sent : (coming gone piece : List ℕ) (steps : List Step) → count_went steps ≡ length gone
    → passed_in coming (gone ++ piece) (steps ++ Sent (length piece) ∷ []) ≡ passed_in coming gone steps ++ Went piece ∷ []
passed-sent coming [] piece [] whole = ap (λ (bytes : List ℕ). Went bytes ∷ []) (take-length piece)
passed-sent coming (b ∷ gone) piece [] whole = absurd (omega (arith, whole))
passed-sent coming gone piece (Received m ∷ steps) whole =
    ap (λ (more : List Passed). Came (take m coming) ∷ more) (passed-sent (drop m coming) gone piece steps whole)
passed-sent coming gone piece (Sent m ∷ steps) whole =
    let within : m ≤ length gone = omega (arith, whole) in
    let rest : count_went steps ≡ length (drop m gone) = omega (arith, whole, length-drop m gone) in
    rw (take-append-le m gone piece within, drop-append-le m gone piece within)
    (ap (λ (more : List Passed). Went (take m gone) ∷ more) (passed-sent coming (drop m gone) piece steps rest))

pub came-received : (steps : List Step) (n : ℕ) → count_came (steps ++ Received n ∷ []) ≡ count_came steps + n
came-received [] n = omega arith
came-received (Received m ∷ steps) n = omega (arith, came-received steps n)
came-received (Sent m ∷ steps) n = came-received steps n

pub came-sent : (steps : List Step) (n : ℕ) → count_came (steps ++ Sent n ∷ []) ≡ count_came steps
came-sent [] n = refl
came-sent (Received m ∷ steps) n = omega (arith, came-sent steps n)
came-sent (Sent m ∷ steps) n = came-sent steps n

pub went-received : (steps : List Step) (n : ℕ) → count_went (steps ++ Received n ∷ []) ≡ count_went steps
went-received [] n = refl
went-received (Received m ∷ steps) n = went-received steps n
went-received (Sent m ∷ steps) n = omega (arith, went-received steps n)

pub went-sent : (steps : List Step) (n : ℕ) → count_went (steps ++ Sent n ∷ []) ≡ count_went steps + n
went-sent [] n = omega arith
went-sent (Received m ∷ steps) n = went-sent steps n
went-sent (Sent m ∷ steps) n = omega (arith, went-sent steps n)

-- ---- as it is seen

abbrev seen : List ℕ → Buffered → List Step → ℕ → ℕ → PassingAt
seen bytes gone steps came left = record { coming = drop came bytes; history = passed_in bytes gone.bytes steps; room = gone.room; calls_left = left }

pub seen-received : (bytes : List ℕ) (gone : Buffered) (steps steps_after : List Step) (came left room n : ℕ)
    → count_came steps ≡ came → 0 < room → steps_after ≡ steps ++ Received n ∷ []
    → seen bytes gone steps_after (came + n) left
    ≡ record { coming = drop n (drop came bytes); history = passed_in bytes gone.bytes steps ++ received room (take n (drop came bytes)); room = gone.room; calls_left = left }
seen-received bytes gone steps steps_after came left room n here some is =
    let before : List Passed = passed_in bytes gone.bytes steps in
    let history : passed_in bytes gone.bytes steps_after ≡ before ++ received room (take n (drop came bytes)) =
    ap (λ (s : List Step). passed_in bytes gone.bytes s) is ∙ passed-received bytes gone.bytes steps n
    ∙ ap (λ (k : ℕ). before ++ Came (take n (drop k bytes)) ∷ []) here
    ∙ ap (λ (more : List Passed). before ++ more) (sym (received-some room (take n (drop came bytes)) some)) in
    ap₂ (λ (c : List ℕ) (h : List Passed). record { coming = c; history = h; room = gone.room; calls_left = left }) (sym (drop-drop n came bytes)) history

sent-some : (piece : List ℕ) → 0 < length piece → sent piece ≡ Went piece ∷ []
sent-some [] some = absurd (omega (arith, some))
sent-some (b ∷ piece) some = refl

pub seen-sent : (bytes : List ℕ) (gone gone_after : Buffered) (steps steps_after : List Step) (came left : ℕ) (piece : List ℕ)
    → count_went steps ≡ length gone.bytes → 0 < length piece → gone_after ≡ after_push piece gone → steps_after ≡ steps ++ Sent (length piece) ∷ []
    → seen bytes gone_after steps_after came left
    ≡ record { coming = drop came bytes; history = passed_in bytes gone.bytes steps ++ sent piece; room = gone.room - length piece; calls_left = left }
seen-sent bytes gone gone_after steps steps_after came left piece whole some pushed is =
    let before : List Passed = passed_in bytes gone.bytes steps in
    let history : passed_in bytes gone_after.bytes steps_after ≡ before ++ sent piece =
    ap₂ (λ (g : List ℕ) (s : List Step). passed_in bytes g s) (ap (λ (b : Buffered). b.bytes) pushed) is
    ∙ passed-sent bytes gone.bytes piece steps whole
    ∙ ap (λ (more : List Passed). before ++ more) (sym (sent-some piece some)) in
    ap₂ (λ (h : List Passed) (r : ℕ). record { coming = drop came bytes; history = h; room = r; calls_left = left }) history (ap (λ (b : Buffered). b.room) pushed)

-- ---- all of them

pub gone-passed : (coming gone : List ℕ) (steps : List Step) → count_went steps ≡ length gone → went (passed_in coming gone steps) ≡ gone
gone-passed coming [] [] whole = refl
gone-passed coming (b ∷ gone) [] whole = absurd (omega (arith, whole))
gone-passed coming gone (Received m ∷ steps) whole = gone-passed (drop m coming) gone steps whole
gone-passed coming gone (Sent m ∷ steps) whole =
    let rest : count_went steps ≡ length (drop m gone) = omega (arith, whole, length-drop m gone) in
    ap (λ (more : List ℕ). take m gone ++ more) (gone-passed coming (drop m gone) steps rest) ∙ take-append-drop m gone

pub steps-passed : (coming gone : List ℕ) (steps : List Step) → count_came steps ≤ length coming → count_went steps ≡ length gone
    → map step_of (passed_in coming gone steps) ≡ steps
steps-passed coming gone [] came whole = refl
steps-passed coming gone (Received m ∷ steps) came whole =
    let within : m ≤ length coming = omega (arith, came) in
    let rest : count_came steps ≤ length (drop m coming) = omega (arith, came, length-drop m coming) in
    ap₂ (λ (n : ℕ) (more : List Step). Received n ∷ more) (length-take-le m coming within) (steps-passed (drop m coming) gone steps rest whole)
steps-passed coming gone (Sent m ∷ steps) came whole =
    let within : m ≤ length gone = omega (arith, whole) in
    let rest : count_went steps ≡ length (drop m gone) = omega (arith, whole, length-drop m gone) in
    ap₂ (λ (n : ℕ) (more : List Step). Sent n ∷ more) (length-take-le m gone within) (steps-passed coming (drop m gone) steps came rest)
