-- A text of parts: each part begins with `s`, and the last line with no `s`.
use Rattle.std.proofs.Common.{◌≡◌, ℕ, zero, suc, ◌+◌, ◌<◌, Bool, true, false, List, [], ◌∷◌, ◌++◌, length, refl, ap, sym, ◌∙◌, arith, append_assoc}
use Rattle.std.specs.Prelude.{◌==◌, nat_le, if◌then◌else◌}
use Rattle.std.specs.List.{flat_map}
use Rattle.std.proofs.lemmas.List.{append-nil}
use Rattle.isa.specs.Machine.{State}
use Rattle.log_model.specs.Logs.{Log, steps}
use Rattle.printed_names.specs.Lines.{lines_end}
use Rattle.run_output.specs.Stack.{stack_within, stack_text}
use Rattle.run_output.specs.Stacks.{stack_part, line_count, stacks_text}
use Rattle.answer_meaning.specs.PrefixFree.{ArePrefixFree}
use Rattle.answer_meaning.proofs.TextReading.{AtStart, Over, read, stop, Reads, no_front}
use Rattle.answer_meaning.proofs.TextLines.{last, stack_alone, part}

abbrev pub is_part : List ℕ → Bool
is_part [] = false
is_part (c ∷ cs) = c == 0x73

-- what is read of a text of fewer parts than this number
abbrev pub read_parts : ℕ → List ℕ → List ℕ
read_parts zero cs = []
read_parts (suc n) cs = read (if is_part cs then read_parts n else stop) AtStart cs

-- a text that is no part is the last
last_is_read : (n : ℕ) (t rest : List ℕ) → Reads AtStart t Over → is_part (t ++ rest) ≡ false → read_parts (suc n) (t ++ rest) ≡ t
last_is_read n t rest h e =
    ap (λ (b : Bool). read (if b then read_parts n else stop) AtStart (t ++ rest)) e ∙ h.whole stop rest ∙ append-nil t

-- a part, and what is read of what comes after it
part_is_read : (n : ℕ) (t rest : List ℕ) → Reads AtStart t Over → is_part (t ++ rest) ≡ true → read_parts (suc n) (t ++ rest) ≡ t ++ read_parts n rest
part_is_read n t rest h e =
    ap (λ (b : Bool). read (if b then read_parts n else stop) AtStart (t ++ rest)) e ∙ h.whole (read_parts n) rest

parts_are_read : (s : State) (log : Log) (lines n : ℕ) (ts : List ℕ) (rest : List ℕ) → length ts < n
    → read_parts n ((flat_map (stack_part s log) ts ++ lines_end lines) ++ rest) ≡ flat_map (stack_part s log) ts ++ lines_end lines
parts_are_read s log lines zero ts rest h = absurd (omega arith)
parts_are_read s log lines (suc n) [] rest h = last_is_read n (lines_end lines) rest (last lines) refl
parts_are_read s log lines (suc n) (t ∷ ts) rest h =
    let x = stack_part s log t in
    let y = flat_map (stack_part s log) ts in
    let z = lines_end lines in
    let later : length ts < n = omega arith in
    ap (read_parts (suc n)) (ap (λ (k : List ℕ). k ++ rest) (append_assoc x y z) ∙ append_assoc x (y ++ z) rest)
    ∙ part_is_read n x ((y ++ z) ++ rest) (part s log t) refl
    ∙ ap (λ (k : List ℕ). x ++ k) (parts_are_read s log lines n ts rest later)
    ∙ sym (append_assoc x y z)

alone_is_last : (inside : Bool) (s : State) (log : Log) (t : ℕ) (rest : List ℕ) → is_part (stack_within inside s log t ++ rest) ≡ false
alone_is_last true s log t rest = refl
alone_is_last false s log t rest = refl

stacks_are_read : (s : State) (log : Log) (n : ℕ) (ts : List ℕ) (rest : List ℕ) → length ts < n → read_parts n (stacks_text s log ts ++ rest) ≡ stacks_text s log ts
stacks_are_read s log n [] rest h = parts_are_read s log (line_count []) n [] rest h
stacks_are_read s log zero (t ∷ []) rest h = absurd (omega arith)
stacks_are_read s log (suc n) (t ∷ []) rest h =
    last_is_read n (stack_text s log t) rest (stack_alone s log t) (alone_is_last (nat_le t (steps log)) s log t rest)
stacks_are_read s log n (t ∷ u ∷ ts) rest h =
    let all = t ∷ u ∷ ts in
    parts_are_read s log (line_count (flat_map (stack_part s log) all)) n all rest h

pub stacks : ArePrefixFree (λ (x : State × Log × List ℕ). stacks_text x.0 x.1 x.2)
stacks a other n below e =
    let k = length a.2 + length other.2 + 1 in
    no_front (read_parts k) (stacks_text a.0 a.1 a.2) (stacks_text other.0 other.1 other.2) n
    (λ rest. stacks_are_read a.0 a.1 k a.2 rest (omega arith)) (λ rest. stacks_are_read other.0 other.1 k other.2 rest (omega arith)) below e
