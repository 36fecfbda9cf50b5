-- What is told of what is heard piece by piece.
use Rattle.std.proofs.Common.{◌≡◌, ℕ, Bool, true, false, if◌then◌else◌, ◌||◌, List, [], ◌∷◌, ◌++◌, refl, ap, sym, ◌∙◌}
use Rattle.std.specs.List.{list_any}
use Rattle.std.proofs.lemmas.Bool.{true≢false, or_parts}
use Rattle.std.proofs.lemmas.List.{append_assoc, append-nil}
use Rattle.replayer.specs.Jobs.{Job}
use Rattle.remote_frames.specs.Frames.{Heard, heard}
use Rattle.remote_frames.specs.FrameLaws.{BeginningIsHeard}
use Rattle.debug_model.specs.Sessions.{SessionAt}
use Rattle.debug_model.specs.Dialogues.{told, next, told_all, next_all, is_end, up_to_end, begun_at}
use Rattle.debug_model.specs.DialogueLaws.{BeginningIsBeginning, NothingIsBehindTheEnd}

pub told_all-append : (job : Job) (s : SessionAt) (xs ys : List Heard)
    → told_all job s (xs ++ ys) ≡ told_all job s xs ++ told_all job (next_all job s xs) ys
told_all-append job s [] ys = refl
told_all-append job s (x ∷ xs) ys =
    ap (λ (bytes : List ℕ). told job s x ++ bytes) (told_all-append job (next job s x) xs ys)
    ∙ sym (append_assoc (told job s x) (told_all job (next job s x) xs) (told_all job (next_all job (next job s x) xs) ys))

pub next_all-append : (job : Job) (s : SessionAt) (xs ys : List Heard)
    → next_all job s (xs ++ ys) ≡ next_all job (next_all job s xs) ys
next_all-append job s [] ys = refl
next_all-append job s (x ∷ xs) ys = next_all-append job (next job s x) xs ys

-- where nothing ends the session, all that is heard counts, and then what follows
pub up_to_end-append : (xs ys : List Heard) → list_any is_end xs ≡ false → up_to_end (xs ++ ys) ≡ xs ++ up_to_end ys
up_to_end-append [] ys e = refl
up_to_end-append (x ∷ xs) ys e =
    let no = or_parts (is_end x) (list_any is_end xs) e in
    rw no.0 (ap (λ (hs : List Heard). x ∷ hs) (up_to_end-append xs ys no.1))

pub up_to_end-whole : (xs : List Heard) → list_any is_end xs ≡ false → up_to_end xs ≡ xs
up_to_end-whole xs e = ap up_to_end (sym (append-nil xs)) ∙ up_to_end-append xs [] e ∙ append-nil xs

-- where something does, nothing that follows counts
pub up_to_end-ended : (xs ys : List Heard) → list_any is_end xs ≡ true → up_to_end (xs ++ ys) ≡ up_to_end xs
up_to_end-ended [] ys e = absurd (true≢false (sym e))
up_to_end-ended (x ∷ xs) ys e = by (up_to_end-ended xs ys) (is_end x) refl where
  by : (list_any is_end xs ≡ true → up_to_end (xs ++ ys) ≡ up_to_end xs) → (b : Bool) → is_end x ≡ b
      → x ∷ (if b then [] else up_to_end (xs ++ ys)) ≡ x ∷ (if b then [] else up_to_end xs)
  by rest true here = refl
  by rest false here =
      let later : list_any is_end xs ≡ true = sym (ap (λ (b : Bool). b || list_any is_end xs) here) ∙ e in
      ap (λ (hs : List Heard). x ∷ hs) (rest later)

-- what counts of a beginning is the beginning of what counts
pub up_to_end-grows : (xs ys : List Heard) → (zs : List Heard) × (up_to_end (xs ++ ys) ≡ up_to_end xs ++ zs)
up_to_end-grows xs ys = by (list_any is_end xs) refl where
  by : (b : Bool) → list_any is_end xs ≡ b → (zs : List Heard) × (up_to_end (xs ++ ys) ≡ up_to_end xs ++ zs)
  by true e = ([], up_to_end-ended xs ys e ∙ sym (append-nil (up_to_end xs)))
  by false e = (
    up_to_end ys,
    up_to_end-append xs ys e ∙ ap (λ (hs : List Heard). hs ++ up_to_end ys) (sym (up_to_end-whole xs e)),
  )

pub beginning_is_beginning : BeginningIsHeard → BeginningIsBeginning
beginning_is_beginning hears job t bytes after =
    let more = hears bytes after in
    let grows = up_to_end-grows (heard bytes) more.0 in
    let s = begun_at job t in (
      told_all job (next_all job s (up_to_end (heard bytes))) grows.0,
      ap (λ (hs : List Heard). told_all job s (up_to_end hs)) more.1
          ∙ ap (told_all job s) grows.1
          ∙ told_all-append job s (up_to_end (heard bytes)) grows.0,
    )

pub nothing_is_behind_the_end : BeginningIsHeard → NothingIsBehindTheEnd
nothing_is_behind_the_end hears job t bytes after ended =
    let more = hears bytes after in
    ap (λ (hs : List Heard). told_all job (begun_at job t) (up_to_end hs)) more.1
    ∙ ap (told_all job (begun_at job t)) (up_to_end-ended (heard bytes) more.0 ended)
