-- Words that a command without subcommands takes. Crates above cite these lemmas.
use Rattle.std.proofs.Common.{◌≡◌, ap, refl, subst, map, true, false, Bool, List, [], ◌∷◌, Option, Some, None, is_some}
use Rattle.std.specs.List.{list_all}
use Rattle.std.proofs.lemmas.Bool.{and_parts, and_from}
use Rattle.clap.specs.Words.{App, Shape, Text, takes}
use Rattle.clap.specs.Walk.{Held, nothing_held, walk}
use Rattle.clap.specs.Simple.{argument_words, built, entered, is_simple, label_of, names_of}
use Rattle.clap.specs.Faults.{is_simple_and_free}
use Rattle.clap.specs.Takes.{built_takes, entered_passes, level_passes}
use Rattle.clap_command.specs.Plain.{are_none, is_plain_command, is_single_command, is_sound, is_sound_command}

pub sound_of_plain : (a : App) → is_plain_command a ≡ true → is_sound_command a ≡ true
sound_of_plain a plain =
    let p = and_parts (is_simple_and_free a) _ plain in
    let q = and_parts (is_sound (built a).top) _ p.1 in
    let r = and_parts (list_all is_sound (built a).subs) _ q.1 in
    and_from _ _ p.0 (and_from _ _ q.0 r.0)

no_subs : (subs : List Shape) → are_none subs ≡ true → subs ≡ []
no_subs [] e = refl
no_subs (s ∷ subs) e = cc

none_entered : (top : Shape) (stop : Option (Text × List Text)) → is_some (entered (record { top = top; subs = [] }) stop) ≡ false
none_entered top None = refl
none_entered top (Some p) = refl

passes_alone : (top : Shape) (h : Held) (words : List Text) → built_takes (record { top = top; subs = [] }) h words ≡ true → level_passes top [] h words false ≡ true
passes_alone top h words e =
    let stop = (walk top.rules [] h words).stopped in
    subst (λ (has : Bool). level_passes top [] h words has ≡ true) (none_entered top stop)
    (and_parts (entered_passes (record { top = top; subs = [] }) stop) _ e).1

-- the words pass its arguments
pub level_of_single : (a : App) (words : List Text) → is_single_command a ≡ true → takes a words ≡ true
    → (names_of (built a) ≡ []) × (level_passes (built a).top [] nothing_held (argument_words a words) false ≡ true)
level_of_single a words single e =
    let b = built a in
    let none = no_subs b.subs (and_parts (is_sound_command a) _ single).1 in
    let given = argument_words a words in
    let p : built_takes (record { top = b.top; subs = b.subs }) nothing_held given ≡ true = (and_parts (is_simple a) _ e).1 in (
      ap (λ (subs : List Shape). map label_of subs) none,
      passes_alone b.top nothing_held given (subst (λ (subs : List Shape). built_takes (record { top = b.top; subs = subs }) nothing_held given ≡ true) none p),
    )
