-- The subcommand of words that a command takes: there is one, and it takes the words after its name.
-- Crates above cite these lemmas.
use Rattle.std.proofs.Common.{◌≡◌, sym, subst, refl, true, false, Bool, not, ◌||◌, List, [], ◌∷◌, codes, Option, Some, None, is_some, IsSomeAnd, option_map, if◌then◌else◌}
use Rattle.std.specs.List.{find, list_all}
use Rattle.std.specs.Option.{option_map_or}
use Rattle.std.specs.Str.{bytes_eq}
use Rattle.std.proofs.lemmas.Slice.Eq.{bytes_eq-Decides}
use Rattle.std.proofs.lemmas.Bool.{and_parts, not-true}
use Rattle.clap.specs.Words.{Row, Text, takes, subcommand_of}
use Rattle.clap.specs.Walk.{Names, Held, answers_to, finished, nothing_held, walk, walk_from}
use Rattle.clap.specs.Simple.{App, Shape, argument_words, built, built_leaf, entered, help_shape, is_simple, label_of, names_of, rows_at}
use Rattle.clap.specs.Faults.{is_simple_and_free}
use Rattle.clap.specs.Takes.{default_passes, entered_passes, is_valid, level_passes, settle_passes, walk_passes}
use Rattle.clap_command.specs.Plain.{is_plain_command, is_sound}
use Rattle.clap_command.proofs.Bools.{or_false}
use Rattle.clap_command.proofs.HelpRefused.{no_help, help-refused}

-- what the subcommand leaves of any words that it takes: its name and the rows of its arguments
abbrev pub AtTaken : (Text × List Row → Type 0) → Shape → Type 0
AtTaken Q s = (words : List Text) → level_passes s [] nothing_held words false ≡ true → Q (rows_at s words)

-- the same of each subcommand that another word than `help` names
abbrev pub AtEach : (Text × List Row → Type 0) → List Shape → Type 0
AtEach Q [] = Unit {0}
AtEach Q (s ∷ subs) =
    ((word : Text) → answers_to word (label_of s) ≡ true → not (bytes_eq word (codes "help")) ≡ true → AtTaken Q s) × AtEach Q subs

is_help : (word : Text) → bytes_eq (codes "help") word ≡ true → not (bytes_eq word (codes "help")) ≡ true → ⊥
is_help word e n =
    let same : codes "help" ≡ word = (bytes_eq-Decides _ _).0 e in
    let bad : false ≡ true = subst (λ w. not (bytes_eq w (codes "help")) ≡ true) (sym same) n in cc

-- no other word names the subcommand `help`, which `clap` adds
pub help-not_named : (Q : Text × List Row → Type 0) (word : Text) → answers_to word (label_of (built_leaf help_shape)) ≡ true
    → not (bytes_eq word (codes "help")) ≡ true → AtTaken Q (built_leaf help_shape)
help-not_named Q word named other = absurd (is_help word (or_false _ false refl named) other)

module _ (Q : Text × List Row → Type 0) where
  found : (word : Text) (words : List Text) (subs : List Shape) → not (bytes_eq word (codes "help")) ≡ true → AtEach Q subs
      → option_map_or (λ s. level_passes s [] nothing_held words false) (find (λ s. answers_to word (label_of s)) subs) true ≡ true
      → is_some (option_map (λ s. rows_at s words) (find (λ s. answers_to word (label_of s)) subs)) ≡ true
      → IsSomeAnd (option_map (λ s. rows_at s words) (find (λ s. answers_to word (label_of s)) subs)) Q
  found word words [] other each passes there = cc
  found word words (s ∷ subs) other each passes there =
      let at : Bool → Option Shape = λ b. if b then Some s else find (λ t. answers_to word (label_of t)) subs in
      (elim (answers_to word (label_of s)) as (λ b. answers_to word (label_of s) ≡ b
      → option_map_or (λ t. level_passes t [] nothing_held words false) (at b) true ≡ true
      → is_some (option_map (λ t. rows_at t words) (at b)) ≡ true → IsSomeAnd (option_map (λ t. rows_at t words) (at b)) Q) [
        | true ↦ λ named p q. each.0 word named other words p
        | false ↦ λ named p q. found word words subs other each.1 p q
      ]) refl passes there

  entered_at : (a : App) (stop : Option (Text × List Text)) → no_help stop ≡ true → AtEach Q a.subs → entered_passes a stop ≡ true
      → is_some (entered a stop) ≡ true → IsSomeAnd (entered a stop) Q
  entered_at a None other each passes there = cc
  entered_at a (Some p) other each passes there = found p.0 p.1 a.subs other each passes there

-- a level that passes has its subcommand, where one has to be there
has_subcommand : (s : Shape) (names : Names) (h : Held) (words : List Text) (has : Bool) → s.subcommand_required ≡ true
    → level_passes s names h words has ≡ true → has ≡ true
has_subcommand s names h words has required e =
    let end = (walk s.rules names h words).held in
    let valid : is_valid s (finished s.rules end) has ≡ true = (and_parts (list_all default_passes s.rules) _ (and_parts (settle_passes s.rules s.args_override_self end) _ (and_parts (walk_passes s names (walk_from h) words) _ e).1).1).1 in
    let there : (not s.subcommand_required || has) ≡ true = (and_parts _ _ (and_parts _ _ valid).1).0 in
    subst (λ b. (not b || has) ≡ true) required there

-- what holds of each subcommand holds of the one that the words name, where they are taken
pub at_subcommand : (Q : Text × List Row → Type 0) (a : App) (words : List Text) → is_plain_command a ≡ true → AtEach Q (built a).subs
    → takes a words ≡ true → IsSomeAnd (subcommand_of a words) Q
at_subcommand Q a words plain each e =
    let b = built a in
    let given = argument_words a words in
    let stop = (walk b.top.rules (names_of b) nothing_held given).stopped in
    let p = and_parts (entered_passes b stop) _ (and_parts (is_simple a) _ e).1 in
    let q = and_parts (list_all is_sound b.subs) _ (and_parts (is_sound b.top) _ (and_parts (is_simple_and_free a) _ plain).1).1 in
    let r = and_parts b.top.subcommand_required _ q.1 in
    let walks : walk_passes b.top (names_of b) (walk_from nothing_held) given ≡ true = (and_parts _ _ p.1).0 in
    entered_at Q b stop (help-refused b.top (names_of b) (walk_from nothing_held) given (not-true _ r.1) refl walks) each p.0
    (has_subcommand b.top (names_of b) nothing_held given _ r.0 p.1)
