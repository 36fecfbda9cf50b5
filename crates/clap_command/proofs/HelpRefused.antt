-- Where a walk over words passes, it doesn't stop at the subcommand `help`, which `clap` adds.
use Rattle.std.proofs.Common.{◌≡◌, ap, refl, true, false, Bool, not, ◌&&◌, ◌||◌, ℕ, List, [], ◌∷◌, codes, Option, Some, None, is_some, if◌then◌else◌}
use Rattle.std.specs.List.{fold}
use Rattle.std.specs.Option.{option_map_or}
use Rattle.std.specs.Str.{bytes_eq}
use Rattle.std.proofs.lemmas.Bool.{and_parts}
use Rattle.clap.specs.Lexer.{long_of, short_of}
use Rattle.clap.specs.Walk.{Held, Names, Outcome, Rule, Step, Text, Waiting, Walk, done, waits, idle, value, trailing, subcommand, after_flag, after_step, arg_by_index, long_or_other, plain_word, short_or_plain, subcommand_met, subcommand_or_other, to_positional, walked, walked_from, word_met}
use Rattle.clap.specs.Simple.{Shape}
use Rattle.clap.specs.Takes.{other_passes, step_passes, walk_passes, word_passes}
use Rattle.clap_command.proofs.Bools.{or_false}

-- a walk that stopped, stopped at another word than `help`
abbrev pub no_help : Option (Text × List Text) → Bool
no_help stop = option_map_or (λ p. not (bytes_eq p.0 (codes "help"))) stop true

-- the word names no subcommand
abbrev names_none : Step → Bool
names_none (subcommand name) = false
names_none step = true

plain_names_none : (c : List Rule) (waiting : Waiting) (word : Text) (h : Held) → names_none (plain_word c waiting word h).1 ≡ true
plain_names_none c idle word h = refl
plain_names_none c waiting word h = refl

flag_names_none : (c : List Rule) (waiting : Waiting) (word : Text) (h : Held) (met : Outcome) → names_none (after_flag c waiting word h met).1 ≡ true
flag_names_none c waiting word h done = refl
flag_names_none c waiting word h (waits id) = refl
flag_names_none c waiting word h met = plain_names_none c waiting word h

short_names_none : (c : List Rule) (waiting : Waiting) (word : Text) (flags : Option Text) (h : Held) → names_none (short_or_plain c waiting word flags h).1 ≡ true
short_names_none c waiting word None h = plain_names_none c waiting word h
short_names_none c waiting word (Some flags) h = flag_names_none c waiting word _ _

long_names_none : (c : List Rule) (waiting : Waiting) (word : Text) (long : Option (Text × Option Text)) (h : Held) → names_none (long_or_other c waiting word long h).1 ≡ true
long_names_none c waiting word None h = short_names_none c waiting word (short_of word) h
long_names_none c waiting word (Some p) h = flag_names_none c waiting word _ _

other_names_none : (c : List Rule) (waiting : Waiting) (position : ℕ) (word : Text) (h : Held) → names_none (subcommand_or_other c None waiting position word h).1 ≡ true
other_names_none c waiting position word h =
    elim (bytes_eq word (45 ∷ 45 ∷ [])) as (λ b. names_none (if b then (h, trailing position) else long_or_other c waiting word (long_of word) h).1 ≡ true) [
      | true ↦ refl
      | false ↦ long_names_none c waiting word (long_of word) h
    ]

at_positional : (c : List Rule) (a : Option Rule) (word : Text) (w : Walk) (h : Held) → no_help w.stopped ≡ true → no_help (to_positional c a word w h).stopped ≡ true
at_positional c None word w h e = e
at_positional c (Some a) word w h e = refl

after_other : (c : List Rule) (word : Text) (w : Walk) (h : Held) (step : Step) → names_none step ≡ true → no_help w.stopped ≡ true → no_help (after_step c word w h step).stopped ≡ true
after_other c word w h value n e = at_positional c (arg_by_index c w.position) word w h e
after_other c word w h (subcommand name) n e = cc
after_other c word w h step n e = e

after_met : (s : Shape) (met : Option Text) (word : Text) (w : Walk) → s.disable_help_subcommand ≡ false → other_passes s met word w.held ≡ true → no_help w.stopped ≡ true
    → let step = subcommand_or_other s.rules met w.waiting w.position word w.held in no_help (after_step s.rules word w step.0 step.1).stopped ≡ true
after_met s (Some name) word w d e n = or_false _ _ d e
after_met s None word w d e n = after_other s.rules word w _ _ (other_names_none s.rules w.waiting w.position word w.held) n

after_word : (s : Shape) (names : Names) (is_trailing : Bool) (word : Text) (w : Walk) → s.disable_help_subcommand ≡ false → word_passes s names is_trailing w.waiting word w.held ≡ true
    → no_help w.stopped ≡ true → let met = word_met s.rules names is_trailing w.waiting w.position word w.held in no_help (after_step s.rules word w met.0 met.1).stopped ≡ true
after_word s names true word w d e n = after_other s.rules word w w.held value refl n
after_word s names false word w d e n = after_met s (subcommand_met names w.waiting word) word w d e n

after_turn : (s : Shape) (names : Names) (stop : Option (Text × List Text)) (w : Walk) (word : Text) → s.disable_help_subcommand ≡ false
    → (let met = word_met s.rules names w.is_trailing w.waiting w.position word w.held in
    (is_some stop || (word_passes s names w.is_trailing w.waiting word w.held && step_passes s w.position met.0 met.1)) ≡ true)
    → no_help stop ≡ true → no_help w.stopped ≡ true → no_help (walked_from s.rules names stop w word).stopped ≡ true
after_turn s names (Some p) w word d e here n = here
after_turn s names None w word d e here n = after_word s names w.is_trailing word w d (and_parts _ _ e).0 n

after_words : (s : Shape) (names : Names) (w : Walk) (words : List Text) → s.disable_help_subcommand ≡ false → walk_passes s names w words ≡ true
    → no_help w.stopped ≡ true → no_help (fold (walked s.rules names) w words).stopped ≡ true
unfolding walked walk_passes
after_words s names w [] d e n = n
after_words s names w (word ∷ rest) d e n =
    let p = and_parts _ _ e in after_words s names (walked s.rules names w word) rest d p.1 (after_turn s names w.stopped w word d p.0 n n)

pub help-refused : (s : Shape) (names : Names) (w : Walk) (words : List Text) → s.disable_help_subcommand ≡ false → w.stopped ≡ None → walk_passes s names w words ≡ true
    → no_help (fold (walked s.rules names) w words).stopped ≡ true
help-refused s names w words d start e = after_words s names w words d e (ap no_help start)
