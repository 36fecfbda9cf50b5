-- Words that have no fault are taken. `clap` says apart which words a command takes (`takes`) and by which faults it
-- refuses words (`fault_of`); the two definitions are walked side by side here, each lemma for one pair of their parts.
use Rattle.std.proofs.Common.{◌≡◌, refl, true, false, Bool, not, ◌&&◌, ◌||◌, ℕ, zero, suc, length, drop, List, [], ◌∷◌, codes, Option, Some, None, is_some, if◌then◌else◌, nat_le, arith, encode_utf8, slice_get}
use Rattle.std.specs.List.{list_all, list_any, find}
use Rattle.std.specs.Option.{option_map_or}
use Rattle.std.specs.Str.{bytes_eq, chars}
use Rattle.std.proofs.lemmas.Bool.Decides.{nat_tests}
use Rattle.std.proofs.lemmas.Bool.{and_from, and_parts, or_parts}
use Rattle.clap.specs.declared.error.ErrorKind.{ErrorKind}
use Rattle.clap.specs.declared.builder.ArgAction.{ArgAction}
use Rattle.clap.specs.declared.builder.ArgAction.TheVariants.{Set, Append, SetTrue, SetFalse, Count}
use Rattle.clap.specs.Lexer.{long_of, short_of}
use Rattle.clap.specs.Facts.{parser_of_value, unwrap_or_range}
use Rattle.clap.specs.Walk.{Held, Names, Row, Rule, Step, Text, Waiting, Walk, value, action_of, arg_by_id, arg_by_index, arg_by_long, arg_by_short, attached_value, most_values, reacted, settled, takes_values, values_or_missing, walked, word_met, subcommand_met, walk, walk_from, finished, nothing_held, answers_to}
use Rattle.clap.specs.Simple.{App, Shape, built, argument_words, is_simple, label_of, names_of}
use Rattle.clap.specs.Takes.{value_passes, values_pass, count_passes, set_passes, action_passes, use_passes, settle_passes, react_passes, option_passes, long_passes, short_passes, bundle_step_passes, flags_pass, bundle_passes, flag_word_passes, other_passes, word_passes, positional_passes, step_passes, turn_passes, walk_passes, is_given, level_passes, entered_passes, built_takes, takes}
use Rattle.clap.specs.Kinds.{Kinds, or_else, range_kinds, value_kinds, check_kinds}
use Rattle.clap.specs.Faults.{values_fault, count_fault, set_fault, action_fault, use_fault, settle_fault, react_fault, option_fault, long_fault, short_fault, bundle_step_fault, flags_fault, bundle_fault, flag_word_fault, other_fault, word_fault, positional_fault, stray_fault, step_fault, turn_fault, walk_fault, level_fault, entered_fault, built_fault, fault_of, is_simple_and_free}
use Rattle.clap_command.specs.Plain.{is_sound, is_sound_command}

both_nil : (a b : Kinds) → or_else a b ≡ [] → (a ≡ []) × (b ≡ [])
both_nil [] b e = (refl, e)
both_nil (k ∷ ks) b e = cc

at_some : {T : Type 0} (o : Option T) (f : T → Kinds) (g : T → Bool) → ((x : T) → f x ≡ [] → g x ≡ true) → option_map_or f o [] ≡ [] → option_map_or g o true ≡ true
at_some None f g h e = refl
at_some (Some x) f g h e = h x e

nil_if : (b : Bool) (k : ErrorKind) → (if b then [] else k ∷ []) ≡ [] → b ≡ true
nil_if true k e = refl
nil_if false k e = cc

choose : (b : Bool) (x y : Kinds) (p q : Bool) → (x ≡ [] → p ≡ true) → (y ≡ [] → q ≡ true) → (if b then x else y) ≡ [] → (if b then p else q) ≡ true
choose true x y p q f g e = f e
choose false x y p q f g e = g e

unneeded : (b : Bool) (k : ErrorKind) (x : Kinds) (p : Bool) → (x ≡ [] → p ≡ true) → (if b then k ∷ [] else x) ≡ [] → (not b && p) ≡ true
unneeded true k x p f e = cc
unneeded false k x p f e = f e

or_rest : (b : Bool) (x : Kinds) (p : Bool) → (x ≡ [] → p ≡ true) → (if b then [] else x) ≡ [] → (b || p) ≡ true
or_rest true x p f e = refl
or_rest false x p f e = f e

neither : (a b : Bool) (k : ErrorKind) (ks : Kinds) → (if a && not b then k ∷ ks else []) ≡ [] → (not a || b) ≡ true
neither true false k ks e = cc
neither a b k ks e = refl

value_ok : (a : Rule) (v : Text) → value_kinds a.ignore_case (parser_of_value a.parser) v ≡ [] → value_passes a v ≡ true
value_ok a v e = nil_if _ _ e

values_ok : (a : Rule) (vs : List Text) → values_fault a vs ≡ [] → values_pass a vs ≡ true
values_ok a [] e = refl
values_ok a (v ∷ vs) e = let p = both_nil _ _ e in and_from _ _ (value_ok a v p.0) (values_ok a vs p.1)

count_ok : (a : Rule) (vs : List Text) (rows : List Row) → count_fault a vs rows ≡ [] → count_passes a vs rows ≡ true
count_ok a [] rows e = value_ok a _ e
count_ok a (v ∷ vs) rows e = values_ok a (v ∷ vs) e

set_ok : (again : Bool) (a : Rule) (vs : List Text) (rows : List Row) → set_fault again a vs rows ≡ [] → set_passes again a vs rows ≡ true
set_ok again a vs rows e = let p = both_nil _ _ e in and_from _ _ (neither _ again _ [] p.0) (values_ok a vs p.1)

action_ok : (x : ArgAction) (again : Bool) (a : Rule) (vs : List Text) (rows : List Row) → action_fault x again a vs rows ≡ [] → action_passes x again a vs rows ≡ true
action_ok Set again a vs rows e = set_ok again a vs rows e
action_ok SetTrue again a vs rows e = set_ok again a vs rows e
action_ok SetFalse again a vs rows e = set_ok again a vs rows e
action_ok Append again a vs rows e = values_ok a vs e
action_ok Count again a vs rows e = count_ok a vs rows e
action_ok x again a vs rows e = cc

range_ok : (least most n : ℕ) → range_kinds least most n ≡ [] → (nat_le least n ≡ true) × (nat_le n most ≡ true)
range_ok least most n e = (grind (arith, nat_tests), grind (arith, nat_tests))

use_ok : (again : Bool) (a : Rule) (vs : List Text) (rows : List Row) → use_fault again a vs rows ≡ [] → use_passes again a vs rows ≡ true
use_ok again a vs rows e =
    let p = both_nil _ _ e in
    let r = range_ok (unwrap_or_range a.range).start_inclusive (most_values a) (length vs) p.0 in
    and_from _ _ r.0 (and_from _ _ r.1 (action_ok (action_of a) again a (values_or_missing a vs) rows p.1))

settle_ok : (c : List Rule) (again : Bool) (h : Held) → settle_fault c again h ≡ [] → settle_passes c again h ≡ true
settle_ok c again h e = at_some h.pending _ _ (λ p q. at_some (arg_by_id c p.0) _ _ (λ a r. use_ok again a p.1 h.rows r) q) e

react_ok : (c : List Rule) (again : Bool) (a : Rule) (vs : List Text) (h : Held) → react_fault c again a vs h ≡ [] → react_passes c again a vs h ≡ true
react_ok c again a vs h e = let p = both_nil _ _ e in and_from _ _ (settle_ok c again h p.0) (use_ok again a vs (settled c h).rows p.1)

option_ok : (c : List Rule) (again : Bool) (a : Rule) (v : Option Text) (h : Held) → option_fault c again a v h ≡ [] → option_passes c again a v h ≡ true
option_ok c again a (Some v) h e = react_ok c again a (v ∷ []) h e
option_ok c again a None h e = settle_ok c again h e

long_ok : (c : List Rule) (again : Bool) (a : Option Rule) (v : Option Text) (h : Held) → long_fault c again a v h ≡ [] → long_passes c again a v h ≡ true
long_ok c again None v h e = cc
long_ok c again (Some a) v h e = choose (takes_values a) _ _ _ _ (option_ok c again a v h) (unneeded (is_some v) _ _ _ (react_ok c again a [] h)) e

short_ok : (c : List Rule) (again : Bool) (a : Option Rule) (rest : Text) (h : Held) (nf : Held → Kinds) (np : Held → Bool)
    → ((g : Held) → nf g ≡ [] → np g ≡ true) → short_fault c again a rest h nf ≡ [] → short_passes c again a rest h np ≡ true
short_ok c again None rest h nf np f e = cc
short_ok c again (Some a) rest h nf np f e = choose (takes_values a) _ _ _ _ (option_ok c again a (attached_value rest) h)
    (λ q. let p = both_nil _ _ q in and_from _ _ (react_ok c again a [] h p.0) (f (reacted c a [] h) p.1)) e

bundle_step_ok : (c : List Rule) (again : Bool) (x : Option ℕ) (flags : Text) (skip : ℕ) (h : Held) (nf : Text → ℕ → Held → Kinds) (np : Text → ℕ → Held → Bool)
    → ((t : Text) (k : ℕ) (g : Held) → nf t k g ≡ [] → np t k g ≡ true) → bundle_step_fault c again x flags skip h nf ≡ [] → bundle_step_passes c again x flags skip h np ≡ true
bundle_step_ok c again None flags skip h nf np f e = refl
bundle_step_ok c again (Some x) flags zero h nf np f e =
    let rest : Text = drop (length (encode_utf8 x)) flags in short_ok c again (arg_by_short c x) rest h (nf rest 0) (np rest 0) (f rest 0) e
bundle_step_ok c again (Some x) flags (suc skip) h nf np f e = f _ _ _ e

flags_ok : (c : List Rule) (again : Bool) (k : ℕ) (flags : Text) (skip : ℕ) (h : Held) → flags_fault c again k flags skip h ≡ [] → flags_pass c again k flags skip h ≡ true
unfolding flags_fault flags_pass
flags_ok c again zero flags skip h e = refl
flags_ok c again (suc k) flags skip h e =
    bundle_step_ok c again (slice_get (chars flags) 0) flags skip h (flags_fault c again k) (flags_pass c again k) (flags_ok c again k) e

bundle_ok : (c : List Rule) (again : Bool) (flags : Text) (h : Held) → bundle_fault c again flags h ≡ [] → bundle_passes c again flags h ≡ true
bundle_ok c again flags h e = flags_ok c again _ _ _ _ e

flag_word_ok : (c : List Rule) (again : Bool) (p : Option (Text × Option Text)) (word : Text) (h : Held) → flag_word_fault c again p word h ≡ [] → flag_word_passes c again p word h ≡ true
flag_word_ok c again (Some p) word h e = long_ok c again (arg_by_long c p.0) p.1 h e
flag_word_ok c again None word h e = at_some (short_of word) _ _ (λ flags q. bundle_ok c again flags h q) e

other_ok : (s : Shape) (met : Option Text) (word : Text) (h : Held) → other_fault s met word h ≡ [] → other_passes s met word h ≡ true
other_ok s (Some name) word h e = neither (bytes_eq name (codes "help")) s.disable_help_subcommand _ _ e
other_ok s None word h e = or_rest _ _ _ (flag_word_ok s.rules s.args_override_self (long_of word) word h) e

word_ok : (s : Shape) (names : Names) (is_trailing : Bool) (waiting : Waiting) (word : Text) (h : Held) → word_fault s names is_trailing waiting word h ≡ [] → word_passes s names is_trailing waiting word h ≡ true
word_ok s names is_trailing waiting word h e = or_rest is_trailing _ _ (other_ok s (subcommand_met names waiting word) word h) e

positional_ok : (c : List Rule) (again : Bool) (a : Rule) (h : Held) → positional_fault c again a h ≡ [] → positional_passes c again a h ≡ true
positional_ok c again a h e = or_rest _ _ _ (settle_ok c again h) e

stray : (b : Bool) (x y z : ErrorKind) → (if b then x ∷ [] else y ∷ z ∷ []) ≡ [] → ⊥
stray true x y z e = cc
stray false x y z e = cc

at_arg : (s : Shape) (h : Held) (o : Option Rule) → option_map_or (λ a. positional_fault s.rules s.args_override_self a h) o (stray_fault s) ≡ []
    → option_map_or (λ a. positional_passes s.rules s.args_override_self a h) o false ≡ true
at_arg s h None e = absurd (stray _ _ _ _ e)
at_arg s h (Some a) e = positional_ok s.rules s.args_override_self a h e

step_ok : (s : Shape) (position : ℕ) (h : Held) (step : Step) → step_fault s position h step ≡ [] → step_passes s position h step ≡ true
step_ok s position h value e = at_arg s h (arg_by_index s.rules position) e
step_ok s position h step e = refl

turn_ok : (s : Shape) (names : Names) (w : Walk) (word : Text) → turn_fault s names w word ≡ [] → turn_passes s names w word ≡ true
turn_ok s names w word e =
    let met = word_met s.rules names w.is_trailing w.waiting w.position word w.held in
    or_rest (is_some w.stopped) _ _ (λ q. let p = both_nil _ _ q in
    and_from _ _ (word_ok s names w.is_trailing w.waiting word w.held p.0) (step_ok s w.position met.0 met.1 p.1)) e

walk_ok : (s : Shape) (names : Names) (w : Walk) (words : List Text) → walk_fault s names w words ≡ [] → walk_passes s names w words ≡ true
unfolding walk_fault walk_passes
walk_ok s names w [] e = refl
walk_ok s names w (word ∷ rest) e = let p = both_nil _ _ e in and_from _ _ (turn_ok s names w word p.0) (walk_ok s names (walked s.rules names w word) rest p.1)

-- ---- after the walk

none_of : (x y z : Bool) → check_kinds x y z ≡ [] → (x ≡ false) × (y ≡ false) × (z ≡ false)
none_of false false false e = (refl, refl, refl)
none_of x y z e = cc

help_given : (has wants any : Bool) → (not has && (wants && not any)) ≡ false → (not wants || (has || any)) ≡ true
help_given has false any e = refl
help_given true true any e = refl
help_given false true true e = refl
help_given false true false e = cc

subcommand_given : (has wants : Bool) → (not has && wants) ≡ false → (not wants || has) ≡ true
subcommand_given has false e = refl
subcommand_given true true e = refl
subcommand_given false true e = cc

args_given : (free any all : Bool) → (any ≡ false → all ≡ true) → (not free && any) ≡ false → (free || all) ≡ true
args_given true any all f e = refl
args_given false any all f e = f e

is_there : (required given : Bool) → (required && not given) ≡ false → (not required || given) ≡ true
is_there true false e = cc
is_there required given e = refl

all_there : (rules : List Rule) (rows : List Row) → list_any (λ a. a.required && not (is_given a.id rows)) rules ≡ false
    → list_all (λ a. not a.required || is_given a.id rows) rules ≡ true
all_there [] rows e = refl
all_there (a ∷ rules) rows e =
    let p = or_parts (a.required && not (is_given a.id rows)) _ e in
    and_from _ _ (is_there a.required (is_given a.id rows) p.0) (all_there rules rows p.1)

level_ok : (s : Shape) (names : Names) (h : Held) (words : List Text) (has : Bool) (below : Kinds) → is_sound s ≡ true → level_fault s names h words has below ≡ []
    → (below ≡ []) × (level_passes s names h words has ≡ true)
level_ok s names h words has below sound e =
    let end = (walk s.rules names h words).held in
    let rows = finished s.rules end in
    let w = both_nil _ _ e in
    let b = both_nil _ _ w.1 in
    let t = both_nil _ _ b.1 in
    let d = both_nil _ _ t.1 in
    let n = none_of _ _ _ d.1 in
    let o = and_parts _ _ sound in (
      b.0,
      and_from _ _ (walk_ok s names (walk_from h) words w.0) (and_from _ _ (settle_ok s.rules s.args_override_self end t.0) (and_from _ _ o.0
          (and_from _ _ (help_given has s.arg_required_else_help _ n.0) (and_from _ _ (subcommand_given has s.subcommand_required n.1) (and_from _ _ o.1
          (args_given (s.subcommand_negates_reqs && has) _ _ (all_there s.rules rows) n.2)))))),
    )

found_ok : (p : Shape → Bool) (subs : List Shape) (f : Shape → Kinds) (g : Shape → Bool) → ((s : Shape) → is_sound s ≡ true → f s ≡ [] → g s ≡ true)
    → list_all is_sound subs ≡ true → option_map_or f (find p subs) [] ≡ [] → option_map_or g (find p subs) true ≡ true
found_ok p [] f g h sound e = refl
found_ok p (s ∷ subs) f g h sound e =
    let o = and_parts _ _ sound in
    (elim (p s) as (λ b. option_map_or f (if b then Some s else find p subs) [] ≡ [] → option_map_or g (if b then Some s else find p subs) true ≡ true) [
      | true ↦ λ q. h s o.0 q
      | false ↦ λ q. found_ok p subs f g h o.1 q
    ]) e

entered_ok : (a : App) (stop : Option (Text × List Text)) → list_all is_sound a.subs ≡ true → entered_fault a stop ≡ [] → entered_passes a stop ≡ true
entered_ok a stop sound e = at_some stop _ _ (λ p q. found_ok (λ s. answers_to p.0 (label_of s)) a.subs _ _
    (λ s o r. (level_ok s [] nothing_held p.1 false [] o r).1) sound q) e

built_ok : (a : App) (h : Held) (words : List Text) → is_sound a.top ≡ true → list_all is_sound a.subs ≡ true → built_fault a h words ≡ [] → built_takes a h words ≡ true
built_ok a h words top subs e =
    let p = level_ok a.top (names_of a) h words _ _ top e in
    and_from _ _ (entered_ok a _ subs p.0) p.1

-- Words that have no fault are taken.
pub takes_of_no_fault : (a : App) (words : List Text) → is_sound_command a ≡ true → fault_of a words ≡ [] → takes a words ≡ true
takes_of_no_fault a words sound e =
    let p = and_parts (is_simple_and_free a) _ sound in
    let q = and_parts (is_sound (built a).top) _ p.1 in
    and_from (is_simple a) _ (and_parts (is_simple a) _ p.0).0 (built_ok (built a) nothing_held (argument_words a words) q.0 q.1 e)
