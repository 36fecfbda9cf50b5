-- Where a walk over words passes, each row that it leaves fits the rule of its argument: the number of its values lies
-- in the argument's range, each value passes, and they are read as the argument's are.
use Rattle.std.proofs.Common.{◌≡◌, ◌∙◌, ap, sym, subst, refl, true, false, Bool, not, ◌&&◌, ◌||◌, ℕ, zero, suc, length, drop, List, [], ◌∷◌, ◌++◌, Option, Some, None, is_some, if◌then◌else◌, nat_le, encode_utf8, slice_get}
use Rattle.std.specs.List.{list_all, list_any, find, fold}
use Rattle.std.specs.Option.{option_map_or}
use Rattle.std.specs.Str.{bytes_eq, chars}
use Rattle.std.proofs.lemmas.Slice.Eq.{bytes_eq-Decides}
use Rattle.std.proofs.lemmas.Bool.{and_from, and_parts, or_left, or_right}
use Rattle.std.proofs.lemmas.List.Folds.{list_all-append}
use Rattle.clap.specs.declared.builder.ArgAction.{ArgAction}
use Rattle.clap.specs.declared.builder.ArgAction.TheVariants.{Set}
use Rattle.clap.specs.declared.builder.value_parser.Reading.{Reading}
use Rattle.clap.specs.declared.builder.value_parser.Reading.TheVariants.{AsWritten}
use Rattle.clap.specs.declared.parser.matches.ValueSource.{ValueSource}
use Rattle.clap.specs.declared.parser.matches.ValueSource.TheVariants.{CommandLine, DefaultValue}
use Rattle.clap.specs.Lexer.{long_of, short_of}
use Rattle.clap.specs.Facts.{unwrap_or_range}
use Rattle.clap.specs.Walk.{Held, Names, Outcome, Row, Rule, Step, Text, Waiting, Walk, done, waits, plain, option, value, trailing, action_of, after_flag, after_step, arg_by_id, arg_by_index, arg_by_long, arg_by_short, at_row, attached_value, bundle_met, bundle_step, default_rows, flag_met, has_row, is_pending, long_met, long_or_other, more_values, most_values, nothing_held, option_met, option_word, plain_word, positional_held, reacted, reading_by, rows_after, settled, settled_rows, short_met, short_or_plain, subcommand_met, subcommand_or_other, takes_several, takes_values, to_positional, used, used_as, used_by_id, values_or_missing, walk, walk_from, walked, walked_from, with_default, with_values, without, word_met}
use Rattle.clap.specs.Simple.{Shape}
use Rattle.clap.specs.Takes.{action_passes, bundle_passes, bundle_step_passes, flag_word_passes, flags_pass, level_passes, long_passes, option_passes, other_passes, positional_passes, react_passes, settle_passes, short_passes, step_passes, use_passes, walk_passes, word_passes}
use Rattle.clap_command.specs.Plain.{fits_values, is_plain_action, is_plain_rule, no_values}

-- ---- what is kept

abbrev pub reads_as_written : Reading → Bool
reads_as_written AsWritten = true
reads_as_written how = false

-- the values fit the argument, and are read as written where the argument's are
abbrev pub fits : Rule → List Text → Reading → Bool
fits a values how = fits_values a values && (reads_as_written how || not (reads_as_written (reading_by a)))

-- the row fits one of the rules that has its id
abbrev pub row_fits : List Rule → Row → Bool
row_fits c r = list_any (λ a. bytes_eq a.id r.id && fits a r.values r.reading) c

-- ---- what is asked of the rules

-- a rule of the command: it is plain, and what fits it is kept
record Kept (P : Row → Bool) (a : Rule) : Type 0 where
  plain : is_plain_rule a ≡ true
  keeps : (r : Row) → bytes_eq a.id r.id ≡ true → fits a r.values r.reading ≡ true → P r ≡ true

abbrev Each : (Rule → Type 0) → List Rule → Type 0
Each Q [] = Unit {0}
Each Q (a ∷ c) = Q a × Each Q c

each_kept : (P : Row → Bool) (c : List Rule) → ((r : Row) → row_fits c r ≡ true → P r ≡ true) → list_all is_plain_rule c ≡ true → Each (Kept P) c
each_kept P [] keeps all = tt
each_kept P (a ∷ c) keeps all =
    let p = and_parts _ _ all in (
      record {
        plain = p.0;
        keeps = λ r same fit. keeps r (or_left (bytes_eq a.id r.id && fits a r.values r.reading) _ (and_from _ _ same fit));
      },
      each_kept P c (λ r fit. keeps r (or_right (bytes_eq a.id r.id && fits a r.values r.reading) _ fit)) p.1,
    )

found_kept : (Q : Rule → Type 0) (p : Rule → Bool) (c : List Rule) → Each Q c → (a : Rule) → find p c ≡ Some a → Q a
found_kept Q p [] each a e = cc
found_kept Q p (x ∷ c) each a e =
    (elim (p x) as (λ b. (if b then Some x else find p c) ≡ Some a → Q a) [
      | true ↦ λ q. let same : x ≡ a = cc in subst Q same each.0
      | false ↦ λ q. found_kept Q p c each.1 a q
    ]) e

-- ---- one use

pub text_is_itself : (t : Text) → bytes_eq t t ≡ true
text_is_itself t = (bytes_eq-Decides t t).1 refl

same_reading : (how : Reading) → (reads_as_written how || not (reads_as_written how)) ≡ true
same_reading AsWritten = refl
same_reading how = refl

all_kept_more : (P : Row → Bool) (rows : List Row) (r : Row) → list_all P rows ≡ true → P r ≡ true → list_all P (rows ++ r ∷ []) ≡ true
all_kept_more P rows r all one = list_all-append P rows (r ∷ []) ∙ and_from _ _ all (and_from _ _ one refl)

-- a row of an id that has none joins at the end
pub at_new_row : (id : Text) (change : Row → List Row) (missing : List Row) (rows : List Row) → has_row id rows ≡ false → at_row id change missing rows ≡ rows ++ missing
at_new_row id change missing [] e = refl
at_new_row id change missing (r ∷ rows) e =
    (elim (bytes_eq r.id id) as (λ b. (b || has_row id rows) ≡ false → (if b then change r ++ rows else r ∷ at_row id change missing rows) ≡ (r ∷ rows) ++ missing) [
      | true ↦ λ q. cc
      | false ↦ λ q. ap (λ rest. r ∷ rest) (at_new_row id change missing rows q)
    ]) e

without_none : (id : Text) (rows : List Row) → has_row id rows ≡ false → without id rows ≡ rows
without_none id [] e = refl
without_none id (r ∷ rows) e =
    (elim (bytes_eq r.id id) as (λ b. (b || has_row id rows) ≡ false → (if b then [] ++ rows else r ∷ without id rows) ≡ r ∷ rows) [
      | true ↦ λ q. cc
      | false ↦ λ q. ap (λ rest. r ∷ rest) (without_none id rows q)
    ]) e

new_row_kept : (P : Row → Bool) (a : Rule) (source : ValueSource) (values : List Text) (rows : List Row) → Kept P a → has_row a.id rows ≡ false
    → fits_values a values ≡ true → list_all P rows ≡ true → list_all P (with_values a.id (reading_by a) source values rows) ≡ true
new_row_kept P a source values rows kept none fit all =
    let r : Row = record { id = a.id; values = values; count = None; source = Some source; reading = reading_by a } in
    ap (list_all P) (at_new_row a.id (more_values source values) (r ∷ []) rows none)
    ∙ all_kept_more P rows r all (kept.keeps r (text_is_itself a.id) (and_from _ _ fit (same_reading (reading_by a))))

same_values : (missing values : List Text) (a : Rule) → a.missing ≡ missing → no_values missing ≡ true → values_or_missing a values ≡ values
same_values [] [] a is e = is
same_values (m ∷ missing) [] a is e = cc
same_values missing (v ∷ vs) a is e = refl

not_again : (has again : Bool) → again ≡ false → (not has || again) ≡ true → has ≡ false
not_again true again off e = cc
not_again false again off e = refl

-- a use that passes its action gives its values as a new row
used_kept_as : (P : Row → Bool) (x : ArgAction) (again : Bool) (a : Rule) (values : List Text) (rows : List Row) → Kept P a → again ≡ false
    → is_plain_action x ≡ true → nat_le (unwrap_or_range a.range).start_inclusive (length values) ≡ true → nat_le (length values) (most_values a) ≡ true
    → action_passes x again a values rows ≡ true → list_all P rows ≡ true → list_all P (used_as x a.id (reading_by a) values rows) ≡ true
used_kept_as P Set again a values rows kept off action least most pass all =
    let p = and_parts _ _ pass in
    let none = not_again (has_row a.id rows) again off p.0 in
    ap (λ rest. list_all P (with_values a.id (reading_by a) CommandLine values rest)) (without_none a.id rows none)
    ∙ new_row_kept P a CommandLine values rows kept none (and_from _ _ least (and_from _ _ most p.1)) all
used_kept_as P x again a values rows kept off action least most pass all = cc

used_kept : (P : Row → Bool) (again : Bool) (a : Rule) (values : List Text) (rows : List Row) → Kept P a → again ≡ false
    → use_passes again a values rows ≡ true → list_all P rows ≡ true → list_all P (used a values rows) ≡ true
used_kept P again a values rows kept off pass all =
    let plain = and_parts _ _ kept.plain in
    let none = same_values a.missing values a refl (and_parts _ _ plain.1).0 in
    let p = and_parts _ _ pass in
    let q = and_parts _ _ p.1 in
    ap (λ vs. list_all P (used_as (action_of a) a.id (reading_by a) vs rows)) none
    ∙ used_kept_as P (action_of a) again a values rows kept off plain.0 p.0 q.0
    (ap (λ vs. action_passes (action_of a) again a vs rows) (sym none) ∙ q.1) all

-- ---- the walk

module _ (P : Row → Bool) (c : List Rule) (each : Each (Kept P) c) (again : Bool) (off : again ≡ false) where
  settled_kept_by : (o : Option Rule) (values : List Text) (rows : List Row) → ((a : Rule) → o ≡ Some a → Kept P a)
      → option_map_or (λ a. use_passes again a values rows) o true ≡ true → list_all P rows ≡ true → list_all P (used_by_id o values rows) ≡ true
  settled_kept_by None values rows known pass all = all
  settled_kept_by (Some a) values rows known pass all = used_kept P again a values rows (known a refl) off pass all

  settled_rows_kept : (pending : Option (Text × List Text)) (rows : List Row)
      → option_map_or (λ p. option_map_or (λ a. use_passes again a p.1 rows) (arg_by_id c p.0) true) pending true ≡ true
      → list_all P rows ≡ true → list_all P (settled_rows c pending rows) ≡ true
  settled_rows_kept None rows pass all = all
  settled_rows_kept (Some p) rows pass all = settled_kept_by (arg_by_id c p.0) p.1 rows (found_kept (Kept P) _ c each) pass all

  settled_kept : (h : Held) → settle_passes c again h ≡ true → list_all P h.rows ≡ true → list_all P (settled c h).rows ≡ true
  settled_kept h pass all = settled_rows_kept h.pending h.rows pass all

  reacted_kept : (a : Rule) (values : List Text) (h : Held) → Kept P a → react_passes c again a values h ≡ true → list_all P h.rows ≡ true
      → list_all P (reacted c a values h).rows ≡ true
  reacted_kept a values h kept pass all =
      let p = and_parts _ _ pass in used_kept P again a values (settled c h).rows kept off p.1 (settled_kept h p.0 all)

  option_kept : (a : Rule) (v : Option Text) (h : Held) → Kept P a → option_passes c again a v h ≡ true → list_all P h.rows ≡ true
      → list_all P (option_met c a v h).0.rows ≡ true
  option_kept a (Some v) h kept pass all = reacted_kept a (v ∷ []) h kept pass all
  option_kept a None h kept pass all = settled_kept h pass all

  flag_kept : (a : Rule) (v : Option Text) (h : Held) → Kept P a → (not (is_some v) && react_passes c again a [] h) ≡ true → list_all P h.rows ≡ true
      → list_all P (flag_met c a v h).0.rows ≡ true
  flag_kept a (Some v) h kept pass all = all
  flag_kept a None h kept pass all = reacted_kept a [] h kept pass all

  long_kept : (o : Option Rule) (v : Option Text) (h : Held) → ((a : Rule) → o ≡ Some a → Kept P a) → long_passes c again o v h ≡ true
      → list_all P h.rows ≡ true → list_all P (long_met c o v h).0.rows ≡ true
  long_kept None v h known pass all = all
  long_kept (Some a) v h known pass all =
      (elim (takes_values a) as (λ b. (if b then option_passes c again a v h else (not (is_some v) && react_passes c again a [] h)) ≡ true
      → list_all P (if b then option_met c a v h else flag_met c a v h).0.rows ≡ true) [
        | true ↦ λ q. option_kept a v h (known a refl) q all
        | false ↦ λ q. flag_kept a v h (known a refl) q all
      ]) pass

  short_kept : (o : Option Rule) (rest : Text) (h : Held) (np : Held → Bool) (nm : Held → Held × Outcome) → ((a : Rule) → o ≡ Some a → Kept P a)
      → ((g : Held) → np g ≡ true → list_all P g.rows ≡ true → list_all P (nm g).0.rows ≡ true)
      → short_passes c again o rest h np ≡ true → list_all P h.rows ≡ true → list_all P (short_met c o rest h nm).0.rows ≡ true
  short_kept None rest h np nm known more pass all = all
  short_kept (Some a) rest h np nm known more pass all =
      (elim (takes_values a) as (λ b. (if b then option_passes c again a (attached_value rest) h else (react_passes c again a [] h && np (reacted c a [] h))) ≡ true
      → list_all P (if b then option_met c a (attached_value rest) h else nm (reacted c a [] h)).0.rows ≡ true) [
        | true ↦ λ q. option_kept a (attached_value rest) h (known a refl) q all
        | false ↦ λ q. let p = and_parts _ _ q in more (reacted c a [] h) p.1 (reacted_kept a [] h (known a refl) p.0 all)
      ]) pass

  bundle_step_kept : (x : Option ℕ) (flags : Text) (skip : ℕ) (so_far : Outcome) (h : Held) (np : Text → ℕ → Held → Bool) (nm : Text → ℕ → Outcome → Held → Held × Outcome)
      → ((t : Text) (k : ℕ) (o : Outcome) (g : Held) → np t k g ≡ true → list_all P g.rows ≡ true → list_all P (nm t k o g).0.rows ≡ true)
      → bundle_step_passes c again x flags skip h np ≡ true → list_all P h.rows ≡ true → list_all P (bundle_step c x flags skip so_far h nm).0.rows ≡ true
  bundle_step_kept None flags skip so_far h np nm more pass all = all
  bundle_step_kept (Some x) flags zero so_far h np nm more pass all =
      let rest : Text = drop (length (encode_utf8 x)) flags in
      short_kept (arg_by_short c x) rest h (np rest 0) (nm rest 0 done) (found_kept (Kept P) _ c each) (more rest 0 done) pass all
  bundle_step_kept (Some x) flags (suc skip) so_far h np nm more pass all = more _ _ so_far h pass all

  flags_kept : (k : ℕ) (flags : Text) (skip : ℕ) (so_far : Outcome) (h : Held) → flags_pass c again k flags skip h ≡ true → list_all P h.rows ≡ true
      → list_all P (bundle_met c k flags skip so_far h).0.rows ≡ true
  unfolding flags_pass bundle_met
  flags_kept zero flags skip so_far h pass all = all
  flags_kept (suc k) flags skip so_far h pass all =
      bundle_step_kept (slice_get (chars flags) 0) flags skip so_far h (flags_pass c again k) (bundle_met c k) (flags_kept k) pass all

  option_word_rows : (o : Option Rule) (id word : Text) (h : Held) → (option_word o id word h).0.rows ≡ h.rows
  option_word_rows None id word h = refl
  option_word_rows (Some a) id word h = refl

  plain_rows : (waiting : Waiting) (word : Text) (h : Held) → (plain_word c waiting word h).0.rows ≡ h.rows
  plain_rows (option id) word h = option_word_rows (arg_by_id c id) id word h
  plain_rows waiting word h = refl

  flag_rows : (waiting : Waiting) (word : Text) (h : Held) (met : Outcome) → (after_flag c waiting word h met).0.rows ≡ h.rows
  flag_rows waiting word h done = refl
  flag_rows waiting word h (waits id) = refl
  flag_rows waiting word h met = plain_rows waiting word h

  short_word_kept : (waiting : Waiting) (word : Text) (flags : Option Text) (h : Held) → option_map_or (λ f. bundle_passes c again f h) flags true ≡ true
      → list_all P h.rows ≡ true → list_all P (short_or_plain c waiting word flags h).0.rows ≡ true
  short_word_kept waiting word None h pass all = ap (list_all P) (plain_rows waiting word h) ∙ all
  short_word_kept waiting word (Some flags) h pass all = ap (list_all P) (flag_rows waiting word _ _) ∙ flags_kept (length flags) flags h.skip plain _ pass all

  long_word_kept : (waiting : Waiting) (word : Text) (p : Option (Text × Option Text)) (h : Held) → flag_word_passes c again p word h ≡ true
      → list_all P h.rows ≡ true → list_all P (long_or_other c waiting word p h).0.rows ≡ true
  long_word_kept waiting word None h pass all = short_word_kept waiting word (short_of word) h pass all
  long_word_kept waiting word (Some p) h pass all =
      ap (list_all P) (flag_rows waiting word _ _) ∙ long_kept (arg_by_long c p.0) p.1 h (found_kept (Kept P) _ c each) pass all

  positional_kept : (a : Rule) (word : Text) (h : Held) → positional_passes c again a h ≡ true → list_all P h.rows ≡ true
      → list_all P (positional_held c a word h).rows ≡ true
  positional_kept a word h pass all =
      (elim (is_pending a h.pending && takes_several a) as (λ b. (b || settle_passes c again h) ≡ true → list_all P (if b then h else settled c h).rows ≡ true) [
        | true ↦ λ q. all
        | false ↦ λ q. settled_kept h q all
      ]) pass

  at_positional_kept : (o : Option Rule) (word : Text) (w : Walk) (h : Held) → option_map_or (λ a. positional_passes c again a h) o false ≡ true
      → list_all P h.rows ≡ true → list_all P (to_positional c o word w h).held.rows ≡ true
  at_positional_kept None word w h pass all = all
  at_positional_kept (Some a) word w h pass all = positional_kept a word h pass all

-- the same over the words of a command
module _ (P : Row → Bool) (s : Shape) (names : Names) (each : Each (Kept P) s.rules) (off : s.args_override_self ≡ false) where
  step_kept : (word : Text) (w : Walk) (h : Held) (step : Step) → step_passes s w.position h step ≡ true → list_all P h.rows ≡ true
      → list_all P (after_step s.rules word w h step).held.rows ≡ true
  step_kept word w h value pass all = at_positional_kept P s.rules each s.args_override_self off (arg_by_index s.rules w.position) word w h pass all
  step_kept word w h step pass all = all

  met_kept : (met : Option Text) (waiting : Waiting) (position : ℕ) (word : Text) (h : Held) → other_passes s met word h ≡ true → list_all P h.rows ≡ true
      → list_all P (subcommand_or_other s.rules met waiting position word h).0.rows ≡ true
  met_kept (Some name) waiting position word h pass all = all
  met_kept None waiting position word h pass all =
      (elim (bytes_eq word (45 ∷ 45 ∷ [])) as (λ b. (b || flag_word_passes s.rules s.args_override_self (long_of word) word h) ≡ true
      → list_all P (if b then (h, trailing position) else long_or_other s.rules waiting word (long_of word) h).0.rows ≡ true) [
        | true ↦ λ q. all
        | false ↦ λ q. long_word_kept P s.rules each s.args_override_self off waiting word (long_of word) h q all
      ]) pass

  word_kept : (is_trailing : Bool) (waiting : Waiting) (position : ℕ) (word : Text) (h : Held) → word_passes s names is_trailing waiting word h ≡ true
      → list_all P h.rows ≡ true → list_all P (word_met s.rules names is_trailing waiting position word h).0.rows ≡ true
  word_kept true waiting position word h pass all = all
  word_kept false waiting position word h pass all = met_kept (subcommand_met names waiting word) waiting position word h pass all

  turn_kept : (stop : Option (Text × List Text)) (w : Walk) (word : Text)
      → (let met = word_met s.rules names w.is_trailing w.waiting w.position word w.held in
      (is_some stop || (word_passes s names w.is_trailing w.waiting word w.held && step_passes s w.position met.0 met.1)) ≡ true)
      → list_all P w.held.rows ≡ true → list_all P (walked_from s.rules names stop w word).held.rows ≡ true
  turn_kept (Some p) w word pass all = all
  turn_kept None w word pass all =
      let p = and_parts _ _ pass in
      let met = word_met s.rules names w.is_trailing w.waiting w.position word w.held in
      step_kept word w met.0 met.1 p.1 (word_kept w.is_trailing w.waiting w.position word w.held p.0 all)

  walk_kept : (w : Walk) (words : List Text) → walk_passes s names w words ≡ true → list_all P w.held.rows ≡ true
      → list_all P (fold (walked s.rules names) w words).held.rows ≡ true
  unfolding walked walk_passes
  walk_kept w [] pass all = all
  walk_kept w (word ∷ rest) pass all =
      let p = and_parts _ _ pass in walk_kept (walked s.rules names w word) rest p.1 (turn_kept w.stopped w word p.0 all)

-- ---- the rows at the end

default_kept : (P : Row → Bool) (a : Rule) (values : List Text) (rows : List Row) → Kept P a → has_row a.id rows ≡ false
    → (no_values values || fits_values a values) ≡ true → list_all P rows ≡ true → list_all P (default_rows a.id (reading_by a) values rows) ≡ true
default_kept P a [] rows kept none fit all = all
default_kept P a (v ∷ vs) rows kept none fit all = new_row_kept P a DefaultValue (v ∷ vs) rows kept none fit all

with_default_kept : (P : Row → Bool) (a : Rule) (rows : List Row) → Kept P a → list_all P rows ≡ true → list_all P (with_default rows a) ≡ true
with_default_kept P a rows kept all =
    let fit = (and_parts _ _ (and_parts _ _ kept.plain).1).1 in
    (elim (has_row a.id rows) as (λ b. has_row a.id rows ≡ b → list_all P (if b then rows else default_rows a.id (reading_by a) a.defaults rows) ≡ true) [
      | true ↦ λ has. all
      | false ↦ λ none. default_kept P a a.defaults rows kept none fit all
    ]) refl

defaults_kept : (P : Row → Bool) (d : List Rule) (rows : List Row) → Each (Kept P) d → list_all P rows ≡ true → list_all P (fold with_default rows d) ≡ true
defaults_kept P [] rows each all = all
defaults_kept P (a ∷ d) rows each all = defaults_kept P d (with_default rows a) each.1 (with_default_kept P a rows each.0 all)

-- each row of a level that passes fits a rule of its id
pub rows_fit : (s : Shape) (words : List Text) (has : Bool) → list_all is_plain_rule s.rules ≡ true → s.args_override_self ≡ false
    → level_passes s [] nothing_held words has ≡ true → list_all (row_fits s.rules) (rows_after s.rules [] words) ≡ true
rows_fit s words has sound off e =
    let each = each_kept (row_fits s.rules) s.rules (λ r fit. fit) sound in
    let end = (walk s.rules [] nothing_held words).held in
    let p = and_parts _ _ e in
    let q = and_parts _ _ p.1 in
    defaults_kept (row_fits s.rules) s.rules _ each
    (settled_kept (row_fits s.rules) s.rules each s.args_override_self off end q.0
    (walk_kept (row_fits s.rules) s [] each off (walk_from nothing_held) words p.0 refl))
