-- What the rows of a subcommand hold, where it takes the words: its numbers can be read and lie in their ranges, and its
-- lists are no longer than they may be.
-- Crates above cite these lemmas.
use Rattle.std.proofs.Common.{◌≡◌, ◌∙◌, ◌≤◌, ap, sym, subst, refl, true, false, Bool, not, ◌&&◌, ◌||◌, ℕ, length, List, [], ◌∷◌, ◌++◌, Option, Some, None, filter, option_map, option_and_then, unwrap_or, IfSome, if◌then◌else◌, nat_le, slice_get, arith}
use Rattle.std.specs.List.{All, list_all, list_any, find, fold}
use Rattle.std.specs.Option.{option_map_or}
use Rattle.std.specs.Str.{bytes_eq}
use Rattle.std.proofs.lemmas.Slice.Eq.{bytes_eq-Decides}
use Rattle.std.proofs.lemmas.Bool.{and_parts, leb-true, not-true, or_left, or_right}
use Rattle.std.proofs.lemmas.List.Folds.{list_any-append}
use Rattle.std.proofs.lemmas.List.Elements.{All-nil, All-cons, All-weaker, All-map}
use Rattle.clap.specs.Words.{IsUnsignedIn, Row, Text, one_of, read_as}
use Rattle.clap.specs.Facts.{explicit_source, parser_of_value, unwrap_or_range}
use Rattle.clap.specs.Values.{reading_of}
use Rattle.clap.specs.ValueTests.{accepts}
use Rattle.clap.specs.Walk.{Rule, default_rows, has_row, more_values, most_values, nothing_held, reading_by, row_text, rows_after, settled, walk, walk_from, with_default}
use Rattle.clap.specs.Simple.{Shape}
use Rattle.clap.specs.Takes.{default_passes, is_given, is_valid, level_passes, settle_passes, values_pass, walk_passes}
use Rattle.clap.specs.declared.builder.value_parser.Reading.{Reading}
use Rattle.clap.specs.declared.builder.value_parser.Reading.TheVariants.{AsWritten}
use Rattle.clap.specs.declared.builder.value_parser.ValueParser.TheVariants.{Unsigned}
use Rattle.clap.specs.declared.parser.matches.ValueSource.TheVariants.{DefaultValue}
use Rattle.clap.proofs.ValueTestLemmas.{accepts-Accepts}
use Rattle.clap_command.specs.Values.{numeral_of, number_in, number_of, numbers_of, optional_number_of, values_of}
use Rattle.clap_command.specs.Plain.{is_plain_subcommand, no_values}
use Rattle.clap_command.proofs.Bools.{or_false}
use Rattle.clap_command.proofs.Fit.{at_new_row, fits, reads_as_written, row_fits, rows_fit, text_is_itself}

-- ---- which rows are there

any_more : (p : Row → Bool) (rows more : List Row) → list_any p more ≡ true → list_any p (rows ++ more) ≡ true
any_more p rows more e = list_any-append p rows more ∙ or_right (list_any p rows) (list_any p more) e

any_before : (p : Row → Bool) (rows more : List Row) → list_any p rows ≡ true → list_any p (rows ++ more) ≡ true
any_before p rows more e = list_any-append p rows more ∙ or_left (list_any p rows) (list_any p more) e

default_there : (id : Text) (a : Rule) (values : List Text) (rows : List Row) → has_row a.id rows ≡ false → no_values values ≡ false → a.id ≡ id
    → has_row id (default_rows a.id (reading_by a) values rows) ≡ true
default_there id a [] rows none given same = cc
default_there id a (v ∷ vs) rows none given same =
    ap (has_row id) (at_new_row a.id (more_values DefaultValue (v ∷ vs)) _ rows none)
    ∙ any_more (λ r. bytes_eq r.id id) rows _ (or_left _ false (ap (λ t. bytes_eq t id) same ∙ text_is_itself id))

default_stays : (id : Text) (a : Rule) (values : List Text) (rows : List Row) → has_row a.id rows ≡ false → has_row id rows ≡ true
    → has_row id (default_rows a.id (reading_by a) values rows) ≡ true
default_stays id a [] rows none has = has
default_stays id a (v ∷ vs) rows none has =
    ap (has_row id) (at_new_row a.id (more_values DefaultValue (v ∷ vs)) _ rows none) ∙ any_before (λ r. bytes_eq r.id id) rows _ has

stays : (id : Text) (a : Rule) (rows : List Row) → has_row id rows ≡ true → has_row id (with_default rows a) ≡ true
stays id a rows has =
    (elim (has_row a.id rows) as (λ b. has_row a.id rows ≡ b → has_row id (if b then rows else default_rows a.id (reading_by a) a.defaults rows) ≡ true) [
      | true ↦ λ e. has
      | false ↦ λ e. default_stays id a a.defaults rows e has
    ]) refl

all_stay : (id : Text) (d : List Rule) (rows : List Row) → has_row id rows ≡ true → has_row id (fold with_default rows d) ≡ true
all_stay id [] rows has = has
all_stay id (a ∷ d) rows has = all_stay id d (with_default rows a) (stays id a rows has)

comes : (id : Text) (a : Rule) (rows : List Row) → a.id ≡ id → no_values a.defaults ≡ false → has_row id (with_default rows a) ≡ true
comes id a rows same given =
    (elim (has_row a.id rows) as (λ b. has_row a.id rows ≡ b → has_row id (if b then rows else default_rows a.id (reading_by a) a.defaults rows) ≡ true) [
      | true ↦ λ e. ap (λ t. has_row t rows) (sym same) ∙ e
      | false ↦ λ e. default_there id a a.defaults rows e given same
    ]) refl

-- an argument with a default has a row
abbrev has_default : Text → Rule → Bool
has_default id a = bytes_eq a.id id && not (no_values a.defaults)

defaulted : (id : Text) (d : List Rule) (rows : List Row) → list_any (has_default id) d ≡ true → has_row id (fold with_default rows d) ≡ true
defaulted id [] rows e = cc
defaulted id (a ∷ d) rows e =
    (elim (has_default id a) as (λ b. has_default id a ≡ b → (b || list_any (has_default id) d) ≡ true → has_row id (fold with_default (with_default rows a) d) ≡ true) [
      | true ↦ λ is q. let p = and_parts _ _ is in all_stay id d _ (comes id a rows ((bytes_eq-Decides a.id id).0 p.0) (not-true _ p.1))
      | false ↦ λ is q. defaulted id d (with_default rows a) q
    ]) refl e

-- an argument that was given has a row
given_there : (id : Text) (f : Row → Bool) (rows : List Row) → option_map_or f (find (λ r. bytes_eq r.id id) rows) false ≡ true → has_row id rows ≡ true
given_there id f [] e = cc
given_there id f (r ∷ rows) e =
    (elim (bytes_eq r.id id) as (λ b. option_map_or f (if b then Some r else find (λ r. bytes_eq r.id id) rows) false ≡ true → (b || has_row id rows) ≡ true) [
      | true ↦ λ q. refl
      | false ↦ λ q. given_there id f rows q
    ]) e

-- ---- what a row of an id holds

-- a fact of the row of an id, if there is one, where all rows fit
of_found : (c : List Rule) (id : Text) (R : Option Row → Type 0) → ((r : Row) → list_any (λ a. bytes_eq a.id id && fits a r.values r.reading) c ≡ true → R (Some r))
    → (rows : List Row) → (has_row id rows ≡ false → R None) → list_all (row_fits c) rows ≡ true → R (find (λ r. bytes_eq r.id id) rows)
of_found c id R some [] none all = none refl
of_found c id R some (r ∷ rows) none all =
    let p = and_parts _ _ all in
    (elim (bytes_eq r.id id) as (λ b. bytes_eq r.id id ≡ b → ((b || has_row id rows) ≡ false → R None) → R (if b then Some r else find (λ r. bytes_eq r.id id) rows)) [
      | true ↦ λ same n. some r (subst (λ t. list_any (λ a. bytes_eq a.id t && fits a r.values r.reading) c ≡ true) ((bytes_eq-Decides r.id id).0 same) p.0)
      | false ↦ λ same n. of_found c id R some rows n p.1
    ]) refl none

-- ---- numbers and lists

-- the first value, if there is one
abbrev first_text : List Text → Reading → Option Text
first_text values how = option_map (read_as how) (slice_get values 0)

abbrev read_text : List Text → Reading → Text
read_text values how = unwrap_or (first_text values how) []

as_written : (how : Reading) (v : Text) (Q : Text → Type 0) → (reads_as_written how || false) ≡ true → Q v → Q (read_as how v)
as_written AsWritten v Q e q = q
as_written how v Q e q = cc

-- one value, of a number in a range, is read as written
numeral : (a : Rule) (least most : ℕ) (values : List Text) (how : Reading) → (unwrap_or_range a.range).start_inclusive ≡ 1
    → a.parser ≡ Some (Unsigned least most) → fits a values how ≡ true → IsUnsignedIn least most (read_text values how)
numeral a least most [] how one parser e =
    let p = and_parts _ _ (and_parts _ _ e).0 in
    let bad : nat_le 1 0 ≡ true = subst (λ n. nat_le n 0 ≡ true) one p.0 in cc
numeral a least most (v ∷ vs) how one parser e =
    let p = and_parts _ _ e in
    let q = and_parts _ _ (and_parts _ _ p.0).1 in
    let first : accepts a.ignore_case (parser_of_value a.parser) v ≡ true = (and_parts _ _ q.1).0 in
    let taken : accepts a.ignore_case (Unsigned least most) v ≡ true = ap (λ r. accepts a.ignore_case (parser_of_value r) v) (sym parser) ∙ first in
    let plain : (reads_as_written how || not (reads_as_written (reading_of (parser_of_value a.parser)))) ≡ true = p.1 in
    as_written how v (IsUnsignedIn least most)
    (ap (λ r. reads_as_written how || not (reads_as_written (reading_of (parser_of_value r)))) (sym parser) ∙ plain)
    (accepts-Accepts a.ignore_case (Unsigned least most) v taken)

optional_numeral : (a : Rule) (least most : ℕ) (values : List Text) (how : Reading) → (unwrap_or_range a.range).start_inclusive ≡ 1
    → a.parser ≡ Some (Unsigned least most) → fits a values how ≡ true → IfSome (first_text values how) (IsUnsignedIn least most)
optional_numeral a least most [] how one parser e = tt
optional_numeral a least most (v ∷ vs) how one parser e = numeral a least most (v ∷ vs) how one parser e

-- values of a number in a range, each of which passes
numerals : (a : Rule) (least most : ℕ) (values : List Text) → a.parser ≡ Some (Unsigned least most) → values_pass a values ≡ true
    → All (IsUnsignedIn least most) values
numerals a least most [] parser e = All-nil (IsUnsignedIn least most)
numerals a least most (v ∷ vs) parser e =
    let p = and_parts _ _ e in
    let taken : accepts a.ignore_case (Unsigned least most) v ≡ true = ap (λ r. accepts a.ignore_case (parser_of_value r) v) (sym parser) ∙ p.0 in
    All-cons (IsUnsignedIn least most) v vs (accepts-Accepts a.ignore_case (Unsigned least most) v taken) (numerals a least most vs parser p.1)

fits_most : (a : Rule) (values : List Text) (how : Reading) (most : ℕ) → most_values a ≡ most → fits a values how ≡ true → length values ≤ most
fits_most a values how most is e =
    let p : nat_le (length values) (most_values a) ≡ true = (and_parts _ _ (and_parts _ _ (and_parts _ _ e).0).1).0 in
    leb-true (length values) most (subst (λ n. nat_le (length values) n ≡ true) is p)

fits_least : (a : Rule) (values : List Text) (how : Reading) (least : ℕ) → (unwrap_or_range a.range).start_inclusive ≡ least → fits a values how ≡ true → least ≤ length values
fits_least a values how least is e =
    let p : nat_le (unwrap_or_range a.range).start_inclusive (length values) ≡ true = (and_parts _ _ (and_parts _ _ e).0).0 in
    leb-true least (length values) (subst (λ n. nat_le n (length values) ≡ true) is p)

-- ---- what is required

valid_level : (s : Shape) (words : List Text) → level_passes s [] nothing_held words false ≡ true → is_valid s (rows_after s.rules [] words) false ≡ true
valid_level s words e =
    let end = (walk s.rules [] nothing_held words).held in
    (and_parts (list_all default_passes s.rules) _ (and_parts (settle_passes s.rules s.args_override_self end) _
    (and_parts (walk_passes s [] (walk_from nothing_held) words) _ e).1).1).1

or_other : (a b : Bool) → ((a && false) || b) ≡ true → b ≡ true
or_other true b e = e
or_other false b e = e

-- what is required was given
all_given : (s : Shape) (rows : List Row) → is_valid s rows false ≡ true → list_all (λ a. not a.required || is_given a.id rows) s.rules ≡ true
all_given s rows e =
    or_other s.subcommand_negates_reqs _ (and_parts (list_all (λ a. a.is_free) s.rules) _ (and_parts (not s.subcommand_required || false) _
    (and_parts (not s.arg_required_else_help || (false || list_any (λ r. explicit_source r.source) rows)) _ e).1).1).1

abbrev requires : Text → Rule → Bool
requires id a = bytes_eq a.id id && a.required

required_given : (id : Text) (c : List Rule) (rows : List Row) → list_any (requires id) c ≡ true → list_all (λ a. not a.required || is_given a.id rows) c ≡ true
    → is_given id rows ≡ true
required_given id [] rows any all = cc
required_given id (a ∷ c) rows any all =
    let p = and_parts _ _ all in
    (elim (requires id a) as (λ b. requires id a ≡ b → (b || list_any (requires id) c) ≡ true → is_given id rows ≡ true) [
      | true ↦ λ is q.
          let r = and_parts _ _ is in
          let given : is_given a.id rows ≡ true = ap (λ x. not x || is_given a.id rows) (sym r.1) ∙ p.0 in
          ap (λ t. is_given t rows) (sym ((bytes_eq-Decides a.id id).0 r.0)) ∙ given
      | false ↦ λ is q. required_given id c rows q p.1
    ]) refl any

-- ---- one argument

-- the one rule of this id
abbrev pub Only : List Rule → Text → Rule → Type 0
Only c id a = filter (λ x. bytes_eq x.id id) c ≡ a ∷ []

any-of_id : (p : Rule → Bool) (id : Text) (c : List Rule) → list_any (λ x. bytes_eq x.id id && p x) c ≡ list_any p (filter (λ x. bytes_eq x.id id) c)
any-of_id p id [] = refl
any-of_id p id (x ∷ c) =
    elim (bytes_eq x.id id) as (λ b. ((b && p x) || list_any (λ y. bytes_eq y.id id && p y) c) ≡ list_any p (if b then x ∷ filter (λ y. bytes_eq y.id id) c else filter (λ y. bytes_eq y.id id) c)) [
      | true ↦ ap (λ r. p x || r) (any-of_id p id c)
      | false ↦ any-of_id p id c
    ]

only_has : (p : Rule → Bool) (c : List Rule) (id : Text) (a : Rule) → Only c id a → p a ≡ true → list_any (λ x. bytes_eq x.id id && p x) c ≡ true
only_has p c id a only has = any-of_id p id c ∙ ap (list_any p) only ∙ or_left (p a) false has

has_only : (p : Rule → Bool) (c : List Rule) (id : Text) (a : Rule) → Only c id a → list_any (λ x. bytes_eq x.id id && p x) c ≡ true → p a ≡ true
has_only p c id a only any = or_false (p a) false refl (sym (ap (list_any p) only) ∙ sym (any-of_id p id c) ∙ any)

-- the argument is a number in this range, which can be read by a type whose greatest number is `top`
pub record IsNumberIn (top least most : ℕ) (id : Text) (rows : List Row) : Type 0 where
  pub can_be_read : IsUnsignedIn 0 top (numeral_of id rows)
  pub at_least : least ≤ number_of id rows
  pub at_most : number_of id rows ≤ most

number_is_in : (top least most : ℕ) (id : Text) (rows : List Row) → nat_le most top ≡ true → IsUnsignedIn least most (numeral_of id rows) → IsNumberIn top least most id rows
number_is_in top least most id rows small is =
    let few : most ≤ top = leb-true most top small in
    record { can_be_read = (is.0, is.1, omega arith, omega (arith, few, is.3)); at_least = is.2; at_most = is.3 }

-- the same of an option, where it is given
pub record IsOptionIn (top least most : ℕ) (id : Text) (rows : List Row) : Type 0 where
  pub can_be_read : IfSome (one_of id rows) (IsUnsignedIn 0 top)
  pub in_range : IfSome (optional_number_of id rows) (λ n. (least ≤ n) × (n ≤ most))

option_read : (top least most : ℕ) (numeral : Option Text) → most ≤ top → IfSome numeral (IsUnsignedIn least most)
    → IfSome numeral (IsUnsignedIn 0 top) × IfSome (option_map number_in numeral) (λ n. (least ≤ n) × (n ≤ most))
option_read top least most None few is = (tt, tt)
option_read top least most (Some t) few is = ((is.0, is.1, omega arith, omega (arith, few, is.3)), (is.2, is.3))

-- the same of a list of numbers
pub record AreNumbersIn (top least most : ℕ) (id : Text) (rows : List Row) : Type 0 where
  pub can_be_read : All (IsUnsignedIn 0 top) (values_of id rows)
  pub in_range : All (λ n. (least ≤ n) × (n ≤ most)) (numbers_of id rows)

fits_numerals : (a : Rule) (values : List Text) (how : Reading) (least most : ℕ) → a.parser ≡ Some (Unsigned least most) → fits a values how ≡ true
    → All (IsUnsignedIn least most) values
fits_numerals a values how least most parser e = numerals a least most values parser (and_parts _ _ (and_parts _ _ (and_parts _ _ e).0).1).1

-- of a subcommand that takes the words
module _ (s : Shape) (words : List Text) (plain : is_plain_subcommand s ≡ true) (passes : level_passes s [] nothing_held words false ≡ true) where
  abbrev rows : List Row
  rows = rows_after s.rules [] words

  all_fit : list_all (row_fits s.rules) rows ≡ true
  all_fit = let p = and_parts _ _ plain in rows_fit s words false p.0 (not-true _ p.1) passes

  -- an argument that has to be there has a row
  has_required : (id : Text) (a : Rule) → Only s.rules id a → a.required ≡ true → has_row id rows ≡ true
  has_required id a only required =
      given_there id (λ r. explicit_source r.source) rows
      (required_given id s.rules rows (only_has (λ x. x.required) s.rules id a only required) (all_given s rows (valid_level s words passes)))

  -- a fact of the row of an argument, if there is one
  row_holds : (id : Text) (a : Rule) (R : Option Row → Type 0) → Only s.rules id a → ((r : Row) → fits a r.values r.reading ≡ true → R (Some r)) → (has_row id rows ≡ false → R None)
      → R (find (λ r. bytes_eq r.id id) rows)
  row_holds id a R only some none = of_found s.rules id R (λ r fit. some r (has_only (λ x. fits x r.values r.reading) s.rules id a only fit)) rows none all_fit

  number_there : (id : Text) (a : Rule) (top least most : ℕ) → Only s.rules id a → has_row id rows ≡ true → (unwrap_or_range a.range).start_inclusive ≡ 1
      → a.parser ≡ Some (Unsigned least most) → nat_le most top ≡ true → IsNumberIn top least most id rows
  number_there id a top least most only has one parser small =
      number_is_in top least most id rows small
      (row_holds id a (λ o. IsUnsignedIn least most (unwrap_or (option_and_then row_text o) [])) only (λ r. numeral a least most r.values r.reading one parser)
      (λ none. let bad : false ≡ true = sym none ∙ has in cc))

  -- a number that has to be there
  pub number-in_range : (id : Text) (a : Rule) (top least most : ℕ) → Only s.rules id a → a.required ≡ true → (unwrap_or_range a.range).start_inclusive ≡ 1
      → a.parser ≡ Some (Unsigned least most) → nat_le most top ≡ true → IsNumberIn top least most id rows
  number-in_range id a top least most only required = number_there id a top least most only (has_required id a only required)

  -- an option with no default
  pub optional-in_range : (id : Text) (a : Rule) (top least most : ℕ) → Only s.rules id a → (unwrap_or_range a.range).start_inclusive ≡ 1
      → a.parser ≡ Some (Unsigned least most) → nat_le most top ≡ true → IsOptionIn top least most id rows
  optional-in_range id a top least most only one parser small =
      let read = option_read top least most (one_of id rows) (leb-true most top small)
      (row_holds id a (λ o. IfSome (option_and_then row_text o) (IsUnsignedIn least most)) only (λ r. optional_numeral a least most r.values r.reading one parser) (λ none. tt)) in
      record { can_be_read = read.0; in_range = read.1 }

  -- an option with a default
  pub option-in_range : (id : Text) (a : Rule) (top least most : ℕ) → Only s.rules id a → no_values a.defaults ≡ false → (unwrap_or_range a.range).start_inclusive ≡ 1
      → a.parser ≡ Some (Unsigned least most) → nat_le most top ≡ true → IsNumberIn top least most id rows
  option-in_range id a top least most only given =
      number_there id a top least most only
      (defaulted id s.rules (settled s.rules (walk s.rules [] nothing_held words).held).rows (only_has (λ x. not (no_values x.defaults)) s.rules id a only (ap not given)))

  pub list-length : (id : Text) (a : Rule) (most : ℕ) → Only s.rules id a → most_values a ≡ most → length (values_of id rows) ≤ most
  list-length id a most only is =
      row_holds id a (λ o. length (unwrap_or (option_map (λ r. r.values) o) []) ≤ most) only (λ r. fits_most a r.values r.reading most is) (λ none. omega arith)

  -- a list that has to be there
  pub list-filled : (id : Text) (a : Rule) (least : ℕ) → Only s.rules id a → a.required ≡ true → (unwrap_or_range a.range).start_inclusive ≡ least
      → least ≤ length (values_of id rows)
  list-filled id a least only required is =
      row_holds id a (λ o. least ≤ length (unwrap_or (option_map (λ r. r.values) o) [])) only (λ r. fits_least a r.values r.reading least is)
      (λ none. let bad : false ≡ true = sym none ∙ has_required id a only required in cc)

  -- a list of numbers
  pub numbers-in_range : (id : Text) (a : Rule) (top least most : ℕ) → Only s.rules id a → a.parser ≡ Some (Unsigned least most) → nat_le most top ≡ true
      → AreNumbersIn top least most id rows
  numbers-in_range id a top least most only parser small =
      let few : most ≤ top = leb-true most top small in
      let each : All (IsUnsignedIn least most) (values_of id rows) =
      row_holds id a (λ o. All (IsUnsignedIn least most) (unwrap_or (option_map (λ r. r.values) o) [])) only
      (λ r. fits_numerals a r.values r.reading least most parser) (λ none. All-nil (IsUnsignedIn least most)) in
      record {
        can_be_read = All-weaker (IsUnsignedIn least most) (IsUnsignedIn 0 top) (λ v is. (is.0, is.1, omega arith, omega (arith, few, is.3))) (values_of id rows) each;
        in_range = All-map (λ n. (least ≤ n) × (n ≤ most)) number_in (values_of id rows)
            (All-weaker (IsUnsignedIn least most) (λ v. (least ≤ number_in v) × (number_in v ≤ most)) (λ v is. (is.2, is.3)) (values_of id rows) each);
      }
