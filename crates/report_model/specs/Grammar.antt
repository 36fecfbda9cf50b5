-- The query language: the query that a text stands for, or its first fault with the number of the line.
use Rattle.std.specs.Prelude.{ℕ, ◌+◌, ◌==◌, nat_lt, nat_le, Bool, false, not, ◌&&◌, ◌||◌, if◌then◌else◌, List, [], ◌∷◌, map, length, codes, Option, Some, None, is_some, unwrap_or, Result, Ok, Err}
use Rattle.std.specs.List.{filter, flat_map, list_any, range_with_len, slice_split}
use Rattle.std.specs.Str.{bytes_eq, all_ascii_digits}
use Rattle.std.specs.Str.Parse.{digits_value}
use Rattle.lists.specs.FirstTrue.{first_true}
use Rattle.lists.specs.Sets.{set_of}
use Rattle.flow_model.specs.declared.InnerSink.{InnerSink}
use Rattle.flow_model.specs.declared.Loc.TheVariants.{Reg, Mem}
use Rattle.flow_model.specs.declared.Rule.{Rule}
use Rattle.flow_model.specs.declared.Rule.TheVariants.{Copy, Keep, Compute, Index}
use Rattle.flow_model.specs.Orders.{inner_cmp}
use Rattle.report_model.specs.declared.QueryKind.{QueryKind}
use Rattle.report_model.specs.declared.QueryKind.TheVariants.{BadByte, Word, Count, Number, Channel, Range, SecondRule, NoRule}
use Rattle.report_model.specs.Query.{Query, Choice}

-- ---- lines and words

abbrev pub without_last_cr : List ℕ → List ℕ
without_last_cr [] = []
without_last_cr (b ∷ []) = if b == 0x0d then [] else b ∷ []
without_last_cr (b ∷ c ∷ bs) = b ∷ without_last_cr (c ∷ bs)

-- all parts but the last stand before a line feed, and lose a carriage return at their end
abbrev pub lines_of_parts : List (List ℕ) → List (List ℕ)
lines_of_parts [] = []
lines_of_parts (last ∷ []) = last ∷ []
lines_of_parts (part ∷ next ∷ parts) = without_last_cr part ∷ lines_of_parts (next ∷ parts)

-- the lines of a text. What stands after the last line feed is a line too; where it is empty it says nothing
abbrev pub lines : List ℕ → List (List ℕ)
lines text = lines_of_parts (slice_split (λ b. b == 0x0a) text)

abbrev pub is_blank : ℕ → Bool
is_blank b = (b == 0x20) || (b == 0x09)

-- the words of a line, which blanks and tabs separate
abbrev pub words : List ℕ → List (List ℕ)
words line = filter (λ word. nat_lt 0 (length word)) (slice_split is_blank line)

-- the first byte other than blank and tab is `#`
abbrev pub is_comment : List ℕ → Bool
is_comment [] = false
is_comment (b ∷ bs) = if is_blank b then is_comment bs else b == 0x23

abbrev pub is_bad_byte : ℕ → Bool
is_bad_byte b = not ((b == 0x09) || (nat_le 0x20 b && nat_le b 0x7e))

-- 1 to 10 decimal digits, at most 4294967295
abbrev pub is_number : List ℕ → Bool
is_number word = nat_lt 0 (length word) && nat_le (length word) 10 && all_ascii_digits word && nat_le (digits_value 10 word) 4294967295

-- 1 to 13 decimal digits, at most 1099511627776
abbrev pub is_time : List ℕ → Bool
is_time word = nat_lt 0 (length word) && nat_le (length word) 13 && all_ascii_digits word && nat_le (digits_value 10 word) 1099511627776

abbrev pub value_of : List ℕ → ℕ
value_of word = digits_value 10 word

-- x, unless there is a fault
abbrev pub unless : {X E : Type 0} → Option E → X → Result X E
unless None x = Ok x
unless (Some fault) x = Err fault

-- ---- rules and choices

abbrev pub rule_named : List ℕ → Option Rule
rule_named word =
    if bytes_eq word (codes "copy") then Some Copy else
    if bytes_eq word (codes "keep") then Some Keep else
    if bytes_eq word (codes "compute") then Some Compute else
    if bytes_eq word (codes "index") then Some Index else None

abbrev pub rule_alone : Option Rule → List (List ℕ) → Result Rule QueryKind
rule_alone None more = Err Word
rule_alone (Some rule) [] = Ok rule
rule_alone (Some rule) (word ∷ more) = Err Count

-- the words after `rule`: the name of a rule, and no more
abbrev pub rule_of : List (List ℕ) → Result Rule QueryKind
rule_of [] = Err Count
rule_of (name ∷ more) = rule_alone (rule_named name) more

-- `C` chooses all bytes of a channel
abbrev pub channel_of : List ℕ → Result Choice QueryKind
channel_of channel = unless
    (first_true (
    (not (is_number channel), Number) ∷
    (nat_lt 15 (value_of channel), Channel) ∷ []
    ))
    (record { channel = Some (value_of channel); offsets = None })

-- `C A B` chooses the offsets A to B of a channel, without B
abbrev pub range_of : List ℕ → List ℕ → List ℕ → Result Choice QueryKind
range_of channel from past = unless
    (first_true (
    (not (is_number channel && is_number from && is_number past), Number) ∷
    (nat_lt 15 (value_of channel), Channel) ∷
    (nat_lt (value_of past) (value_of from), Range) ∷ []
    ))
    (record { channel = Some (value_of channel); offsets = Some (record { from = value_of from; past = value_of past }) })

abbrev pub everything : Choice
everything = record { channel = None; offsets = None }

abbrev pub is_all : List ℕ → Bool
is_all word = bytes_eq word (codes "all")

-- the words after `source`, or after `sink` where the first is neither `mem` nor `reg`: `all`, or `C`, or `C A B`
abbrev pub choice_of : List (List ℕ) → Result Choice QueryKind
choice_of [] = Err Count
choice_of (word ∷ []) = if is_all word then Ok everything else channel_of word
choice_of (word ∷ from ∷ []) = Err Count
choice_of (word ∷ from ∷ past ∷ []) = if is_all word then Err Count else range_of word from past
choice_of (word ∷ from ∷ past ∷ next ∷ more) = Err Count

-- ---- points inside the run

abbrev pub byte_point : ℕ → ℕ → ℕ → InnerSink
byte_point a t i = record { time = t; loc = Mem (a + i) }

-- n bytes of memory from address a on, after t steps
abbrev pub points_of_memory : ℕ → ℕ → ℕ → List InnerSink
points_of_memory a n t = map (byte_point a t) (range_with_len 0 n)

abbrev pub lane_point : ℕ → ℕ → ℕ → InnerSink
lane_point r t i = record { time = t; loc = Reg r i }

-- the four lanes of register r, after t steps
abbrev pub points_of_register : ℕ → ℕ → List InnerSink
points_of_register r t = map (lane_point r t) (range_with_len 0 4)

-- these points, unless there is a fault
abbrev pub memory_unless : Option QueryKind → ℕ → ℕ → ℕ → Result (List InnerSink) QueryKind
memory_unless None a n t = Ok (points_of_memory a n t)
memory_unless (Some fault) a n t = Err fault

abbrev pub register_unless : Option QueryKind → ℕ → ℕ → Result (List InnerSink) QueryKind
register_unless None r t = Ok (points_of_register r t)
register_unless (Some fault) r t = Err fault

abbrev pub is_at : List ℕ → Bool
is_at word = bytes_eq word (codes "at")

-- too few or too many words, one of which is to be `at`
abbrev pub count_or_word : List ℕ → Result (List InnerSink) QueryKind
count_or_word word = if is_at word then Err Count else Err Word

-- `A L at T` chooses L bytes from address A on, at time T: 1 to 65536 of them, below 2^32
abbrev pub memory_at : List ℕ → List ℕ → List ℕ → List ℕ → Result (List InnerSink) QueryKind
memory_at place size word time = memory_unless
    (first_true (
    (not (is_at word), Word) ∷
    (not (is_number place && is_number size && is_time time), Number) ∷
    (nat_lt (value_of size) 1 || nat_lt 65536 (value_of size) || nat_lt 4294967296 (value_of place + value_of size), Range) ∷ []
    ))
    (value_of place) (value_of size) (value_of time)

-- `R at T` chooses the lanes of register R at time T, of register 1 to 31
abbrev pub register_at : List ℕ → List ℕ → List ℕ → Result (List InnerSink) QueryKind
register_at register word time = register_unless
    (first_true (
    (not (is_at word), Word) ∷
    (not (is_number register && is_time time), Number) ∷
    (nat_lt (value_of register) 1 || nat_lt 31 (value_of register), Range) ∷ []
    ))
    (value_of register) (value_of time)

-- the words after `sink mem`
abbrev pub memory_of : List (List ℕ) → Result (List InnerSink) QueryKind
memory_of [] = Err Count
memory_of (place ∷ []) = Err Count
memory_of (place ∷ size ∷ []) = Err Count
memory_of (place ∷ size ∷ word ∷ []) = count_or_word word
memory_of (place ∷ size ∷ word ∷ time ∷ []) = memory_at place size word time
memory_of (place ∷ size ∷ word ∷ time ∷ next ∷ more) = count_or_word word

-- the words after `sink reg`
abbrev pub register_of : List (List ℕ) → Result (List InnerSink) QueryKind
register_of [] = Err Count
register_of (register ∷ []) = Err Count
register_of (register ∷ word ∷ []) = count_or_word word
register_of (register ∷ word ∷ time ∷ []) = register_at register word time
register_of (register ∷ word ∷ time ∷ next ∷ more) = count_or_word word

-- ---- lines

-- what a line says
pub data Statement : Type 0 where
  RuleIs : Rule → Statement
  Source : Choice → Statement
  Sink : Choice → Statement
  Points : List InnerSink → Statement

abbrev pub says : {X : Type 0} → (X → Statement) → Result X QueryKind → Result (Option Statement) QueryKind
says f (Ok x) = Ok (Some (f x))
says f (Err kind) = Err kind

-- the words after `sink`
abbrev pub sink_of : List (List ℕ) → Result (Option Statement) QueryKind
sink_of [] = Err Count
sink_of (word ∷ more) =
    if bytes_eq word (codes "mem") then says Points (memory_of more) else
    if bytes_eq word (codes "reg") then says Points (register_of more) else
    says Sink (choice_of (word ∷ more))

-- what the words of a line say, or their fault: without words it says nothing
abbrev pub statement_of : List (List ℕ) → Result (Option Statement) QueryKind
statement_of [] = Ok None
statement_of (keyword ∷ operands) =
    if bytes_eq keyword (codes "rule") then says RuleIs (rule_of operands) else
    if bytes_eq keyword (codes "source") then says Source (choice_of operands) else
    if bytes_eq keyword (codes "sink") then sink_of operands else
    Err Word

-- a comment says nothing, and may have any bytes
abbrev pub read_line : List ℕ → Result (Option Statement) QueryKind
read_line line =
    if is_comment line then Ok None else
    if list_any is_bad_byte line then Err BadByte else
    statement_of (words line)

-- ---- what the lines of a text say

abbrev pub rule_in : Result (Option Statement) QueryKind → Option Rule
rule_in (Err kind) = None
rule_in (Ok None) = None
rule_in (Ok (Some (RuleIs rule))) = Some rule
rule_in (Ok (Some (Source choice))) = None
rule_in (Ok (Some (Sink choice))) = None
rule_in (Ok (Some (Points points))) = None

abbrev pub sources_in : Result (Option Statement) QueryKind → List Choice
sources_in (Err kind) = []
sources_in (Ok None) = []
sources_in (Ok (Some (RuleIs rule))) = []
sources_in (Ok (Some (Source choice))) = choice ∷ []
sources_in (Ok (Some (Sink choice))) = []
sources_in (Ok (Some (Points points))) = []

abbrev pub sinks_in : Result (Option Statement) QueryKind → List Choice
sinks_in (Err kind) = []
sinks_in (Ok None) = []
sinks_in (Ok (Some (RuleIs rule))) = []
sinks_in (Ok (Some (Source choice))) = []
sinks_in (Ok (Some (Sink choice))) = choice ∷ []
sinks_in (Ok (Some (Points points))) = []

abbrev pub points_in : Result (Option Statement) QueryKind → List InnerSink
points_in (Err kind) = []
points_in (Ok None) = []
points_in (Ok (Some (RuleIs rule))) = []
points_in (Ok (Some (Source choice))) = []
points_in (Ok (Some (Sink choice))) = []
points_in (Ok (Some (Points points))) = points

-- the fault of a line, which may or may not come after a rule: a second rule is one
abbrev pub line_fault : Bool → Result (Option Statement) QueryKind → Option QueryKind
line_fault after_rule (Err kind) = Some kind
line_fault after_rule (Ok None) = None
line_fault after_rule (Ok (Some (RuleIs rule))) = if after_rule then Some SecondRule else None
line_fault after_rule (Ok (Some (Source choice))) = None
line_fault after_rule (Ok (Some (Sink choice))) = None
line_fault after_rule (Ok (Some (Points points))) = None

abbrev pub or_later : ℕ → Option QueryKind → Option (ℕ × QueryKind) → Option (ℕ × QueryKind)
or_later n (Some kind) later = Some (n, kind)
or_later n None later = later

-- the first fault of lines of which the first has the number n; line 0 stands for the whole text
abbrev pub first_fault : ℕ → Bool → List (Result (Option Statement) QueryKind) → Option (ℕ × QueryKind)
first_fault n after_rule [] = if after_rule then None else Some (0, NoRule)
first_fault n after_rule (line ∷ rest) =
    or_later n (line_fault after_rule line) (first_fault (n + 1) (after_rule || is_some (rule_in line)) rest)

-- the rule that the first of the lines names that names one
abbrev pub rule_among : List (Result (Option Statement) QueryKind) → Rule
rule_among [] = Copy
rule_among (line ∷ rest) = unwrap_or (rule_in line) (rule_among rest)

-- what all lines say together: of the points each once, by time and then location
abbrev pub query_of : List (Result (Option Statement) QueryKind) → Query
query_of said = record {
  rule = rule_among said;
  sources = flat_map sources_in said;
  sinks = flat_map sinks_in said;
  points = set_of inner_cmp (flat_map points_in said);
}

-- ---- what a text says

-- what each of its lines says
abbrev pub read_lines : List ℕ → List (Result (Option Statement) QueryKind)
read_lines text = map read_line (lines text)

-- the query that a text stands for, or the line and the kind of its first fault
abbrev pub query : List ℕ → Result Query (ℕ × QueryKind)
query text = unless (first_fault 1 false (read_lines text)) (query_of (read_lines text))
