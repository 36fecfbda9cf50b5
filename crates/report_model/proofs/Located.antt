-- The points of the queries that texts stand for are at locations. Crates above cite these lemmas.
use Rattle.std.proofs.Common.{◌≡◌, ℕ, zero, suc, ◌+◌, ◌≤◌, ◌<◌, nat_lt, List, [], ◌∷◌, Bool, true, false, ◌||◌, if◌then◌else◌, map, refl, subst, arith}
use Rattle.std.specs.Prelude.{not, ◌&&◌, Option, Some, None, Result, Ok, Err, codes}
use Rattle.std.specs.Str.{bytes_eq}
use Rattle.std.specs.List.{range_with_len, flat_map, list_any, AllByRecursion}
use Rattle.std.proofs.lemmas.Bool.{ltb-false}
use Rattle.std.proofs.lemmas.List.Elements.{recursion_from_All, All-from_recursion}
use Rattle.lists.specs.FirstTrue.{first_true}
use Rattle.flow_model.specs.declared.InnerSink.{InnerSink}
use Rattle.flow_model.specs.Orders.{inner_cmp}
use Rattle.flow_model.specs.Ranges.{IsLocation}
use Rattle.lists.specs.Sets.{set_of}
use Rattle.lists.proofs.Algebra.{All-set_of}
use Rattle.lists.proofs.Lists.{all-weaken}
use Rattle.report_model.proofs.Each.{all-flat}
use Rattle.report_model.specs.declared.QueryKind.{QueryKind}
use Rattle.report_model.specs.declared.QueryKind.TheVariants.{BadByte, Word, Count, Number, Range}
use Rattle.report_model.specs.Query.{AreLocated}
use Rattle.report_model.specs.Grammar.{Statement, RuleIs, Source, Sink, Points, says, byte_point, memory_unless, register_unless, is_at, is_number, is_time, value_of, count_or_word, memory_at, register_at, memory_of, register_of, rule_of, choice_of, sink_of, statement_of, is_comment, is_bad_byte, read_line, words, points_in, read_lines, lines, first_fault, query_of, unless}
use Rattle.report_model.specs.PointLaws.{PointsOfTexts, PointsTogether}

abbrev IsLocated : InnerSink → Type 0
IsLocated p = IsLocation p.loc

-- the points that are read, if they are, are at locations
abbrev AreRead : Result (List InnerSink) QueryKind → Type 0
AreRead (Ok ps) = AllByRecursion IsLocated ps
AreRead (Err kind) = Unit {0}

-- ---- what `sink mem` and `sink reg` choose

bytes : (a t i n : ℕ) → a + (i + n) ≤ 4294967296 → AllByRecursion IsLocated (map (byte_point a t) (range_with_len i n))
bytes a t i zero h = tt
bytes a t i (suc n) h = (omega (arith, h), bytes a t (i + 1) n (omega (arith, h)))

in_memory : (place size word time : List ℕ) → AreRead (memory_at place size word time)
in_memory place size word time = by (not (is_at word)) (not (is_number place && is_number size && is_time time)) (nat_lt (value_of size) 1) (nat_lt 65536 (value_of size)) (nat_lt 4294967296 (value_of place + value_of size)) refl where
  by : (b c d e f : Bool) → nat_lt 4294967296 (value_of place + value_of size) ≡ f
      → AreRead (memory_unless (first_true ((b, Word) ∷ (c, Number) ∷ (d || e || f, Range) ∷ [])) (value_of place) (value_of size) (value_of time))
  by false false false false false h = let low = ltb-false 4294967296 (value_of place + value_of size) h in bytes (value_of place) (value_of time) 0 (value_of size) (omega (arith, low))
  by b c d e f h = tt

in_register : (register word time : List ℕ) → AreRead (register_at register word time)
in_register register word time = by (not (is_at word)) (not (is_number register && is_time time)) (nat_lt (value_of register) 1) (nat_lt 31 (value_of register)) refl where
  by : (b c d f : Bool) → nat_lt 31 (value_of register) ≡ f → AreRead (register_unless (first_true ((b, Word) ∷ (c, Number) ∷ (d || f, Range) ∷ [])) (value_of register) (value_of time))
  by false false false false h =
      let low = ltb-false 31 (value_of register) h in
      let below : value_of register < 32 = omega (arith, low) in
      ((below, omega arith), ((below, omega arith), ((below, omega arith), ((below, omega arith), tt))))
  by b c d f h = tt

neither : (word : List ℕ) → AreRead (count_or_word word)
neither word = by (is_at word) where
  by : (b : Bool) → AreRead (if b then Err Count else Err Word)
  by true = tt
  by false = tt

of_memory : (more : List (List ℕ)) → AreRead (memory_of more)
of_memory (place ∷ size ∷ word ∷ time ∷ []) = in_memory place size word time
of_memory (place ∷ size ∷ word ∷ more) = neither word
of_memory more = tt

of_register : (more : List (List ℕ)) → AreRead (register_of more)
of_register (register ∷ word ∷ time ∷ []) = in_register register word time
of_register (register ∷ word ∷ more) = neither word
of_register more = tt

-- ---- lines

-- the points that a line says
abbrev AreSaid : Result (Option Statement) QueryKind → Type 0
AreSaid said = AllByRecursion IsLocated (points_in said)

said_points : (r : Result (List InnerSink) QueryKind) → AreRead r → AreSaid (says Points r)
said_points (Ok ps) a = a
said_points (Err kind) a = tt

-- what else is said has no points
said_none : {X : Type 0} (make : X → Statement) → ((x : X) → AreSaid (Ok (Some (make x)))) → (r : Result X QueryKind) → AreSaid (says make r)
said_none make none (Ok x) = none x
said_none make none (Err kind) = tt

in_sink : (operands : List (List ℕ)) → AreSaid (sink_of operands)
in_sink [] = tt
in_sink (word ∷ more) = by (bytes_eq word (codes "mem")) (bytes_eq word (codes "reg")) where
  by : (b c : Bool) → AreSaid (if b then says Points (memory_of more) else if c then says Points (register_of more) else says Sink (choice_of (word ∷ more)))
  by true c = said_points (memory_of more) (of_memory more)
  by false true = said_points (register_of more) (of_register more)
  by false false = said_none Sink (λ choice. tt) (choice_of (word ∷ more))

in_statement : (ws : List (List ℕ)) → AreSaid (statement_of ws)
in_statement [] = tt
in_statement (keyword ∷ operands) = by (bytes_eq keyword (codes "rule")) (bytes_eq keyword (codes "source")) (bytes_eq keyword (codes "sink")) where
  by : (b c d : Bool) → AreSaid (if b then says RuleIs (rule_of operands) else if c then says Source (choice_of operands) else if d then sink_of operands else Err Word)
  by true c d = said_none RuleIs (λ rule. tt) (rule_of operands)
  by false true d = said_none Source (λ choice. tt) (choice_of operands)
  by false false true = in_sink operands
  by false false false = tt

in_line : (line : List ℕ) → AreSaid (read_line line)
in_line line = by (is_comment line) (list_any is_bad_byte line) where
  by : (b c : Bool) → AreSaid (if b then Ok None else if c then Err BadByte else statement_of (words line))
  by false false = in_statement (words line)
  by b c = tt

in_lines : (ls : List (List ℕ)) → AllByRecursion AreSaid (map read_line ls)
in_lines [] = tt
in_lines (l ∷ ls) = (in_line l, in_lines ls)

-- ---- texts, and queries taken together

-- what the lines of a text choose, one after another
pub lines_located : (text : List ℕ) → AreLocated (flat_map points_in (read_lines text))
lines_located text = All-from_recursion IsLocated (flat_map points_in (read_lines text)) (all-flat IsLocated points_in (read_lines text) (in_lines (lines text)))

-- each once, they are at locations too
pub set_located : (points : List InnerSink) → AreLocated points → AreLocated (set_of inner_cmp points)
set_located points a =
    All-from_recursion IsLocated (set_of inner_cmp points) (All-set_of inner_cmp IsLocated points (recursion_from_All IsLocated points a))

pub points_of_texts : PointsOfTexts
points_of_texts text q e = by (first_fault 1 false (read_lines text)) e where
  by : (fault : Option (ℕ × QueryKind)) → unless fault (query_of (read_lines text)) ≡ Ok q → AreLocated q.points
  by None f =
      let same : query_of (read_lines text) ≡ q = cc in
      subst (λ q. AreLocated q.points) same (set_located (flat_map points_in (read_lines text)) (lines_located text))
  by (Some fault) f = cc

pub points_together : PointsTogether
points_together qs a =
    let points = flat_map (λ q. q.points) qs in
    let each = all-weaken (λ q. AreLocated q.points) _ (λ q. recursion_from_All IsLocated q.points) qs (recursion_from_All (λ q. AreLocated q.points) qs a) in
    set_located points (All-from_recursion IsLocated points (all-flat IsLocated (λ q. q.points) qs each))
