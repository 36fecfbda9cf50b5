-- Worked examples of queries, computed by the checker.
use Rattle.std.proofs.Common.{◌≡◌, ℕ, List, [], ◌∷◌, map, refl}
use Prim.Native.String.{String}
use Rattle.std.specs.Prelude.{◌++◌, codes, Some, None, Result, Ok, Err}
use Rattle.std.specs.List.{flat_map}
use Rattle.std.specs.Fmt.{digits}
use Rattle.flow_model.specs.declared.Rule.{Rule}
use Rattle.flow_model.specs.declared.Rule.TheVariants.{Copy, Keep, Compute, Index}
use Rattle.report_model.specs.declared.QueryKind.{QueryKind}
use Rattle.report_model.specs.declared.QueryKind.TheVariants.{BadByte, Word, Count, Number, Channel, Range, SecondRule, NoRule}
use Rattle.flow_model.specs.declared.InnerSink.{InnerSink}
use Rattle.flow_model.specs.declared.Loc.TheVariants.{Reg, Mem}
use Rattle.flow_model.specs.declared.SinkPoint.TheVariants.{Out, At}
use Rattle.report_model.specs.Grammar.{query, everything, points_of_memory, points_of_register}
use Rattle.report_model.specs.Query.{Query}
use Rattle.report_model.specs.Text.{point_text}
use Rattle.report_model.specs.Together.{together, first_other_rule}

-- everything is a source and a sink
abbrev all_by : Rule → Query
all_by rule = record { rule = rule; sources = everything ∷ []; sinks = everything ∷ []; points = [] }

abbrev of_lines : List String → List ℕ
of_lines ls = flat_map (λ l. codes l ++ 0x0a ∷ []) ls

good : map (λ rule. query (of_lines (rule ∷ "source all" ∷ "sink all" ∷ []))) ("rule copy" ∷ "rule keep" ∷ "rule index" ∷ []) ≡ map (λ rule. Ok (all_by rule)) (Copy ∷ Keep ∷ Index ∷ [])
good = refl

-- in any order, with spaces, comments and empty lines
in_any_order : query (of_lines ("sink all" ∷ "  rule   compute" ∷ "# a comment" ∷ "" ∷ "source all" ∷ [])) ≡ Ok (all_by Compute)
in_any_order = refl

-- a carriage return before a line feed is dropped; the last line feed may be missing; tabs separate words
other_ends : query (codes "rule copy" ++ 0x0d ∷ 0x0a ∷ codes "source 0 1 2" ++ 0x0d ∷ 0x0a ∷ 0x09 ∷ codes "sink all") ≡ Ok (record { rule = Copy; sources = record { channel = Some 0; offsets = Some (record { from = 1; past = 2 }) } ∷ []; sinks = everything ∷ []; points = [] })
other_ends = refl

-- each of these lines alone is refused as this
abbrev AllRefused : QueryKind → List String → Type 0
AllRefused kind lines = map (λ line. query (codes line)) lines ≡ map (λ line. Err (1, kind)) lines

refused :
    AllRefused Word ("rule keeps" ∷ "rule cop" ∷ "rule x y" ∷ "sink mem 5 4 on 7" ∷ "sink mem 5 at 7" ∷ "sink reg 5 7 at 9" ∷ [])
    × AllRefused Count ("rule copy x" ∷ "rule" ∷ "source all 1 2" ∷ "source 0 5" ∷ "sink mem" ∷ "sink reg" ∷ "sink mem 5 4 at" ∷ "sink reg 5" ∷ "sink mem x 4 at 7 8" ∷ "sink reg 0 at 7 8" ∷ [])
    × AllRefused Number ("source al" ∷ "source 0 5 4294967296" ∷ "sink mem x 0 at 7" ∷ "sink mem 5 4 at 1099511627777" ∷ "sink reg 0 at 00000000000001" ∷ "sink reg x1 at 7" ∷ "source mem" ∷ [])
    × AllRefused Channel ("sink 16 3 2" ∷ "sink 16" ∷ [])
    × AllRefused Range ("sink reg 0 at 5" ∷ "sink reg 32 at 5" ∷ "sink mem 5 0 at 7" ∷ "sink mem 5 65537 at 7" ∷ "sink mem 4294967295 2 at 7" ∷ [])
refused = (refl, refl, refl, refl, refl)

second_lines : map (λ line. query (of_lines ("rule copy" ∷ line ∷ []))) ("sink 1 3 2" ∷ "rule copy" ∷ []) ≡ Err (2, Range) ∷ Err (2, SecondRule) ∷ []
second_lines = refl

-- a comment may be of any bytes
no_rule : map query ((0x23 ∷ 0xff ∷ 0x0a ∷ codes "sink all") ∷ [] ∷ []) ≡ Err (0, NoRule) ∷ Err (0, NoRule) ∷ []
no_rule = refl

-- a carriage return alone is one of these too
bad_bytes : map query ((0x07 ∷ []) ∷ (codes "rule copy" ++ 0x0d ∷ []) ∷ (codes "rule copy" ++ 0x0d ∷ 0x0d ∷ 0x0a ∷ []) ∷ (codes "sink mem 5 at " ++ 0x07 ∷ []) ∷ []) ≡ (Err (1, BadByte) ∷ Err (1, BadByte) ∷ Err (1, BadByte) ∷ Err (1, BadByte) ∷ [])
bad_bytes = refl

-- ---- points inside the run

-- what a line says after a rule
abbrev second_line : String → Result Query (ℕ × QueryKind)
second_line line = query (of_lines ("rule copy" ∷ line ∷ []))

abbrev of_points : List InnerSink → Query
of_points points = record { rule = Copy; sources = []; sinks = []; points = points }

some_points :
    (second_line "sink mem 4096 2 at 7" ≡ Ok (of_points (record { time = 7; loc = Mem 4096 } ∷ record { time = 7; loc = Mem 4097 } ∷ [])))
    × (second_line "sink reg 5 at 0" ≡ Ok (of_points (record { time = 0; loc = Reg 5 0 } ∷ record { time = 0; loc = Reg 5 1 } ∷ record { time = 0; loc = Reg 5 2 } ∷ record { time = 0; loc = Reg 5 3 } ∷ [])))
    × (second_line "sink mem 4294967295 1 at 1099511627776" ≡ Ok (of_points (record { time = 1099511627776; loc = Mem 4294967295 } ∷ [])))
some_points = (refl, refl, refl)

-- points of both kinds beside output bytes: by time, registers before memory, and what two lines choose once
both_kinds : query (of_lines ("rule copy" ∷ "sink mem 9 2 at 3" ∷ "sink all" ∷ "sink mem 8 2 at 3" ∷ "sink reg 31 at 3" ∷ "sink mem 0 1 at 2" ∷ []))
    ≡ Ok (record { rule = Copy; sources = []; sinks = everything ∷ []; points = points_of_memory 0 1 2 ++ points_of_register 31 3 ++ points_of_memory 8 3 3 })
both_kinds = refl

names : map point_text (Out (record { channel = 1; offset = 20 }) ∷ At (record { time = 30; loc = Mem 4096 }) ∷ At (record { time = 30; loc = Reg 5 2 }) ∷ []) ≡ map codes ("1:20" ∷ "m:4096@30" ∷ "r:5.2@30" ∷ [])
unfolding digits
names = refl

-- ---- several queries

other_rules : map (λ rules. first_other_rule (map all_by rules)) ((Index ∷ Index ∷ []) ∷ (Copy ∷ Copy ∷ Index ∷ Compute ∷ []) ∷ (Keep ∷ Copy ∷ []) ∷ []) ≡ None ∷ Some (Copy, 3, Index) ∷ Some (Keep, 2, Copy) ∷ []
other_rules = refl

points_of_both : together (of_points (points_of_memory 8 2 3) ∷ of_points (points_of_register 1 3 ++ points_of_memory 9 2 3) ∷ []) ≡ of_points (points_of_register 1 3 ++ points_of_memory 8 3 3)
points_of_both = refl
