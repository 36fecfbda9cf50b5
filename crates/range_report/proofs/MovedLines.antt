-- What a line tells of moved rows.
use Rattle.std.proofs.Common.{◌≡◌, ℕ, zero, suc, ◌+◌, ◌-◌, ◌<◌, ◌≤◌, ◌==◌, Bool, true, ◌&&◌, List, [], ◌∷◌, sym, ap, ◌∙◌, arith, eq-eqb, append-nil}
use Rattle.std.specs.Prelude.{if◌then◌else◌}
use Rattle.std.specs.List.{flat_map, list_all}
use Rattle.log_model.specs.declared.CallRecord.{CallRecord}
use Rattle.report_model.specs.Rows.{Row}
use Rattle.source_ranges.specs.Ranges.{byte_on}
use Rattle.range_report.proofs.Texts.{one_range}
use Rattle.range_report.specs.declared.RunKind.TheVariants.{Same, Changed, Shared}
use Rattle.range_report.specs.Text.{byte_written, byte_received, holds_sources, kind_of, range_part, ranges_part, sources_of}
use Rattle.range_report.specs.OpenRuns.{moved_rows}
use Rattle.range_report.proofs.Rows.{moved-is, moved-sources}

-- the kind of moved rows is told by their bytes
pub moved-kind : (calls : List CallRecord) (c o d e n : ℕ)
    → kind_of calls (moved_rows c o d e n) ≡ (if list_all (holds_sources calls) (moved_rows c o d e n) then Same else Changed)
moved-kind calls c o d e n =
    ap (λ (b : Bool). if b then (if list_all (holds_sources calls) (moved_rows c o d e n) then Same else Changed) else Shared) (moved-is c o d e n)

-- they have one range
pub moved-parts : (calls : List CallRecord) (c o d e n : ℕ) → 1 ≤ n
    → ranges_part calls (sources_of (moved_rows c o d e n)) ≡ range_part calls (record { channel = d; from = e; past = e + n })
moved-parts calls c o d e zero low = absurd (omega arith)
moved-parts calls c o d e (suc n) low =
    let rs = moved_rows c o d e (suc n) in
    let sources = ap (λ (b : Bool). if b then flat_map (λ (r : Row). r.sources) rs else (byte_on d e ∷ [])) (moved-is c o d e (suc n)) in
    ap (ranges_part calls) (sources ∙ moved-sources c o d e (suc n))
    ∙ ap (flat_map (range_part calls)) (one_range d e n)
    ∙ append-nil (range_part calls (record { channel = d; from = e; past = e + suc n }))

-- where the first of moved rows holds its source, the rest decides
pub holds-first : (calls : List CallRecord) (c o d e n : ℕ) → 0 < n
    → byte_written calls (record { channel = c; offset = o }) ≡ byte_received calls (byte_on d e)
    → list_all (holds_sources calls) (moved_rows c (o + 1) d (e + 1) (n - 1)) ≡ list_all (holds_sources calls) (moved_rows c o d e n)
holds-first calls c o d e zero low same = absurd (omega arith)
holds-first calls c o d e (suc n) low same =
    let less : suc n - 1 ≡ n = omega arith in
    let test : (byte_written calls (record { channel = c; offset = o }) == byte_received calls (byte_on d e)) ≡ true =
    eq-eqb (byte_written calls (record { channel = c; offset = o })) (byte_received calls (byte_on d e)) same in
    ap (λ (k : ℕ). list_all (holds_sources calls) (moved_rows c (o + 1) d (e + 1) k)) less
    ∙ ap (λ (b : Bool). (b && true) && list_all (holds_sources calls) (moved_rows c (o + 1) d (e + 1) n)) (sym test)
