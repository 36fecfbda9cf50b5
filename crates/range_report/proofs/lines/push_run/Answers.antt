use Rattle.std.proofs.Common.{◌≡◌, ℕ, ◌+◌, List, [], ◌∷◌, ◌++◌, length, ap, ap₂, ◌∙◌, append_assoc}
use Rattle.std.specs.List.{slice_range}
use Rattle.log_model.specs.Moved.{written}
use Rattle.flow_model.specs.declared.SinkByte.{SinkByte}
use Rattle.printed_names.specs.Quoted.{quoted_text}
use Rattle.source_ranges.specs.Ranges.{span_text}
use Rattle.range_report.specs.Text.{first_of, kind_text, kind_of, ranges_part, sources_of}
use Rattle.range_report.specs.OpenRuns.{rows_of}
use Rattle.range_report.proofs.lines.push_run.Goals as goal

-- one part after the other
joined : (out name quoted kind parts : List ℕ)
    → out ++ name ++ 32 ∷ [] ++ quoted ++ 32 ∷ [] ++ kind ++ parts ++ 10 ∷ []
    ≡ out ++ (name ++ 32 ∷ [] ++ quoted ++ 32 ∷ [] ++ kind ++ parts ++ 10 ∷ [])
joined out name quoted kind parts = simp append_assoc

pub returns : goal.returns
returns c =
    let calls = c.args.moved.now.calls.now in
    let rs = rows_of c.args.run.now in
    let out = c.args.out.now.items in
    let kind = kind_text (kind_of calls rs) in
    let parts = ranges_part calls (sources_of rs) in
    let first : c.first-first.result ≡ first_of rs = c.first-first.ensures in
    let past : c.above-past.result ≡ c.first-first.result.offset + length rs =
    c.above-past.ensures.value ∙ ap (λ (n : ℕ). c.first-first.result.offset + n) c.length.ensures.length in
    let name : span_text c.first-first.result.channel c.from-from.result c.above-past.result
    ≡ span_text (first_of rs).channel (first_of rs).offset ((first_of rs).offset + length rs) =
    ap₂ (span_text c.first-first.result.channel) c.from-from.ensures past
    ∙ ap (λ (b : SinkByte). span_text b.channel b.offset (b.offset + length rs)) first in
    let bytes : c.part.result.now ≡ slice_range (written (first_of rs).channel calls) (first_of rs).offset ((first_of rs).offset + length rs) =
    c.part.ensures
    ∙ ap (λ (all : List ℕ). slice_range all c.from-from.result c.above-past.result) c.written_on.ensures
    ∙ ap₂ (slice_range (written c.first-first.result.channel calls)) c.from-from.ensures past
    ∙ ap (λ (b : SinkByte). slice_range (written b.channel calls) b.offset (b.offset + length rs)) first in
    c.in_ok-push-2.ensures.items
    ∙ ap (λ (text : List ℕ). text ++ 10 ∷ []) (
    c.in_ok-push_origin.ensures
    ∙ ap (λ (text : List ℕ). text ++ 32 ∷ [] ++ kind ++ parts) (
    c.in_ok-push_quoted.ensures
    ∙ ap₂ (λ (text all : List ℕ). text ++ quoted_text all) (
    c.in_ok-push.ensures.items
    ∙ ap (λ (text : List ℕ). text ++ 32 ∷ []) (c.in_ok-push_span.ensures ∙ ap (λ (text : List ℕ). out ++ text) name)) bytes))
    ∙ joined out (span_text (first_of rs).channel (first_of rs).offset ((first_of rs).offset + length rs))
    (quoted_text (slice_range (written (first_of rs).channel calls) (first_of rs).offset ((first_of rs).offset + length rs))) kind parts
