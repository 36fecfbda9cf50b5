use Rattle.std.proofs.Common.{refl, ◌≡◌, ℕ, ◌+◌, Bool, List, [], ◌∷◌, ◌++◌, sym, ap, ap₂, ◌∙◌, subst, OnOk}
use Rattle.std.specs.Prelude.{if◌then◌else◌}
use Rattle.source_ranges.specs.declared.SourceRange.{SourceRange}
use Rattle.range_report.specs.declared.RunKind.{RunKind}
use Rattle.range_report.specs.declared.RunKind.TheVariants.{Same, Changed}
use Rattle.range_report.specs.Text.{kind_text, kind_of, range_part, ranges_part, sources_of}
use Rattle.range_report.specs.OpenRuns.{rows_moved}
use Rattle.range_report.proofs.MovedLines.{moved-kind, moved-parts}
use Rattle.range_report.proofs.lines.push_moved.Goals as goal
use Rattle.range_report.proofs.lines.push_moved.Goals.{then-are_same, else-are_same}

pub returns : goal.returns
returns c =
    let calls = c.args.moved.now.calls.now in
    let m = c.args.run.now in
    let out = c.args.out.now.items in
    let kind = c.if-are_same.kind in
    let same : kind ≡ (if c.are_same.result then Same else Changed) =
    elim c.if-are_same.branch [
      | then-are_same w ↦ rw (w.kind-is, w.if-are_same.true) refl
      | else-are_same w ↦ rw (w.kind-is, w.if-are_same.false) refl
    ] in
    let is : kind ≡ kind_of calls (rows_moved m) =
    same ∙ ap (λ (b : Bool). if b then Same else Changed) c.are_same.ensures
    ∙ sym (moved-kind calls m.first.channel m.first.offset m.source.channel m.source.offset m.length) in
    let range : SourceRange = record { channel = m.source.channel; from = m.source.offset; past = m.source.offset + m.length } in
    let parts : range_part calls range ≡ ranges_part calls (sources_of (rows_moved m)) =
    sym (moved-parts calls m.first.channel m.first.offset m.source.channel m.source.offset m.length c.requires.some) in
    let whole : c.push_kind.new.out.items ++ range_part calls (record { channel = m.source.channel; from = c.from.result; past = c.above.result })
    ≡ out ++ 32 ∷ [] ++ kind_text (kind_of calls (rows_moved m)) ++ ranges_part calls (sources_of (rows_moved m)) =
    ap₂ (λ (text : List ℕ) (r : SourceRange). text ++ range_part calls r) c.in_ok-push_kind.ensures
    (ap₂ (λ (a b : ℕ). let r : SourceRange = record { channel = m.source.channel; from = a; past = b } in r) c.from.ensures c.above.ensures.value)
    ∙ ap₂ (λ (k : RunKind) (text : List ℕ). out ++ 32 ∷ [] ++ kind_text k ++ text) is parts in
    subst (λ (text : List ℕ). OnOk c.push_part.result (c.push_part.new.out.items ≡ text)) whole c.push_part.ensures
