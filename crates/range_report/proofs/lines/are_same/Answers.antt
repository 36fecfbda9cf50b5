use Rattle.std.proofs.Common.{◌≡◌, ℕ, ◌+◌, ◌-◌, List, get_or, sym, ap, ap₂, ◌∙◌, arith}
use Rattle.std.specs.List.{list_all}
use Rattle.range_report.specs.Text.{byte_written, byte_received, holds_sources}
use Rattle.source_ranges.specs.Ranges.{byte_on}
use Rattle.range_report.specs.OpenRuns.{moved_rows}
use Rattle.range_report.proofs.MovedLines.{holds-first}
use Rattle.range_report.proofs.lines.are_same.Goals as goal

pub loop-i-preserved : goal.loop-i-preserved
loop-i-preserved c =
    let calls = c.args.moved.now.calls.now in
    let m = c.args.run.now in
    let i = c.loop-i.i in
    let o = m.first.offset in
    let e = m.source.offset in
    let same : byte_written calls (record { channel = m.first.channel; offset = o + i }) ≡ byte_received calls (byte_on m.source.channel (e + i)) =
    ap₂ (λ (bytes : List ℕ) (k : ℕ). get_or bytes k 0) (sym c.written_on-written.ensures) (sym c.above.ensures.value)
    ∙ sym c.byte_at-sink.ensures ∙ c.if-sink-source.false ∙ c.byte_at-source.ensures
    ∙ ap₂ (λ (bytes : List ℕ) (k : ℕ). get_or bytes k 0) c.received_on-received.ensures c.above-in-loop-i.ensures.value in
    let sink : o + (i + 1) ≡ o + i + 1 = omega arith in
    let source : e + (i + 1) ≡ e + i + 1 = omega arith in
    let rest : m.length - (i + 1) ≡ m.length - i - 1 = omega arith in
    ap₂ (λ (a b : ℕ). list_all (holds_sources calls) (moved_rows m.first.channel a m.source.channel b (m.length - (i + 1)))) sink source
    ∙ ap (λ (k : ℕ). list_all (holds_sources calls) (moved_rows m.first.channel (o + i + 1) m.source.channel (e + i + 1) k)) rest
    ∙ holds-first calls m.first.channel (o + i) m.source.channel (e + i) (m.length - i) (omega (arith, c.loop-i-test.true)) same
    ∙ c.loop-i.invariant
