use Rattle.std.proofs.Common.{refl, ◌≡◌, [], length, ap, sym, ◌∙◌}
use Rattle.run_output.specs.Calls.{lines}
use Rattle.run_output.proofs.Lines.{length-lines_after}
use Rattle.run_output.proofs.writing.calls_text.Goals as goal

pub returns : goal.returns
returns c =
    let log = c.args.log.now in
    let rs = c.records.result.now in
    let count : length rs ≡ length (lines log) = ap length c.records.ensures ∙ sym (length-lines_after [] log.records) in
    rw (c.in_ok-push_lines_end.ensures, c.in_ok-push_end.ensures, c.in_ok-push_calls.ensures, c.new-out.ensures.items, c.end.ensures, count) refl
