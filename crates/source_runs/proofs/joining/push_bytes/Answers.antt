use Rattle.std.proofs.Common.{◌++◌, List, ap, sym, ◌∙◌, get_or, take, arith}
use Rattle.std.proofs.lemmas.List.{flat_map_more, take_all, take_more}
use Rattle.flow_model.specs.declared.SourceByte.{SourceByte}
use Rattle.source_runs.specs.declared.runs.SourceRun.{SourceRun}
use Rattle.source_runs.specs.Runs.{all_bytes, bytes_of}
use Rattle.source_runs.proofs.joining.push_bytes.Goals as goal

abbrev none : SourceRun
none = record { channel = 0; first = 0; last = 0 }

pub loop-run-preserved : goal.loop-run-preserved
loop-run-preserved c =
    let runs = c.args.runs.now in
    let index = c.loop-run.run-index in
    let out = c.args.out.now.items in
    let run = get_or runs index none in
    c.in_ok-push_run.ensures ∙ ap (λ (bs : List SourceByte). bs ++ bytes_of run) c.loop-run.invariant
    ∙ flat_map_more bytes_of out (take index runs) run
    ∙ ap (λ (rs : List SourceRun). out ++ all_bytes rs) (sym (take_more runs index none c.loop-run-test.true))

pub returns : goal.returns
returns c =
    c.loop-run.invariant
    ∙ ap (λ (rs : List SourceRun). c.args.out.now.items ++ all_bytes rs) (take_all c.loop-run.run-index c.args.runs.now (omega (arith, c.loop-run-test.false)))
