use Rattle.std.proofs.Common.{arith, ◌≡◌, ◌+◌, ◌-◌, ◌≤◌, ◌++◌, [], ◌∷◌, List, ap, sym, ◌∙◌, append_assoc}
use Rattle.std.proofs.lemmas.List.FromFn.{map-range_with_len_more}
use Rattle.flow_model.specs.declared.SourceByte.{SourceByte}
use Rattle.source_runs.specs.Runs.{byte_on, bytes_from}
use Rattle.source_runs.proofs.joining.push_run.Goals as goal

pub loop-offset-preserved : goal.loop-offset-preserved
loop-offset-preserved c =
    let run = c.args.run in
    let offset = c.loop-offset.offset in
    let out = c.args.out.now.items in
    let low : run.first ≤ offset = c.loop-offset.invariant.low in
    let count : (offset - run.first) + 1 ≡ offset + 1 - run.first = omega (arith, low) in
    let at : run.first + (offset - run.first) ≡ offset = omega (arith, low) in
    record {
      low = omega (arith, low);
      high = omega (arith, c.loop-offset-test.true);
      pushed = c.in_ok-push.ensures.items ∙ ap (λ (bs : List SourceByte). bs ++ byte_on run.channel offset ∷ []) c.loop-offset.invariant.pushed
          ∙ append_assoc out (bytes_from run.channel run.first (offset - run.first)) (byte_on run.channel offset ∷ [])
          ∙ ap (λ (bs : List SourceByte). out ++ bs) (sym (map-range_with_len_more (byte_on run.channel) run.first (offset - run.first) offset at))
          ∙ ap (λ n. out ++ bytes_from run.channel run.first n) count;
    }

pub returns : goal.returns
returns c =
    let run = c.args.run in
    let count : c.loop-offset.offset - run.first ≡ run.last + 1 - run.first = omega (arith, c.loop-offset.invariant.low, c.loop-offset.invariant.high, c.loop-offset-test.false) in
    c.loop-offset.invariant.pushed ∙ ap (λ n. c.args.out.now.items ++ bytes_from run.channel run.first n) count
