use Rattle.std.proofs.Common.{ap, sym, subst, ◌∙◌}
use Rattle.std.specs.Prelude.{Result, Ok, Err, IfOk}
use Rattle.std.specs.Result.{result_ok}
use Rattle.no_memory.specs.declared.NoMemory.{NoMemory}
use Rattle.replayer.specs.Jobs.{trace_of}
use Rattle.epoch_summary.specs.declared.summary.Summary.{Summary}
use Rattle.epoch_summary.specs.Summaries.{summary_of}
use Rattle.pass_parts.proofs.Known.{known_is_summary}
use Rattle.backward_pass.specs.Backward.{new_back}
use Rattle.epoch_node.specs.Cores.{CoreSetup}
use Rattle.epoch_node.specs.Keeping.{IsFoundOf, KnowsEpoch}
use Rattle.epoch_node.proofs.beginning.begin.Goals as goal

found_known : (i : CoreSetup) (r : Result Summary NoMemory) → IfOk r (λ e. IsFoundOf i (summary_of e)) → KnowsEpoch i (result_ok r)
found_known i (Ok e) f = λ t. record {
  summary = known_is_summary i.query (trace_of i.points.job) i.epoch.first _ (summary_of e) f.summary;
  in_range = f.in_range;
}
found_known i (Err x) f = λ t. cc

pub returns-clause-begun : goal.returns-clause-begun
returns-clause-begun c =
    let i : CoreSetup = record { points = c.args.start.now; query = c.args.query.now; epoch = c.args.ticket; first = c.args.first; last = c.args.last } in
    let summary = ap (λ v. v.summary) c.new.ensures.made in
    record {
      new = c.new.ensures.made ∙ ap (λ s. new_back s c.args.first c.args.last) (sym summary);
      summary = subst (KnowsEpoch i) (sym (summary ∙ c.ok-summary.ensures.value)) (found_known i c.summarize.result c.summarize.ensures.found);
      keeps = c.new.ensures.keeps;
      reached = c.new.ensures.reached;
    }
