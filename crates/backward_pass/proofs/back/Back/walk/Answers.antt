use Rattle.std.proofs.Common.{◌+◌, true, take, drop, ap, subst, ◌∙◌, arith}
use Rattle.lists.proofs.Lists.{drop-within}
use Rattle.epoch_summary.specs.Summaries.{summary_of}
use Rattle.pass_parts.specs.Known.{known}
use Rattle.pass_parts.specs.PassSummaries.{is_whole, summary_in}
use Rattle.backward_pass.specs.Backward.{AreAsked}
use Rattle.backward_pass.proofs.Counts.{first_asked}
use Rattle.backward_pass.proofs.back.Back.walk.Goals as goal

pub add_sink-requires-clause-walked : goal.add_sink-requires-clause-walked
add_sink-requires-clause-walked c = λ other.
    let s = c.args.self.now in
    subst (λ k. AreAsked s.asked (take s.walked (known (summary_in k)).sinks)) c.in-Whole.is
    (first_asked s.asked (known (summary_in s.epoch)).sinks s.walked (c.requires.walked (ap is_whole c.in-Whole.is) other))

pub returns-in_default-add_sink-clause-walked : goal.returns-in_default-add_sink-clause-walked
returns-in_default-add_sink-clause-walked c = λ _.
    let s = c.args.self.now in
    let next = drop-within (summary_of c.in-Whole.summary).sinks s.walked (omega (arith, c.if-self-sink_count.false, c.sink_count.ensures)) in
    record {
      whole = ap is_whole c.in-Whole.is;
      refused = true;
      sink = next.0;
      left = drop (s.walked + 1) (summary_of c.in-Whole.summary).sinks;
      next = ap (λ k. drop s.walked (known (summary_in k)).sinks) c.in-Whole.is ∙ next.1;
      is = c.give_up.ensures;
    }
