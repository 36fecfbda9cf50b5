use Rattle.std.proofs.Common.{◌≡◌, ℕ, ◌+◌, ◌-◌, arith, rules, sym, ◌∙◌, subst}
use Rattle.report_model.specs.Query.{policy_of}
use Rattle.epoch_model.specs.Summary.{IsSummary}
use Rattle.replayer.specs.Jobs.{trace_of}
use Rattle.epoch_summary.specs.Summaries.{summary_of}
use Rattle.local_taint.specs.Following.{AreInRange}
use Rattle.taint_tracking.specs.Watched.{IsOfSteps}
use Rattle.source_labels.specs.Words.{node_words}
use Rattle.local_taint.proofs.Terms.{terms_course}
use Rattle.local_taint.proofs.analysis.analyse_from.Goals as goal

pub returns : goal.returns
returns c =
    let q = c.args.query.now in
    let trace = trace_of c.args.cursor.now.job in
    let ticket = c.args.ticket in
    let s = c.args.cursor.now.time in
    let until = s + (c.past_last-past_last.result - s) in
    let here = c.first-first.ensures ∙ sym c.requires.begins in
    let begun = subst (λ (t : ℕ). IsOfSteps node_words q trace t t c.in_ok-watching.watching) here (c.in_ok-watching.ensures trace) in
    let found = c.in_ok-finish.ensures.found q trace s until (c.follow.ensures.tracked q s begun) _ (terms_course (policy_of q) trace s) in
    let n : until - s ≡ ticket.past_last - ticket.first = omega (arith, c.requires.begins, c.past_last-past_last.ensures) in
    let e = summary_of c.summarize.result in
    record {
      summary =
          subst (λ (k : ℕ). IsSummary q trace ticket.first k e) n
          (subst (λ (t : ℕ). IsSummary q trace t (until - s) e) c.requires.begins (c.summarize.ensures.summary q trace s until found));
      number = search rules;
      in_range = subst (AreInRange trace ticket.first) n (subst (λ (t : ℕ). AreInRange trace t (until - s)) c.requires.begins found.in_range);
      job = search rules;
    }
