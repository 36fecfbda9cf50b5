use Rattle.std.proofs.Common.{◌<◌, ap, false, length, map, sym, subst, ◌∙◌}
use Rattle.std.proofs.lemmas.List.{length-map}
use Rattle.lists.proofs.Lists.{drop-within}
use Rattle.stream_model.specs.Passes.{asked_more}
use Rattle.epoch_summary.specs.Summaries.{named, summary_of}
use Rattle.backward_pass.specs.Backward.{IsWalked}
use Rattle.backward_pass.proofs.Counts.{shared_sink}
use Rattle.backward_pass.proofs.Counting.{sink_walked}
use Rattle.backward_pass.proofs.asking.add_sink.Goals as goal
use Rattle.backward_pass.proofs.asking.add_sink.Goals.{then-first-via-then-first, then-first-via-else-first+then-shares_terms}

pub returns-then-first-clause-walked : goal.returns-then-first-clause-walked
returns-then-first-clause-walked c =
    let ks = (summary_of c.args.summary.now).sinks in
    elim c.then-first.branch [
      | then-first-via-then-first w ↦
          let next = drop-within ks c.args.number c.requires.inside in
          record { sink = next.0; is = next.1; added = sym (ap (λ b. asked_more b c.args.asked.now next.0.terms.starts) w.if-first.true) }
      | then-first-via-else-first+then-shares_terms w ↦
          let shares = w.shares_terms.ensures in let yes = w.if-shares_terms.true in
          subst (λ b. IsWalked b ks c.args.number c.args.asked.now c.args.asked.now) (sym w.if-first.false)
          (shared_sink c.args.asked.now ks c.args.number (shares.not_first yes) c.requires.inside (shares.shared yes) (c.requires.walked w.if-first.false))
    ]

pub returns-clause-walked : goal.returns-clause-walked
returns-clause-walked c =
    let a = c.args in
    let s = a.summary.now in
    let ks = c.sinks.result.now in
    let inside = subst (λ n. a.number < n) (length-map s.sinks.items (named s.nodes) ∙ ap length (sym c.sinks.ensures.sinks)) c.requires.inside in
    let walked = sink_walked c.nodes.result.now ks a.number _ a.asked.now c.ask.new.asked inside c.in_ok-ask.ensures.asked in
    subst (λ b. IsWalked b (map (named s.nodes) s.sinks.items) a.number a.asked.now c.ask.new.asked) (sym c.if-first.false)
    (subst (λ nodes. IsWalked false (map (named nodes) s.sinks.items) a.number a.asked.now c.ask.new.asked) c.nodes.ensures
    (subst (λ all. IsWalked false (map (named c.nodes.result.now) all) a.number a.asked.now c.ask.new.asked) c.sinks.ensures.sinks walked))
