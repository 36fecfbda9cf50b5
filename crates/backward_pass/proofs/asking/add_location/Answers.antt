use Rattle.std.proofs.Common.{rules, ◌≡◌, ◌∙◌, ap, ap₂, cond, sym, subst, true}
use Rattle.std.specs.Prelude.{Some}
use Rattle.lists.specs.Sets.{is_within}
use Rattle.flow_model.specs.Orders.{loc_cmp}
use Rattle.epoch_model.specs.Summary.{Terms}
use Rattle.stream_model.specs.Streams.{places_needed}
use Rattle.pass_parts.specs.declared.requests.Request.{Request}
use Rattle.pass_parts.specs.Known.{known}
use Rattle.pass_parts.specs.Requests.{IsCounted}
use Rattle.merge_log.specs.Log.{start_term}
use Rattle.source_labels.specs.Words.{log_of, node_words}
use Rattle.epoch_summary.specs.Summaries.{nodes_of, summary_of}
use Rattle.backward_pass.proofs.Needs.{start_asked}
use Rattle.backward_pass.proofs.Starts.{all_asked}
use Rattle.backward_pass.proofs.Counts.{counted_now}
use Rattle.backward_pass.proofs.asking.add_location.Goals as goal

pub returns-then-share_end_terms-clause-asked : goal.returns-then-share_end_terms-clause-asked
returns-then-share_end_terms-clause-asked c =
    let e = known (Some c.args.summary.now) in
    let alike : Request = record { loc = c.args.loc; needed_first = c.in-Some.last.now.needed_first } in
    let last : IsCounted c.args.asked.now e c.in-Some.last.now = search rules in
    let same : e.ends c.in-Some.last.now.loc ≡ e.ends c.args.loc = c.share_end_terms.ensures c.if-share_end_terms.true in
    let counted : IsCounted c.args.asked.now e alike = record {
      within = subst (λ (t : Terms). is_within loc_cmp t.starts c.args.asked.now ≡ true) same last.within;
      count = last.count ∙ ap (λ (t : Terms). places_needed c.args.asked.now t.starts) same;
    }
    in
    sym (all_asked c.args.asked.now (e.ends c.args.loc).starts counted.within)

pub returns-clause-counted : goal.returns-clause-counted
returns-clause-counted c =
    let a = c.args in
    let s = a.summary.now in
    let terms = node_words.means c.nodes.result.now c.end_label.result in
    let is : terms ≡ (known (Some s)).ends a.loc =
    ap₂ (λ nodes label. node_words.means nodes label) c.nodes.ensures c.end_label.ensures.label
    ∙ ap (λ b. cond b ((summary_of s).ends a.loc) (start_term a.loc)) c.if-not-is_location.ensures in
    counted_now c.ask.result a.asked.now c.ask.new.asked (known (Some s)) terms a.loc is c.ask.ensures.asked c.ask.ensures.needed

pub returns-then-not-is_location-clause-of_log : goal.returns-then-not-is_location-clause-of_log
returns-then-not-is_location-clause-of_log c =
    let a = c.args in
    start_asked c.add_start.result (log_of (nodes_of a.summary.now)) a.asked.now c.add_start.new.asked a.loc a.needs.now.needs.items c.add_start.ensures.added c.add_start.ensures.err c.requires.of_log
