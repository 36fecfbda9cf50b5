use Rattle.std.proofs.Common.{◌<◌, ap, subst, sym, ◌∙◌, slice_index, arith}
use Rattle.std.proofs.lemmas.List.{get_or_read}
use Rattle.epoch_model.specs.Crossing.{added_all}
use Rattle.stream_model.specs.Streams.{places_needed}
use Rattle.merge_log.specs.Log.{terms}
use Rattle.merge_log.proofs.Terms.{nothing_under_0}
use Rattle.backward_pass.proofs.Needs.{needs_same}
use Rattle.backward_pass.proofs.Starts.{all_asked}
use Rattle.backward_pass.proofs.node_needs.NodeNeeds.ask_node.Goals as goal

pub returns-then-root-eq0-clause-asked : goal.returns-then-root-eq0-clause-asked
returns-then-root-eq0-clause-asked c =
    sym (ap (λ n. added_all c.args.asked.now (terms c.args.log.now n).starts) c.if-root-eq0.true ∙ ap (λ t. added_all c.args.asked.now t.starts) (nothing_under_0 c.args.log.now))

pub returns-then-root-eq0-clause-needed : goal.returns-then-root-eq0-clause-needed
returns-then-root-eq0-clause-needed c =
    sym (ap (λ n. places_needed c.args.asked.now (terms c.args.log.now n).starts) c.if-root-eq0.true ∙ ap (λ t. places_needed c.args.asked.now t.starts) (nothing_under_0 c.args.log.now))

pub returns-then-noted-gt0-clause-asked : goal.returns-then-noted-gt0-clause-asked
returns-then-noted-gt0-clause-asked c =
    let a = c.args in
    let new = c.fit.new.needs.items in
    let some : 0 < slice_index new a.root =
    subst (λ v. 0 < v) (get_or_read new a.root c.index-noted.result.now (omega (arith, c.requires.stands, c.size.ensures, c.in_ok-fit.ensures.room)) c.index-noted.ensures 0) c.if-noted-gt0.true in
    sym (all_asked a.asked.now (terms a.log.now a.root).starts (needs_same a.log.now a.asked.now a.self.now.needs.items new c.in_ok-fit.ensures.kept c.requires.of_log a.root some).within)
