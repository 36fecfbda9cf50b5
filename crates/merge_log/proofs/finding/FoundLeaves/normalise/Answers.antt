use Rattle.source_runs.specs.Runs.{all_bytes}
use Rattle.flow_model.proofs.Derived.{loc_compared}
use Rattle.merge_log.proofs.Sorting.{IsSetOf, found_members, found_sets}
use Rattle.merge_log.proofs.finding.FoundLeaves.normalise.Goals as goal

pub returns : goal.returns
returns c =
    let starts : IsSetOf loc_compared c.ascend.new.items.items c.args.self.now.starts.items = record { members = c.ascend.ensures.members; ascending = c.ascend.ensures.ascending } in
    record {
      members = found_members (all_bytes c.args.self.now.runs.items) (all_bytes c.normalise.new.runs.items) _ _ c.in_ok-normalise.ensures.members starts;
      ascending = found_sets (all_bytes c.normalise.new.runs.items) _ _ c.in_ok-normalise.ensures.ascending starts;
    }
