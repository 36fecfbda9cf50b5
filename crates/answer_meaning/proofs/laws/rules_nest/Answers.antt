use Rattle.answer_meaning.proofs.Flows.{flows_within, origins_within, copy_in_keep, keep_in_compute, compute_in_index}
use Rattle.answer_meaning.proofs.laws.rules_nest.Goals as goal

pub returns : goal.returns
returns c = record {
  copied = flows_within copy_in_keep;
  kept = flows_within keep_in_compute;
  computed = flows_within compute_in_index;
  copied_origins = origins_within copy_in_keep;
  kept_origins = origins_within keep_in_compute;
  computed_origins = origins_within compute_in_index;
}
