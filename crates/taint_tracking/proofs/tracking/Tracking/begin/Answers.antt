use Rattle.std.proofs.Common.{◌≡◌, ◌-◌, map, refl, sym, subst, arith, ◌+◌}
use Rattle.report_model.specs.Query.{policy_of}
use Rattle.report_model.proofs.Due.{left_ascend}
use Rattle.epoch_model.specs.Stretch.{sinks_of_epoch}
use Rattle.taint_tracking.specs.Sinks.{labelled, meant, AreLabelled}
use Rattle.taint_tracking.proofs.Notes.{noted_stand}
use Rattle.taint_tracking.proofs.Steps.{first_stand, first_mean}
use Rattle.taint_tracking.proofs.Between.{first_sinks, here_at_start}
use Rattle.taint_tracking.proofs.Following.{left_located}
use Rattle.taint_tracking.proofs.tracking.Tracking.begin.Goals as goal

pub returns-clause-sound : goal.returns-clause-sound
returns-clause-sound g c =
    let words = g.L.Labels.words in
    let q = c.args.query.now in
    let first = c.args.first in
    let places = c.in_ok-places.places in
    let found = c.in_ok-points.ensures in
    let points = c.in_ok-points.points.now in
    let standing = first_stand words g.met.L.Labels.laws c.args.labels places c.in_ok-places.ensures in
    let none = subst (AreLabelled words c.args.labels) (sym c.new-sinks.ensures.items) (λ i d below. absurd (omega (arith, below))) in
    record {
      locations = standing;
      sinks = noted_stand words c.args.labels places first standing _ (here_at_start first q found.located) c.new-sinks.result.items c.collect_first.new.sinks.items found.noted none;
      points = left_ascend (first + 1) (first + 1) points q.points refl found.later found.ascending;
      located = left_located (first + 1) q.points points found.later found.located;
      due = c.number_before.ensures;
    }

pub returns-clause-begun : goal.returns-clause-begun
returns-clause-begun g c trace m course =
    let words = g.L.Labels.words in
    let q = c.args.query.now in
    let first = c.args.first in
    let labels = c.args.labels in
    let places = c.in_ok-places.places in
    let sinks = c.collect_first.new.sinks.items in
    let found = c.in_ok-points.ensures in
    let none_yet : first - first ≡ 0 = omega arith in
    let holds = first_mean words g.met.L.Labels.laws labels places c.in_ok-places.ensures (policy_of q) trace first m course in
    let rows = first_sinks words q trace m first labels places c.new-sinks.result.items sinks holds (here_at_start first q found.located) c.new-sinks.ensures.items found.noted in
    record {
      sound = returns-clause-sound g c;
      query = refl;
      begun = omega arith;
      found = record {
        in_range = λ i step below at. absurd (omega (arith, below, none_yet));
        holds = holds;
        rows = subst (λ n. map (labelled words labels) sinks ≡ map (meant m) (sinks_of_epoch q trace first n)) (sym none_yet) rows;
      };
      left = found.later;
    }
