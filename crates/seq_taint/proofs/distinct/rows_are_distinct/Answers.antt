use Rattle.replay_model.proofs.Offsets.{writes_apart}
use Rattle.replayer.specs.Jobs.{trace_of}
use Rattle.seq_taint.proofs.DistinctRows.{distinct_rows}
use Rattle.seq_taint.proofs.distinct.rows_are_distinct.Goals as goal

pub returns : goal.returns
returns c =
    let job = c.args.job.now in
    distinct_rows c.args.query.now (trace_of job) c.points-points.ensures.ascending (writes_apart job.start job.log)
