use Rattle.epoch_engine.proofs.engine.ClosureEngineEngine.rows.Goals as goal

pub returns : goal.returns
returns g c =
    (c.requires.ready.1.0 c.args.checkpoints c.args.query c.args.cuts c.args.parallelism c.requires.checkpoints).0.1 c.rows.result c.rows.ensures
