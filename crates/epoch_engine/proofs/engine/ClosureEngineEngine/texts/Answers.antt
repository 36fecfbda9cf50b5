use Rattle.epoch_engine.proofs.engine.ClosureEngineEngine.texts.Goals as goal

pub returns : goal.returns
returns g c = (c.requires.ready.1.1 c.args.rows c.args.workers).1 c.texts.result c.texts.ensures
