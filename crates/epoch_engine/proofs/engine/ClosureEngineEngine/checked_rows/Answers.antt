use Rattle.epoch_engine.proofs.engine.ClosureEngineEngine.checked_rows.Goals as goal

pub returns-clause-checked : goal.returns-clause-checked
returns-clause-checked g c =
    ((c.requires.ready.0 c.args.program c.args.log c.args.query c.args.cuts c.args.parallelism c.requires.cutting).1 c.checked_rows.result c.checked_rows.ensures).0

pub returns-clause-rows : goal.returns-clause-rows
returns-clause-rows g c =
    ((c.requires.ready.0 c.args.program c.args.log c.args.query c.args.cuts c.args.parallelism c.requires.cutting).1 c.checked_rows.result c.checked_rows.ensures).1.0

pub returns-clause-fault : goal.returns-clause-fault
returns-clause-fault g c =
    ((c.requires.ready.0 c.args.program c.args.log c.args.query c.args.cuts c.args.parallelism c.requires.cutting).1 c.checked_rows.result c.checked_rows.ensures).1.1
