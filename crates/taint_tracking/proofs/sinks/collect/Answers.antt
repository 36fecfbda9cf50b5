use Rattle.taint_tracking.proofs.sinks.collect.Goals as goal

pub returns-in-Write : goal.returns-in-Write
returns-in-Write c = rw (c.in-Some.is, c.in-Write.is) c.collect_written.ensures
