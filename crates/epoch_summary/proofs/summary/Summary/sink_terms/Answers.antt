use Rattle.std.proofs.lemmas.Result.{on_ok_weaker}
use Rattle.epoch_summary.proofs.Held.{sink_read}
use Rattle.epoch_summary.proofs.summary.Summary.sink_terms.Goals as goal

pub returns-clause-read : goal.returns-clause-read
returns-clause-read c = on_ok_weaker c.read.result (λ read. sink_read c.args.self.now c.args.number c.index.result.now _ c.requires c.index.ensures read) c.read.ensures.read
