use Rattle.std.proofs.Common.{sym, subst}
use Rattle.std.proofs.lemmas.Result.{on_ok_weaker}
use Rattle.merge_log.specs.Log.{AreSets}
use Rattle.taint_shadow.specs.Labels.{kind_of}
use Rattle.source_labels.specs.Laws.{terms_ascend}
use Rattle.source_labels.specs.Words.{log_of}
use Rattle.epoch_summary.proofs.Held.{sink_read}
use Rattle.epoch_summary.proofs.summary.Summary.sink_terms_ahead.Goals as goal

pub returns-clause-read : goal.returns-clause-read
returns-clause-read c =
    on_ok_weaker c.read_sink.result (λ read. sink_read c.args.self.now c.args.number c.index.result.now _ c.requires.inside c.index.ensures read) c.read_sink.ensures.read

pub returns-clause-ascending : goal.returns-clause-ascending
returns-clause-ascending c =
    on_ok_weaker c.read_sink.result (λ read. subst AreSets (sym read) (terms_ascend (log_of c.args.self.now.nodes) (kind_of c.index.result.now.label))) c.read_sink.ensures.read
