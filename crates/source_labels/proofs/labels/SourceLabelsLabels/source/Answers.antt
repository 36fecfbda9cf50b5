use Rattle.std.proofs.Common.{arith}
use Rattle.std.proofs.lemmas.Result.{IfOk-weaker}
use Rattle.source_labels.proofs.Sources.{made_sources}
use Rattle.source_labels.proofs.labels.SourceLabelsLabels.source.Goals as goal

pub returns : goal.returns
returns c = IfOk-weaker c.source.result _ _ (λ label made. made_sources c.args.self.now (record { nodes = c.source.new.self }) _ label (omega arith) made) c.source.ensures
