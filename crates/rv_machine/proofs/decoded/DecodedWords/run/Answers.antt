use Rattle.rv_machine.specs.Running.{Begun}
use Rattle.rv_machine.proofs.decoded.DecodedWords.run.Goals as goal

pub returns-then-state-ne0-clause-made : goal.returns-then-state-ne0-clause-made
returns-then-state-ne0-clause-made g c = Begun
