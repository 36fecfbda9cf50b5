use Rattle.std.proofs.Common.{◌∙◌}
use Rattle.std.proofs.lemmas.Bool.{false_from_ne_true}
use Rattle.clap_command.proofs.parsing.parse_sound.Goals as goal

pub returns-clause-usage : goal.returns-clause-usage
returns-clause-usage c = false_from_ne_true _ (λ t. c.in_default.not-OutOfMemory (c.kind.ensures ∙ c.in-Err.ensures.memory t))
