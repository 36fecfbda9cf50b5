use Rattle.std.proofs.Common.{◌∙◌, arith}
use Rattle.std.specs.Str.Parse.{ExplainsUnsignedError, HasUnsignedDigitsIfOk, ParsesUnsigned}
use Rattle.clap.specs.Words.{found_of}
use Rattle.clap.proofs.WalkLemmas.{one_text-rows}
use Rattle.clap_command.proofs.ValueLemmas.{number_read}
use Rattle.clap_command.proofs.values.read_long_number.Goals as goal

pub returns : goal.returns
returns c = c.unwrap_or.ensures
    ∙ number_read 64 18446744073709551615 (omega arith) _ (λ bs r. ParsesUnsigned 64 10 bs r × ExplainsUnsignedError 10 bs r × HasUnsignedDigitsIfOk bs r) _ c.get_one.result c.requires
    (λ t e. c.get_one.ensures.value t (one_text-rows (found_of c.args.matches.now) c.args.id.now ∙ e)) (λ t x given. given.0)
