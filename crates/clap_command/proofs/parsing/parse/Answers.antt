use Rattle.clap.specs.Words.{app_of}
use Rattle.clap_command.proofs.Single.{sound_of_plain}
use Rattle.clap_command.proofs.parsing.parse.Goals as goal

pub parse_sound-requires : goal.parse_sound-requires
parse_sound-requires c = sound_of_plain (app_of c.args.command) c.requires
