use Rattle.std.proofs.lemmas.Bool.{and_parts}
use Rattle.clap.specs.Words.{app_of}
use Rattle.clap_command.specs.Plain.{is_sound_command}
use Rattle.clap_command.proofs.parsing.parse_single.Goals as goal

pub parse_sound-requires : goal.parse_sound-requires
parse_sound-requires c = (and_parts (is_sound_command (app_of c.args.command)) _ c.requires).0
