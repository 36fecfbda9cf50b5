use Rattle.jet_words.proofs.Taken.{command-where_taken}
use Rattle.jet_words.proofs.laws.command_where_taken.Goals as goal

pub returns : goal.returns
returns c = command-where_taken
