use Rattle.epoch_model.proofs.Asking.{asks_what_is_needed, asks_locations, asks_by_cuts, asks_once}
use Rattle.epoch_model.proofs.laws.epochs_ask_what_is_needed.Goals as goal

pub returns : goal.returns
returns c = record { needed = asks_what_is_needed; locations = asks_locations; cuts = asks_by_cuts; once = asks_once }
