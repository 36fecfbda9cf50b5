use Rattle.order_gateway.specs.Guest.{guest_file}
use Rattle.order_gateway.proofs.Guests.{guest-has_words}
use Rattle.order_gateway.proofs.guest.guest_file.Goals as goal

pub returns : goal.returns
unfolding guest_file
returns c = c.in_ok-program.ensures guest-has_words
