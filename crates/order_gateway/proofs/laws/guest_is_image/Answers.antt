use Rattle.order_gateway.proofs.Guests.{guest-has_words, guest-image, window-holds_guest}
use Rattle.order_gateway.proofs.laws.guest_is_image.Goals as goal

pub returns-clause-words : goal.returns-clause-words
returns-clause-words c = guest-has_words

pub returns-clause-image : goal.returns-clause-image
returns-clause-image c = guest-image

pub returns-clause-window : goal.returns-clause-window
returns-clause-window c = window-holds_guest
