use Rattle.epoch_link.proofs.list_link.ListLink.push.Given as goal

abbrev pub ghosts-look : goal.ghosts-look
ghosts-look g a = record { sent = a.sent.now; got = a.got.now }
