use Rattle.std.proofs.Common.{sym}
use Rattle.backward_pass.proofs.Starts.{place_is}
use Rattle.backward_pass.proofs.asking.add_start.Goals as goal

pub returns-clause-up_to : goal.returns-clause-up_to
returns-clause-up_to c = sym (place_is c.add.new.self c.args.start c.in_ok-place.place c.form.ensures c.in_ok-place.ensures.place)
