use Rattle.forward_pass.proofs.OneMore.{stands, takes_place}
use Rattle.forward_pass.proofs.inserting.insert.Goals as goal

pub returns-in-Ok-clause-added : goal.returns-in-Ok-clause-added
returns-in-Ok-clause-added g c =
    stands g.met.T.Ord.total c.as_slice-2.result.now c.args.set.now.items c.args.member c.as_slice-2.ensures.value c.requires c.in-Ok.field-0 c.in-Ok.ensures.bound c.in-Ok.ensures.position

pub returns-in_ok-insert-in-Err-clause-added : goal.returns-in_ok-insert-in-Err-clause-added
returns-in_ok-insert-in-Err-clause-added g c =
    takes_place g.met.T.Ord.total c.as_slice-2.result.now c.args.set.now.items c.args.member c.as_slice-2.ensures.value c.requires c.in-Err.place
    c.in-Err.ensures.bound c.in-Err.ensures.position c.insert.new.self.items c.in_ok-insert-in-Err.ensures.items
