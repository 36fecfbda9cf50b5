use Rattle.jet_commands.specs.Texts.{text_of}
use Rattle.jet_commands.proofs.Obeying.{told}
use Rattle.jet_commands.proofs.delivery.deliver.Goals as goal

pub returns-in-Told : goal.returns-in-Told
returns-in-Told g c =
    rw c.in-Told.is
    (told (text_of c.in-Told.answer) (g.S.Store.shown c.args.store.now) (g.O.Sink.shown c.args.out.now) (g.O.Sink.shown c.write_in_pieces.new.sink) _ c.write_in_pieces.result
    c.write_in_pieces.ensures.cause (rw c.new.ensures at c.write_in_pieces.ensures.ok) (rw c.new.ensures at c.write_in_pieces.ensures.err))
