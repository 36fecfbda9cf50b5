use Rattle.sink_collect.proofs.Putting.{names_of_ten}
use Rattle.sink_collect.proofs.Waiting.{unmade, added}
use Rattle.sink_collect.proofs.writing.add_ten.Goals as goal

pub returns-in_err-make_room : goal.returns-in_err-make_room
returns-in_err-make_room g c =
    unmade g.P.Pieces.putting g.met.P.Pieces.laws _ (c.args.place.now, c.args.text.now) (c.make_room.new.place, c.make_room.new.text)
    (names_of_ten c.args.channel c.args.tens) c.from_residual.result c.from_residual.ensures.1 c.in_err-make_room.ensures.puts

pub returns : goal.returns
returns g c =
    added g.P.Pieces.putting g.met.P.Pieces.laws (c.args.place.now, c.args.text.now) (c.make_room.new.place, c.make_room.new.text)
    (names_of_ten c.args.channel c.args.tens) c.push_ten.new.self c.in_ok-make_room.ensures.puts c.push_ten.ensures
