use Rattle.taint_shadow.proofs.Bytes.{word_put}
use Rattle.taint_shadow.proofs.memory.put_word.Goals as goal

pub returns : goal.returns
returns c = word_put c.args.regions.now.items c.put_in_line.new.regions.items c.args.place c.args.size c.args.lanes c.ranges.place.fits c.requires.size.0 c.requires.size.1 c.requires.line c.requires.room
    (rw c.path_of.ensures at c.put_in_line.ensures)
