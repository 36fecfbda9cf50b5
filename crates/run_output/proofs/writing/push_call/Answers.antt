use Rattle.std.proofs.Common.{[]}
use Rattle.lists.proofs.Numbers.{if-itself}
use Rattle.isa.specs.Calls.{channel_of}
use Rattle.run_output.specs.declared.ways.Way.TheVariants.{Received, Written}
use Rattle.run_output.proofs.Room.{room_for}
use Rattle.run_output.proofs.writing.push_call.Goals as goal

pub push_transfer-requires-clause-room : goal.push_transfer-requires-clause-room
push_transfer-requires-clause-room c =
    let r = c.in-Read in room_for c.args.counts.now c.args.call.now _ Received (channel_of r.args) r.bytes c.requires.room r.is
    (if-itself (channel_of r.args) r.bytes [])

pub push_transfer-requires-in-Write-clause-room : goal.push_transfer-requires-in-Write-clause-room
push_transfer-requires-in-Write-clause-room c =
    let w = c.in-Write in room_for c.args.counts.now c.args.call.now _ Written (channel_of w.args) w.bytes c.requires.room w.is
    (if-itself (channel_of w.args) w.bytes [])
