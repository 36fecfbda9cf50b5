use Rattle.std.proofs.Common.{◌≡◌, ◌+◌, arith, subst}
use Rattle.isa.specs.Machine.{wrap}
use Rattle.taint_shadow.specs.Lanes.{alike}
use Rattle.taint_shadow.specs.Memory.{AreBytes, with_bytes, in_memory}
use Rattle.taint_shadow.proofs.Bytes.{no_bytes, bytes_more}
use Rattle.taint_shadow.proofs.memory.put_bytes.Goals as goal

pub loop-i-init : goal.loop-i-init
loop-i-init c = no_bytes c.args.regions.now.items c.args.place c.args.lanes

pub loop-i-preserved : goal.loop-i-preserved
loop-i-preserved c =
    let old = in_memory c.args.regions.now.items in
    let place = c.args.place in
    let i = c.loop-i.i in
    let new = c.put_byte.new.regions.items in
    let put = subst (λ l. AreBytes new (with_bytes (wrap (place + i)) 1 (alike l) (in_memory c.loop-i.regions.items))) c.at.ensures c.in_ok-put_byte.ensures in
    bytes_more new old place i c.args.lanes c.ranges.place.fits (omega (arith, c.loop-i-test.true, c.requires.1)) c.loop-i.regions.items c.loop-i.invariant put

pub returns : goal.returns
returns c =
    let old = c.args.regions.now.items in
    let all : c.loop-i.i ≡ c.args.size = omega (arith, c.loop-i-test.false, c.loop-i.auto.i-end) in
    subst (λ n. AreBytes c.loop-i.regions.items (with_bytes c.args.place n c.args.lanes (in_memory old))) all c.loop-i.invariant
