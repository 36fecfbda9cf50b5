use Rattle.std.proofs.Common.{arith, ◌≡◌, ◌≤◌, ◌+◌, [], length, drop, unwrap_or, string_bytes, vec_len, length-take, IsOk}
use Rattle.memory_outside.specs.Held.{entries_of, content_of}
use Rattle.memory_outside.proofs.ContentLemmas.{taken_within}
use Rattle.memory_outside.proofs.files.MemoryFiles.read.Goals as goal

pub unreachable-requires : goal.unreachable-requires
unreachable-requires c =
    let files = c.self.inside in
    let few : c.min-count.result ≤ length c.left-rest.result.now = omega (arith, c.min-count.ensures) in
    let is : c.left-rest.result.now ≡ drop (vec_len files.taken) (unwrap_or (content_of (entries_of files.files.items) (string_bytes files.reading)) []) =
    rw (c.len.ensures, c.deref.ensures.value, c.as_str.ensures.value) at c.left-rest.ensures in
    let fits : vec_len files.taken + c.min-count.result ≤ files.longest =
    taken_within files.longest files.files.items (string_bytes files.reading) (vec_len files.taken) c.min-count.result c.left-rest.result.now c.self.invariant.files c.self.invariant.reached is few in
    let went : IsOk c.extend_from_slice.result =
    c.extend_from_slice.ensures.succeeds (omega (arith, fits, length-take c.min-count.result c.left-rest.result.now, c.self.invariant.taken)) in
    let wrong = rw c.in_default.is at went in
    cc

pub invariant_of-self : goal.invariant_of-self
invariant_of-self c =
    let files = c.self.inside in
    let few : c.min-count.result ≤ length c.left-rest.result.now = omega (arith, c.min-count.ensures) in
    let is : c.left-rest.result.now ≡ drop (vec_len files.taken) (unwrap_or (content_of (entries_of files.files.items) (string_bytes files.reading)) []) =
    rw (c.len.ensures, c.deref.ensures.value, c.as_str.ensures.value) at c.left-rest.ensures in
    let fits : vec_len files.taken + c.min-count.result ≤ files.longest =
    taken_within files.longest files.files.items (string_bytes files.reading) (vec_len files.taken) c.min-count.result c.left-rest.result.now c.self.invariant.files c.self.invariant.reached is few in
    record {
      reading = c.self.invariant.reading;
      taken = omega (arith, c.self.invariant.taken, c.extend_from_slice.ensures.capacity);
      reached = omega (arith, fits, c.in-Ok.ensures.len, length-take c.min-count.result c.left-rest.result.now);
      room = c.self.invariant.room;
      files = c.self.invariant.files;
      draft = c.self.invariant.draft;
      put = c.self.invariant.put;
      spares = c.self.invariant.spares;
      more_files = c.self.invariant.more_files;
    }
