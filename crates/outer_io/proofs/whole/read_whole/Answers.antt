use Rattle.std.proofs.Common.{rules, arith, ◌≡◌, ◌≤◌, [], ◌++◌, ◌∙◌, ap, refl, ℕ, Bool, List, length, take, drop, length-append, length-take, length-drop}
use Rattle.std.proofs.lemmas.List.{take-append-le}
use Rattle.outer_io.specs.Files.{KeepsFiles, TakesNone, Takes, BeginsRead}
use Rattle.outer_io.specs.ReadWhole.{IsLonger, HasContent, TakesAtMost}
use Rattle.outer_io.proofs.TellsLemmas.{tells-then, tells-map, rose-earlier}
use Rattle.outer_io.proofs.Reading.{IsReading, begins, reads_on, ends, is_longer, most-none, most-read, most-failed, told-most, reads-on, comes-on, no-cause}
use Rattle.outer_io.proofs.whole.read_whole.Goals as goal

pub loop-piece-init : goal.loop-piece-init
loop-piece-init g c = record {
  small = omega (arith, c.new-bytes.ensures.len);
  buffer = search rules;
  open_now = c.in-Ok.ensures.open;
  created = c.begin_read.ensures.created;
  stood = c.in-Ok.ensures.cause.stood refl;
  pieces = record { begun = _; went = _; begins_so = c.begin_read.ensures.gives; calls = []; are_reads = refl };
  reads = record {
    keeps = tells-map _ _ (BeginsRead c.args.name.now) KeepsFiles (λ x y p. p.keeps) c.in-Ok.ensures.ok;
    opened = c.begin_read.ensures.opened;
    later = c.begin_read.ensures.cause.later;
  };
  told = rw c.new-bytes.ensures.items (tells-map _ _ (BeginsRead c.args.name.now) (IsReading c.args.name.now []) (begins c.args.name.now) c.in-Ok.ensures.ok);
}

pub returns-then-count-eq0-clause-content : goal.returns-then-count-eq0-clause-content
returns-then-count-eq0-clause-content g c =
    let name = c.args.name.now in
    let bytes = c.loop-piece.bytes.items in
    let room : ℕ = c.min-room.result in
    tells-then _ _ _ (IsReading name bytes) _ (HasContent name bytes)
    (λ x y z r t. ends name bytes _ _ x y z r t
    (omega (arith, length-take room c.loop-piece.piece)) (omega (arith, length-take c.in-Ok-read.count c.read.new.into))) c.loop-piece.invariant.told c.in-Ok-read.ensures.ok

pub loop-piece-preserved : goal.loop-piece-preserved
loop-piece-preserved g c =
    let name = c.args.name.now in
    let bytes = c.loop-piece.bytes.items in
    let n : ℕ = c.in-Ok-read.count in
    let into : List ℕ = c.read.new.into in
    let room : ℕ = c.min-room.result in
    let fits : n ≤ length into = omega (arith, c.in-Ok-read.ensures.count, c.read.auto.into) in
    let taken = length-take room c.loop-piece.piece in
    let items : c.extend_from_slice.new.self.items ≡ bytes ++ take n into =
    ◌∙◌ {A = List ℕ} c.in_ok-extend_from_slice.ensures.items (ap (λ w. bytes ++ w) (take-append-le n into _ fits)) in
    record {
      small = omega (arith, ap length items, length-append bytes (take n into), length-take n into, c.in-Ok-read.ensures.count, taken, c.in_ok-extend_from_slice.ensures.len);
      buffer = omega (arith, length-append into (drop room c.loop-piece.piece), length-drop room c.loop-piece.piece, taken, c.read.auto.into);
      open_now = ◌∙◌ {A = Bool} c.in-Ok-read.ensures.open c.loop-piece.invariant.open_now;
      created = ◌∙◌ {A = Bool} c.in-Ok-read.ensures.created c.loop-piece.invariant.created;
      stood = ◌∙◌ {A = ℕ} (c.in-Ok-read.ensures.cause.stood refl) c.loop-piece.invariant.stood;
      pieces = comes-on _ _ name _ _ _ _ _ _ c.loop-piece.invariant.pieces (omega (arith, taken)) c.read.ensures.gives;
      reads = reads-on (Takes _ (take n into)) (λ x y p. p.keeps) c.loop-piece.invariant.reads c.in-Ok-read.ensures.ok c.read.ensures.opened c.read.ensures.cause.later;
      told = rw items (tells-then _ _ _ (IsReading name bytes) _ (IsReading name (bytes ++ take n into))
          (λ x y z r t. reads_on name bytes (take n into) _ x y z r t) c.loop-piece.invariant.told c.in-Ok-read.ensures.ok);
    }

pub returns-clause-cause : goal.returns-clause-cause
returns-clause-cause g c = (
  omega arith,
  tells-map _ _ (IsReading c.args.name.now c.loop-piece.bytes.items) (IsLonger c.args.name.now c.args.max)
      (λ x y r. is_longer c.args.name.now c.loop-piece.bytes.items c.args.max x y r (omega arith)) c.loop-piece.invariant.told,
)

-- ---- the store failed

pub returns-in_default-clause-cause : goal.returns-in_default-clause-cause
returns-in_default-clause-cause g c = (
  c.in_default.ensures.cause.failed refl,
  tells-map _ _ TakesNone (TakesAtMost c.args.name.now c.args.max) (most-none c.args.name.now c.args.max) c.in_default.ensures.err,
)

pub returns-in_default-read-clause-cause : goal.returns-in_default-read-clause-cause
returns-in_default-read-clause-cause g c =
    let name = c.args.name.now in
    let w = c.loop-piece.invariant in (
      rose-earlier _ _ _ w.reads.later (c.in_default-read.ensures.cause.failed refl) c.in_default-read.ensures.cause.later,
      tells-then _ _ _ (IsReading name c.loop-piece.bytes.items) TakesNone (TakesAtMost name c.args.max)
          (λ x y z. most-failed name c.loop-piece.bytes.items c.args.max x y z (omega arith)) w.told c.in_default-read.ensures.err,
    )

-- ---- out of memory

pub returns-in_err-buffer-clause-cause : goal.returns-in_err-buffer-clause-cause
returns-in_err-buffer-clause-cause g c = no-cause _ c.from_residual.result c.from_residual.ensures.1

pub returns-in_err-extend_from_slice-clause-cause : goal.returns-in_err-extend_from_slice-clause-cause
returns-in_err-extend_from_slice-clause-cause g c =
    no-cause _ c.from_residual-in_err-extend_from_slice.result c.from_residual-in_err-extend_from_slice.ensures.1

-- ---- the calls that were made

pub returns-in_default-read-clause-reads : goal.returns-in_default-read-clause-reads
returns-in_default-read-clause-reads g c =
    reads-on TakesNone (λ x y p. p.keeps) c.loop-piece.invariant.reads c.in_default-read.ensures.err c.read.ensures.opened c.read.ensures.cause.later

pub returns-in_default-read-clause-pieces : goal.returns-in_default-read-clause-pieces
returns-in_default-read-clause-pieces g c =
    comes-on _ _ c.args.name.now _ _ _ _ _ _ c.loop-piece.invariant.pieces (omega (arith, length-take c.min-room.result c.loop-piece.piece)) c.read.ensures.gives

pub returns-then-count-eq0-clause-reads : goal.returns-then-count-eq0-clause-reads
returns-then-count-eq0-clause-reads g c =
    reads-on (Takes _ _) (λ x y p. p.keeps) c.loop-piece.invariant.reads c.in-Ok-read.ensures.ok c.read.ensures.opened c.read.ensures.cause.later

pub returns-then-count-eq0-clause-pieces : goal.returns-then-count-eq0-clause-pieces
returns-then-count-eq0-clause-pieces g c =
    comes-on _ _ c.args.name.now _ _ _ _ _ _ c.loop-piece.invariant.pieces (omega (arith, length-take c.min-room.result c.loop-piece.piece)) c.read.ensures.gives

pub returns-in_err-extend_from_slice-clause-reads : goal.returns-in_err-extend_from_slice-clause-reads
returns-in_err-extend_from_slice-clause-reads g c =
    reads-on (Takes _ _) (λ x y p. p.keeps) c.loop-piece.invariant.reads c.in-Ok-read.ensures.ok c.read.ensures.opened c.read.ensures.cause.later

pub returns-in_err-extend_from_slice-clause-pieces : goal.returns-in_err-extend_from_slice-clause-pieces
returns-in_err-extend_from_slice-clause-pieces g c =
    comes-on _ _ c.args.name.now _ _ _ _ _ _ c.loop-piece.invariant.pieces (omega (arith, length-take c.min-room.result c.loop-piece.piece)) c.read.ensures.gives

-- ---- at most one byte more than allowed is taken

pub returns-in_default-read-clause-most : goal.returns-in_default-read-clause-most
returns-in_default-read-clause-most g c =
    let w = c.loop-piece.invariant in
    tells-then _ _ _ (IsReading c.args.name.now c.loop-piece.bytes.items) TakesNone _
    (λ x y z. most-failed c.args.name.now c.loop-piece.bytes.items _ x y z w.small) w.told c.in_default-read.ensures.err

pub returns-then-count-eq0-clause-most : goal.returns-then-count-eq0-clause-most
returns-then-count-eq0-clause-most g c =
    told-most c.args.name.now c.loop-piece.bytes.items c.read.new.into c.in-Ok-read.count _ _ _ _ _ c.loop-piece.invariant.told c.in-Ok-read.ensures.ok
    (omega (arith, c.in-Ok-read.ensures.count, length-take c.min-room.result c.loop-piece.piece))

pub returns-in_err-extend_from_slice-clause-most : goal.returns-in_err-extend_from_slice-clause-most
returns-in_err-extend_from_slice-clause-most g c =
    told-most c.args.name.now c.loop-piece.bytes.items c.read.new.into c.in-Ok-read.count _ _ _ _ _ c.loop-piece.invariant.told c.in-Ok-read.ensures.ok
    (omega (arith, c.in-Ok-read.ensures.count, length-take c.min-room.result c.loop-piece.piece))

pub returns-clause-most : goal.returns-clause-most
returns-clause-most g c =
    tells-map _ _ (IsReading c.args.name.now c.loop-piece.bytes.items) _
    (λ x y. most-read c.args.name.now c.loop-piece.bytes.items _ x y c.loop-piece.invariant.small) c.loop-piece.invariant.told
