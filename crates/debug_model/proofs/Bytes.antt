-- The step that moved a byte.
use Rattle.std.proofs.Common.{◌≡◌, ℕ, ◌+◌, ◌<◌, ◌≤◌, ◌⊎◌, inl, inr, Bool, true, false, if◌then◌else◌, ◌&&◌, ◌==◌, nat_le, nat_lt, List, [], ◌∷◌, ◌++◌, length, find, cond, pos, negsuc, Option, Some, None, option_map, option_and_then, MatchOption, refl, ap, sym, ◌∙◌, subst, arith, lt-ltb, le-leb, leb-true, ltb-true, ltb-false, eqb-true, length-append}
use Rattle.std.specs.List.{flat_map}
use Rattle.std.proofs.lemmas.Bool.{and_parts}
use Rattle.std.proofs.lemmas.List.{append_assoc, append_cancel_left}
use Rattle.isa.specs.declared.CallKind.TheVariants as kind
use Rattle.isa.specs.Machine.{Outcome}
use Rattle.isa.specs.Calls.{channel_of}
use Rattle.log_model.specs.declared.CallRecord.{CallRecord}
use Rattle.log_model.specs.declared.CallRecord.TheVariants.{Read, Write, Clock, Other}
use Rattle.log_model.specs.Logs.{Log, IsLog, at_of, end_at, steps, Rise, least_after}
use Rattle.log_model.proofs.Ends.{end_at-le-steps_by}
use Rattle.flow_model.specs.declared.StepSeen.{StepSeen}
use Rattle.flow_model.specs.declared.CallSeen.{CallSeen}
use Rattle.replay_model.specs.Run.{Moment, start, moment_after, step_by, call_seen}
use Rattle.replay_model.specs.Comparison.{CallOf, expected}
use Rattle.replay_model.specs.Offsets.{records_before, call_at}
use Rattle.replay_model.proofs.Agreement.{expects_call, CallAgrees, call_agrees, agrees_at}
use Rattle.replay_model.proofs.Track.{agrees_with, least_rises, none_before, done_is, IsOnTrackAt, on_track_at}
use Rattle.replay_model.proofs.Offsets.{step_at_from, transfer_offset}
use Rattle.replayer.specs.Jobs.{Job, IsJob, trace_of}
use Rattle.run_output.specs.declared.ways.Way.{Way}
use Rattle.run_output.specs.declared.ways.Way.TheVariants.{Received, Written}
use Rattle.run_output.specs.Ways.{moved}
use Rattle.run_output.specs.Lines.{Piece, Line, MovedLine, RefusedLine, ClockLine, OtherLine, piece, line_of, counts_of, lines_after}
use Rattle.run_output.specs.Calls.{lines}
use Rattle.run_output.specs.Pieces.{same_way, piece_on, pieces_on, AreAdjoining, IsTiledBy, LinesTileChannels}
use Rattle.debug_model.specs.Commands.{has_byte}
use Rattle.debug_model.specs.ByteLaws.{kind_of_way, MovesByteAt, StepOfByteIsTold}

-- ---- no piece has it

not_in : (p : Piece) (from offset : ℕ) → p.offset ≡ from → from ≤ offset → has_byte offset p ≡ false → from + length p.bytes ≤ offset
not_in p from offset same low none =
    let here = le-leb p.offset offset (omega (arith, same, low)) in
    let past : nat_lt offset (p.offset + length p.bytes) ≡ false =
    sym (ap (λ (b : Bool). b && nat_lt offset (p.offset + length p.bytes)) here) ∙ none in
    let behind = ltb-false offset (p.offset + length p.bytes) past in
    omega (arith, same, behind)

none_has : (ps : List Piece) (from offset : ℕ) → AreAdjoining from ps → from ≤ offset → find (has_byte offset) ps ≡ None
    → from + length (flat_map (λ p. p.bytes) ps) ≤ offset
none_has [] from offset adjoin low none = omega arith
none_has (p ∷ ps) from offset adjoin low none = by (none_has ps (from + length p.bytes) offset adjoin.1) (has_byte offset p) refl none where
  by : (from + length p.bytes ≤ offset → find (has_byte offset) ps ≡ None
      → from + length p.bytes + length (flat_map (λ p. p.bytes) ps) ≤ offset) → (b : Bool) → has_byte offset p ≡ b
      → cond b (Some p) (find (has_byte offset) ps) ≡ None → from + length (p.bytes ++ flat_map (λ p. p.bytes) ps) ≤ offset
  by rest true here e = cc
  by rest false here e =
      let later = rest (not_in p from offset adjoin.0 low here) e in
      let size = length-append p.bytes (flat_map (λ p. p.bytes) ps) in
      omega (arith, later, size)

-- ---- the record of a piece

-- the line of this record tells the piece, and these stand before it
record IsTold (records : List CallRecord) (way : Way) (channel : ℕ) (p : Piece) : Type 0 where
  before : List CallRecord
  r : CallRecord
  behind : List CallRecord
  all : before ++ r ∷ behind ≡ records
  line : piece_on way channel (line_of (counts_of before) r) ≡ p ∷ []

one_or_none : (way : Way) (channel : ℕ) (l : Line) → (piece_on way channel l ≡ []) ⊎ ((q : Piece) × (piece_on way channel l ≡ q ∷ []))
one_or_none way channel (MovedLine w q) = by (same_way way w && (q.channel == channel)) where
  by : (b : Bool) → ((if b then q ∷ [] else []) ≡ []) ⊎ ((x : Piece) × ((if b then q ∷ [] else []) ≡ x ∷ []))
  by true = inr (q, refl)
  by false = inl refl
one_or_none way channel (RefusedLine w r) = inl refl
one_or_none way channel (ClockLine at value) = inl refl
one_or_none way channel (OtherLine at number) = inl refl

passes : (p : Piece → Bool) (xs : List Piece) (x : Piece) → find p xs ≡ Some x → p x ≡ true
passes p [] x e = cc
passes p (y ∷ ys) x e = by (passes p ys x) (p y) refl e where
  by : (find p ys ≡ Some x → p x ≡ true) → (b : Bool) → p y ≡ b → cond b (Some y) (find p ys) ≡ Some x → p x ≡ true
  by rest true here e = let same : y ≡ x = cc in ap p (sym same) ∙ here
  by rest false here e = rest e

told_by : (way : Way) (channel offset : ℕ) (done left : List CallRecord) (p : Piece)
    → find (has_byte offset) (pieces_on way channel (lines_after done left)) ≡ Some p → IsTold (done ++ left) way channel p
told_by way channel offset done [] p e = cc
told_by way channel offset done (r ∷ rs) p e =
    by (told_by way channel offset (done ++ r ∷ []) rs p) (one_or_none way channel (line_of (counts_of done) r)) where
      rest : List Piece
      rest = pieces_on way channel (lines_after (done ++ r ∷ []) rs)

      by : (find (has_byte offset) (pieces_on way channel (lines_after (done ++ r ∷ []) rs)) ≡ Some p → IsTold ((done ++ r ∷ []) ++ rs) way channel p)
          → (piece_on way channel (line_of (counts_of done) r) ≡ [])
          ⊎ ((q : Piece) × (piece_on way channel (line_of (counts_of done) r) ≡ q ∷ []))
          → IsTold (done ++ r ∷ rs) way channel p
      by later (inl none) =
          subst (λ (records : List CallRecord). IsTold records way channel p) (append_assoc done (r ∷ []) rs)
          (later (sym (ap (λ (ps : List Piece). find (has_byte offset) (ps ++ rest)) none) ∙ e))
      by later (inr (q, is)) = here (has_byte offset q) (sym (ap (λ (ps : List Piece). find (has_byte offset) (ps ++ rest)) is) ∙ e) where
        here : (b : Bool) → cond b (Some q) (find (has_byte offset) rest) ≡ Some p → IsTold (done ++ r ∷ rs) way channel p
        here true e = let same : q ≡ p = cc in record {
          before = done;
          r = r;
          behind = rs;
          all = refl;
          line = is ∙ ap (λ (x : Piece). x ∷ []) same;
        }
        here false e =
            subst (λ (records : List CallRecord). IsTold records way channel p) (append_assoc done (r ∷ []) rs) (later e)

-- ---- the call of a record

record IsSeenAs (call : CallSeen) (way : Way) (channel : ℕ) (p : Piece) (r : CallRecord) : Type 0 where
  at : at_of r ≡ p.at
  is : call.kind ≡ kind_of_way way
  on : call.channel ≡ channel
  offset : call.offset ≡ p.offset
  size : call.length ≡ length p.bytes

seen_as : (way : Way) (channel : ℕ) (m : Moment) (r : CallRecord) (behind : List CallRecord) (p : Piece)
    → piece_on way channel (line_of (counts_of m.done) r) ≡ p ∷ [] → 0 < length p.bytes
    → IsSeenAs (call_seen m (r ∷ behind)) way channel p r
seen_as Received channel m (Read at args (pos n) bytes) behind p e some = by (channel_of args == channel) refl e where
  q : Piece
  q = piece at args (length (moved Received (channel_of args) m.done)) bytes

  by : (b : Bool) → (channel_of args == channel) ≡ b
      → (if b then piece at args (length (moved Received (channel_of args) m.done)) bytes ∷ [] else []) ≡ p ∷ []
      → IsSeenAs (call_seen m (Read at args (pos n) bytes ∷ behind)) Received channel p (Read at args (pos n) bytes)
  by true on e =
      let same : piece at args (length (moved Received (channel_of args) m.done)) bytes ≡ p = cc in
      let size : length bytes ≡ length p.bytes = ap (λ (x : Piece). length x.bytes) same in
      record {
        at = ap (λ (x : Piece). x.at) same;
        is = refl;
        on = eqb-true (channel_of args) channel on;
        offset = transfer_offset kind.Read args (moved Received (channel_of args) m.done) (length bytes) (omega (arith, size, some))
            ∙ ap (λ (x : Piece). x.offset) same;
        size = size;
      }
  by false on e = cc
seen_as Written channel m (Write at args (pos n) bytes) behind p e some = by (channel_of args == channel) refl e where
  by : (b : Bool) → (channel_of args == channel) ≡ b
      → (if b then piece at args (length (moved Written (channel_of args) m.done)) bytes ∷ [] else []) ≡ p ∷ []
      → IsSeenAs (call_seen m (Write at args (pos n) bytes ∷ behind)) Written channel p (Write at args (pos n) bytes)
  by true on e =
      let same : piece at args (length (moved Written (channel_of args) m.done)) bytes ≡ p = cc in
      let size : length bytes ≡ length p.bytes = ap (λ (x : Piece). length x.bytes) same in
      record {
        at = ap (λ (x : Piece). x.at) same;
        is = refl;
        on = eqb-true (channel_of args) channel on;
        offset = transfer_offset kind.Write args (moved Written (channel_of args) m.done) (length bytes) (omega (arith, size, some))
            ∙ ap (λ (x : Piece). x.offset) same;
        size = size;
      }
  by false on e = cc
seen_as Received channel m (Read at args (negsuc n) bytes) behind p e some = cc
seen_as Received channel m (Write at args (pos n) bytes) behind p e some = cc
seen_as Received channel m (Write at args (negsuc n) bytes) behind p e some = cc
seen_as Received channel m (Clock at value) behind p e some = cc
seen_as Received channel m (Other at number) behind p e some = cc
seen_as Written channel m (Write at args (negsuc n) bytes) behind p e some = cc
seen_as Written channel m (Read at args (pos n) bytes) behind p e some = cc
seen_as Written channel m (Read at args (negsuc n) bytes) behind p e some = cc
seen_as Written channel m (Clock at value) behind p e some = cc
seen_as Written channel m (Other at number) behind p e some = cc

-- ---- the time of a record

reaches : (least : ℕ) (before : List CallRecord) (r : CallRecord) (behind : List CallRecord) → Rise least (before ++ r ∷ behind)
    → least ≤ at_of r
reaches least [] r behind rise = rise.0
reaches least (b ∷ before) r behind rise =
    let later = reaches (at_of b + 1) before r behind rise.1 in
    let first = rise.0 in
    omega (arith, later, first)

ends_behind : (least : ℕ) (before : List CallRecord) (r : CallRecord) (behind : List CallRecord) → Rise least (before ++ r ∷ behind)
    → at_of r < least_after least (before ++ r ∷ behind)
ends_behind least [] r behind rise = let rest = least_rises (at_of r + 1) behind rise.1 in omega (arith, rest)
ends_behind least (b ∷ before) r behind rise = ends_behind (at_of b + 1) before r behind rise.1

only_before : (least : ℕ) (before : List CallRecord) (r : CallRecord) (behind : List CallRecord) → Rise least (before ++ r ∷ behind)
    → records_before (at_of r) (before ++ r ∷ behind) ≡ before
only_before least [] r behind rise = none_before (at_of r) (at_of r) (r ∷ behind) (omega arith) (omega arith, rise.1)
only_before least (b ∷ before) r behind rise =
    let low = reaches (at_of b + 1) before r behind rise.1 in
    let rest = only_before (at_of b + 1) before r behind rise.1 in
    ap (λ (test : Bool). cond test (b ∷ records_before (at_of r) (before ++ r ∷ behind)) (records_before (at_of r) (before ++ r ∷ behind)))
    (lt-ltb (at_of b) (at_of r) (omega (arith, low)))
    ∙ ap (λ (rs : List CallRecord). b ∷ rs) rest

-- ---- the step of a record

module _ (job : Job) (is : IsJob job) (before : List CallRecord) (r : CallRecord) (behind : List CallRecord)
    (all : before ++ r ∷ behind ≡ job.log.records) where
  abbrev m : Moment
  m = moment_after (at_of r) (start job.start job.log)

  rise : Rise 0 (before ++ r ∷ behind)
  rise = subst (Rise 0) (sym all) is.form.rise

  below : at_of r < end_at job.log.end
  below =
      let ends = subst (λ (rs : List CallRecord). least_after 0 rs ≤ end_at job.log.end) (sym all) is.form.ends_after in
      let early = ends_behind 0 before r behind rise in
      omega (arith, ends, early)

  on : IsOnTrackAt job.log (at_of r) m
  on = on_track_at job.log job.start (at_of r) is.form is.agrees (let early = below in omega (arith, early))

  done : m.done ≡ before
  done =
      done_is job.log m on.on
      ∙ ap (λ (t : ℕ). records_before t job.log.records) on.time
      ∙ ap (records_before (at_of r)) (sym all)
      ∙ only_before 0 before r behind rise

  left : m.left ≡ r ∷ behind
  left = append_cancel_left before m.left (r ∷ behind) (ap (λ (rs : List CallRecord). rs ++ m.left) (sym done) ∙ on.on.all ∙ sym all)

  called : CallAgrees m job.log.inputs r
  called =
      let early = below in
      let none = agrees_at job.log (end_at job.log.end + 1) (at_of r) (start job.start job.log) is.agrees (omega (arith, early)) in
      let time = on.time in
      let next_is : expected m.time m.left job.log.end ≡ CallOf r =
      ap (λ (rs : List CallRecord). expected m.time rs job.log.end) left ∙ expects_call m.time r behind job.log.end (omega (arith, time)) in
      call_agrees m job.log.inputs r (agrees_with job.log m (CallOf r) next_is none)

  there : call_at (trace_of job) (at_of r) ≡ Some (call_seen m (r ∷ behind))
  there =
      let early = below in
      let last = end_at-le-steps_by job.log.end in
      let seen = step_at_from (steps job.log) (at_of r) (start job.start job.log) (omega (arith, early, last)) in
      ap (λ (o : Option StepSeen). option_and_then (λ s. s.call) o) seen
      ∙ ap (λ (o : Outcome). (step_by m o).call) called.calls
      ∙ ap (λ (rs : List CallRecord). Some (call_seen m rs)) left

-- ---- the law

tiled : LinesTileChannels → (log : Log) (way : Way) (channel : ℕ) → IsLog log
    → IsTiledBy (moved way channel log.records) (pieces_on way channel (lines log))
tiled tile log Received channel form = (tile log channel form).read
tiled tile log Written channel form = (tile log channel form).written

moves_it : (job : Job) (way : Way) (channel offset : ℕ) → IsJob job → (p : Piece)
    → find (has_byte offset) (pieces_on way channel (lines job.log)) ≡ Some p → MovesByteAt job way channel offset p.at
moves_it job way channel offset is p found =
    let told = told_by way channel offset [] job.log.records p found in
    let has = and_parts (nat_le p.offset offset) (nat_lt offset (p.offset + length p.bytes)) (passes (has_byte offset) (pieces_on way channel (lines job.log)) p found) in
    let from = leb-true p.offset offset has.0 in
    let to = ltb-true offset (p.offset + length p.bytes) has.1 in
    let here = done job is told.before told.r told.behind told.all in
    let at = m job is told.before told.r told.behind told.all in
    let line = ap (λ (rs : List CallRecord). piece_on way channel (line_of (counts_of rs) told.r)) here ∙ told.line in
    let seen = seen_as way channel at told.r told.behind p line (omega (arith, from, to)) in
    let first = seen.offset in
    let size = seen.size in
    let call = call_seen at (told.r ∷ told.behind) in
    subst (MovesByteAt job way channel offset) seen.at record {
      call = call;
      there = there job is told.before told.r told.behind told.all;
      is = seen.is;
      on = seen.on;
      from = omega (arith, first, from);
      to = omega (arith, first, size, to);
    }

pub step_of_byte_is_told : LinesTileChannels → StepOfByteIsTold
step_of_byte_is_told tile job way channel offset is =
    by (find (has_byte offset) (pieces_on way channel (lines job.log))) refl where
      by : (o : Option Piece) → find (has_byte offset) (pieces_on way channel (lines job.log)) ≡ o
          → MatchOption (option_map (λ p. p.at) o) (length (moved way channel job.log.records) ≤ offset) (MovesByteAt job way channel offset)
      by None e =
          let all = tiled tile job.log way channel is.form in
          let size = ap length all.whole in
          let past = none_has (pieces_on way channel (lines job.log)) 0 offset all.adjoining (omega arith) e in
          omega (arith, size, past)
      by (Some p) e = moves_it job way channel offset is p e
