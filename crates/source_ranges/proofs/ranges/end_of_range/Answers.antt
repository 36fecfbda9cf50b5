use Rattle.std.proofs.Common.{◌≡◌, ℕ, ◌+◌, ◌-◌, ◌<◌, List, [], ◌∷◌, ◌++◌, length, get_or, take, drop, refl, sym, ap₂, ◌∙◌, subst, ◌≤◌, arith}
use Rattle.std.proofs.lemmas.List.{drop_more, drop_all, take_more}
use Rattle.std.proofs.lemmas.List.FromFn.{map-range_with_len_more}
use Rattle.flow_model.specs.declared.SourceByte.{SourceByte}
use Rattle.source_ranges.specs.declared.SourceRange.{SourceRange}
use Rattle.source_ranges.specs.Ranges.{byte_on, ranges_of}
use Rattle.source_ranges.proofs.Longest.{bytes_from, StopAt, ranges-split}
use Rattle.source_ranges.proofs.ranges.end_of_range.Goals as goal
use Rattle.source_ranges.proofs.ranges.end_of_range.Goals.{then-byte-first-via-then-byte-first, then-byte-first-via-else-byte-first+then-from-past}

-- bytes that go on up to here, and no further
at_end : (first : SourceByte) (more : List SourceByte) (past n : ℕ) → past ≡ first.offset + 1 + n
    → take n more ≡ bytes_from first.channel (first.offset + 1) n → StopAt first.channel past (drop n more)
    → ranges_of (first ∷ more) ≡ record { channel = first.channel; from = first.offset; past = past } ∷ ranges_of (drop (past - (first.offset + 1)) more)
at_end first more past n e front stop =
    let count : past - (first.offset + 1) ≡ n = omega (arith, e) in
    ranges-split first more n front (subst (λ (p : ℕ). StopAt first.channel p (drop n more)) e stop)
    ∙ ap₂ (λ (p k : ℕ). let r : SourceRange = record { channel = first.channel; from = first.offset; past = p } in r ∷ ranges_of (drop k more)) (sym e) (sym count)

abbrev none : SourceByte
none = record { channel = 0; offset = 0 }

-- the next byte is one that doesn't go on
at_other : (first : SourceByte) (more : List SourceByte) (past n : ℕ) → n < length more
    → (first.channel ≡ (get_or more n none).channel → past ≡ (get_or more n none).offset → ⊥) → StopAt first.channel past (drop n more)
at_other first more past n below other = subst (StopAt first.channel past) (sym (drop_more more n none below)) other

-- there is no next byte
at_all : (first : SourceByte) (more : List SourceByte) (past n : ℕ) → length more ≤ n → StopAt first.channel past (drop n more)
at_all first more past n all = subst (StopAt first.channel past) (sym (drop_all n more all)) tt

-- the next byte goes on
one_more : (first : SourceByte) (more : List SourceByte) (n : ℕ) → n < length more → first.channel ≡ (get_or more n none).channel
    → first.offset + 1 + n ≡ (get_or more n none).offset → take n more ≡ bytes_from first.channel (first.offset + 1) n
    → take (n + 1) more ≡ bytes_from first.channel (first.offset + 1) (n + 1)
one_more first more n below channel offset front =
    take_more more n none below
    ∙ ap₂ (λ (bs : List SourceByte) (b : SourceByte). bs ++ b ∷ []) front (ap₂ (λ (c o : ℕ). byte_on c o) (sym channel) (sym offset))
    ∙ sym (map-range_with_len_more (byte_on first.channel) (first.offset + 1) n (first.offset + 1 + n) refl)

pub returns-then-byte-first-clause-range : goal.returns-then-byte-first-clause-range
returns-then-byte-first-clause-range c =
    let inv = c.loop-byte.invariant in
    let more = c.args.more.now in
    at_end c.args.first more c.loop-byte.past c.loop-byte.byte-index inv.past inv.front
    (at_other c.args.first more c.loop-byte.past c.loop-byte.byte-index c.loop-byte-test.true
    (λ channel offset. elim c.then-byte-first.branch [
      | then-byte-first-via-then-byte-first w ↦ omega (arith, w.if-byte-first.true, channel)
      | then-byte-first-via-else-byte-first+then-from-past w ↦ omega (arith, w.if-from-past.true, w.from.ensures, offset)
    ]))

pub loop-byte-preserved : goal.loop-byte-preserved
loop-byte-preserved c =
    let inv = c.loop-byte.invariant in
    let offset : c.args.first.offset + 1 + c.loop-byte.byte-index ≡ (get_or c.args.more.now c.loop-byte.byte-index none).offset =
    omega (arith, inv.past, c.from.ensures, c.if-from-past.false) in
    record {
      few = omega (arith, inv.past, c.from.ensures, c.if-from-past.false);
      past = omega (arith, inv.past);
      front = one_more c.args.first c.args.more.now c.loop-byte.byte-index c.loop-byte-test.true (sym c.if-byte-first.false) offset inv.front;
    }

pub returns-clause-range : goal.returns-clause-range
returns-clause-range c =
    let inv = c.loop-byte.invariant in
    at_end c.args.first c.args.more.now c.loop-byte.past c.loop-byte.byte-index inv.past inv.front
    (at_all c.args.first c.args.more.now c.loop-byte.past c.loop-byte.byte-index c.loop-byte-test.false)
