use Rattle.std.proofs.Common.{◌≡◌, ◌∙◌, ap, sym, subst, arith, ℕ, ◌+◌, ◌-◌, ◌<◌, ◌≤◌, List, ◌++◌, length, get_or}
use Rattle.std.specs.Prelude.{All}
use Rattle.std.specs.List.{flat_map}
use Rattle.std.proofs.lemmas.List.Elements.{All-push}
use Rattle.std.proofs.lemmas.List.Kept.{AllPairs-from_increasing}
use Rattle.flow_model.specs.declared.SourceByte.{SourceByte}
use Rattle.source_ranges.specs.declared.SourceRange.{SourceRange}
use Rattle.source_ranges.specs.Ranges.{bytes_of}
use Rattle.source_ranges.proofs.Kept.{range, bytes-pushed}
use Rattle.sink_collect.specs.Places.{place_on, IsUncut}
use Rattle.sink_collect.proofs.Order.{not_falling}
use Rattle.sink_collect.proofs.Cuts.{between_cuts, bytes_cut}
use Rattle.sink_collect.proofs.pieces.push_pieces.Goals as goal

pub count_before-first-requires : goal.count_before-first-requires
count_before-first-requires c = not_falling c.args.cuts.now c.requires.ascending

pub count_before-past-requires : goal.count_before-past-requires
count_before-past-requires c = not_falling c.args.cuts.now c.requires.ascending

pub loop-i-preserved : goal.loop-i-preserved
loop-i-preserved c =
    let cuts = c.args.cuts.now in
    let r = c.args.range in
    let i = c.loop-i.i in
    let from = c.loop-i.from in
    let before = c.loop-i.invariant in
    let at : ℕ = get_or cuts i 0 in
    let cut : ℕ = at - c.place_of-channel.result in
    let inside : i < length cuts = omega (arith, c.loop-i-test.true, c.count_before-past.ensures.bound) in
    let low : place_on r.channel from < at = before.coming i (omega arith) inside in
    let high : at < c.place_of-channel.result + r.past = c.count_before-past.ensures.before i c.loop-i-test.true in
    let place : place_on r.channel cut ≡ at = omega (arith, low, c.place_of-channel.ensures) in
    let more : from < cut = omega (arith, low, place) in
    let less : cut < r.past = omega (arith, high, place, c.place_of-channel.ensures) in
    let above : (k : ℕ) → i ≤ k → k < length cuts → place_on r.channel cut ≤ get_or cuts k 0 =
    λ k ge within. omega (arith, place, not_falling cuts c.requires.ascending i k 0 ge within) in
    record {
      low = omega (arith, before.low, more);
      high = less;
      bytes =
          ap (λ (ps : List SourceRange). flat_map bytes_of ps ++ bytes_of (range r.channel cut r.past)) c.in_ok-push.ensures.items
          ∙ ap (λ (bs : List SourceByte). bs ++ bytes_of (range r.channel cut r.past)) (bytes-pushed c.loop-i.pieces.items (range r.channel from cut))
          ∙ bytes_cut (flat_map bytes_of c.loop-i.pieces.items) _ r.channel from cut r.past (omega (arith, more)) (omega (arith, less)) before.bytes;
      uncut =
          subst (All (IsUncut cuts)) (sym c.in_ok-push.ensures.items)
          (All-push (IsUncut cuts) c.loop-i.pieces.items (range r.channel from cut) before.uncut
          (between_cuts cuts r.channel from cut i more (omega (arith, less, c.requires.range.1)) before.passed above));
      passed = λ k lt. omega (arith, place, not_falling cuts c.requires.ascending k i 0 (omega (arith, lt)) inside);
      coming = λ k ge within. omega (arith, place, AllPairs-from_increasing cuts c.requires.ascending i k 0 (omega (arith, ge)) within);
    }

pub returns-clause-uncut : goal.returns-clause-uncut
returns-clause-uncut c =
    let cuts = c.args.cuts.now in
    let r = c.args.range in
    let last = c.loop-i.invariant in
    let after : (k : ℕ) → c.loop-i.i ≤ k → k < length cuts → place_on r.channel r.past ≤ get_or cuts k 0 =
    λ k ge within. omega (arith, c.place_of-channel.ensures, c.count_before-past.ensures.after k (omega (arith, ge, c.loop-i-test.false)) within) in
    subst (All (IsUncut cuts)) (sym c.in_ok-push-2.ensures.items)
    (All-push (IsUncut cuts) c.loop-i.pieces.items (range r.channel c.loop-i.from r.past) last.uncut
    (between_cuts cuts r.channel c.loop-i.from r.past c.loop-i.i last.high c.requires.range.1 last.passed after))
