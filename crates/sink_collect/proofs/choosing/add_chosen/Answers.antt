use Rattle.std.proofs.Common.{◌≡◌, ℕ, ◌+◌, ◌<◌, Bool, true, false, cond, List, [], ◌∷◌, ◌++◌, sym, ap, ◌∙◌, arith, append_assoc}
use Rattle.std.specs.List.{filter}
use Rattle.flow_model.specs.declared.SourceByte.{SourceByte}
use Rattle.source_ranges.specs.Ranges.{byte_on, bytes_of}
use Rattle.source_ranges.proofs.Kept.{range, bytes-first, bytes-none}
use Rattle.report_model.specs.Query.{has_source}
use Rattle.sink_collect.proofs.choosing.add_chosen.Goals as goal
use Rattle.sink_collect.proofs.choosing.add_chosen.Goals.{then-source_has+in_ok-push, else-source_has}

one_byte : (c o : ℕ) → bytes_of (range c o (o + 1)) ≡ byte_on c o ∷ []
one_byte c o = bytes-first c o (o + 1) (omega arith) ∙ ap (λ (bs : List SourceByte). byte_on c o ∷ bs) (bytes-none c (o + 1) (o + 1) (omega arith))

-- those of the bytes that pass a test
module _ (p : SourceByte → Bool) (old whole : List SourceByte) (c o past : ℕ) (some : o < past)
    (inv : old ++ filter p (bytes_of (range c o past)) ≡ whole) where
  first_filtered : (t : Bool) → p (byte_on c o) ≡ t
      → filter p (bytes_of (range c o past)) ≡ cond t (byte_on c o ∷ filter p (bytes_of (range c (o + 1) past))) (filter p (bytes_of (range c (o + 1) past)))
  first_filtered t e =
      let rest = filter p (bytes_of (range c (o + 1) past)) in
      ap (filter p) (bytes-first c o past some) ∙ ap (λ (b : Bool). cond b (byte_on c o ∷ rest) rest) e

  one_chosen : (new : List SourceByte) → p (byte_on c o) ≡ true → new ≡ old ++ bytes_of (range c o (o + 1))
      → new ++ filter p (bytes_of (range c (o + 1) past)) ≡ whole
  one_chosen new chosen is =
      let rest = filter p (bytes_of (range c (o + 1) past)) in
      ap (λ (bs : List SourceByte). bs ++ rest) (is ∙ ap (λ (bs : List SourceByte). old ++ bs) (one_byte c o))
      ∙ append_assoc old (byte_on c o ∷ []) rest
      ∙ ap (λ (bs : List SourceByte). old ++ bs) (sym (first_filtered true chosen)) ∙ inv

  one_passed : p (byte_on c o) ≡ false → old ++ filter p (bytes_of (range c (o + 1) past)) ≡ whole
  one_passed passed = ap (λ (bs : List SourceByte). old ++ bs) (sym (first_filtered false passed)) ∙ inv

pub loop-offset-preserved : goal.loop-offset-preserved
loop-offset-preserved c =
    let p = has_source c.args.query.now in
    let r = c.args.range in
    let o = c.loop-offset.offset in
    let old = c.loop-offset.chosen in
    let whole = c.args.chosen.now ++ filter p (bytes_of r) in
    let rest = filter p (bytes_of (range r.channel (o + 1) r.past)) in
    elim c.if-source_has.branch [
      | then-source_has+in_ok-push w ↦
          ap (λ (bs : List SourceByte). bs ++ rest) w.chosen-is
          ∙ one_chosen p old whole r.channel o r.past c.loop-offset-test.true c.loop-offset.invariant w.push.new.self
          (sym c.source_has.ensures ∙ w.if-source_has.true) w.in_ok-push.ensures
      | else-source_has w ↦
          ap (λ (bs : List SourceByte). bs ++ rest) w.chosen-is
          ∙ one_passed p old whole r.channel o r.past c.loop-offset-test.true c.loop-offset.invariant
          (sym c.source_has.ensures ∙ w.if-source_has.false)
    ]
