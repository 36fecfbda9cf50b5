-- Bytes that two stretches of memory have in common.
use Rattle.std.proofs.Common.{◌≡◌, ℕ, zero, suc, ◌+◌, ◌<◌, ◌≤◌, min, max, Bool, false, ◌&&◌, ◌||◌, nat_lt, nat_le, true, ltb-true, lt-ltb, ap, sym, ◌∙◌, arith}
use Rattle.std.specs.List.{list_any, range_with_len}
use Rattle.std.proofs.lemmas.Bool.Decides.{nat_tests}
use Rattle.run_travel.specs.declared.watch.Watch.{Watch}
use Rattle.run_travel.specs.Stops.{is_watched, looks_at}
use Rattle.run_travel.specs.MoveLaws.{IsOfBoth, SomeByteIsOfBoth}

-- from a on, up to b, and from c on, up to d: the first number of the latter is of the former, or a later one is
one_more : (a b c d : ℕ) → c < d → (nat_le a c && nat_lt c b || nat_lt (max a (c + 1)) (min b d)) ≡ nat_lt (max a c) (min b d)
one_more a b c d h = grind (arith, nat_tests)

none_left : (a b c d : ℕ) → d ≤ c → false ≡ nat_lt (max a c) (min b d)
none_left a b c d h = grind (arith, nat_tests)

-- one of these bytes is watched exactly where the later of both begins before the earlier ends
pub in_common : (w : Watch) (place size : ℕ) → list_any (is_watched w) (range_with_len place size) ≡ nat_lt (max w.place place) (min (w.place + w.length) (place + size))
in_common w place zero = none_left w.place (w.place + w.length) place (place + 0) (omega arith)
in_common w place (suc n) =
    let past : place + 1 + n ≡ place + suc n = omega arith in
    ap (λ (b : Bool). is_watched w place || b) (in_common w (place + 1) n)
    ∙ ap (λ (d : ℕ). is_watched w place || nat_lt (max w.place (place + 1)) (min (w.place + w.length) d)) past
    ∙ one_more w.place (w.place + w.length) place (place + suc n) (omega arith)

pub some_byte : SomeByteIsOfBoth
some_byte w bytes = (to, from) where
  to : looks_at w bytes ≡ true → (b : ℕ) × IsOfBoth w bytes b
  to e =
      let less = ltb-true (max w.place bytes.place) (min (w.place + w.length) (bytes.place + bytes.size)) (sym (in_common w bytes.place bytes.size) ∙ e) in
      (max w.place bytes.place, (omega arith, omega arith, omega arith, omega arith))

  from : ((b : ℕ) × IsOfBoth w bytes b) → looks_at w bytes ≡ true
  from h = in_common w bytes.place bytes.size ∙ lt-ltb (max w.place bytes.place) (min (w.place + w.length) (bytes.place + bytes.size)) (omega (arith, h.1.0, h.1.1, h.1.2, h.1.3))
