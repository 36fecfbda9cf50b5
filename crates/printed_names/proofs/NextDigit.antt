-- Decimals of which one follows on the other, and differs in the last digit alone.
use Rattle.std.proofs.Common.{◌≡◌, ◌∙◌, ap, ap₂, sym, refl, arith, ℕ, ◌+◌, ◌/◌, ◌%◌, ◌^◌, ◌<◌, ◌≤◌, List, [], ◌∷◌, ◌++◌, append_assoc, Bool, true, false, nat_lt}
use Rattle.std.specs.Prelude.{codes}
use Rattle.std.specs.Fmt.{decimal}
use Rattle.std.proofs.lemmas.Fmt.{decimal_digit, decimal_step}
use borrow.Author.Tests.{ltb-true, ltb-false}
use Rattle.flow_model.specs.declared.SourceByte.{SourceByte}
use Rattle.report_model.specs.Text.{source_text}
use Rattle.printed_names.specs.Next.{IsNextDigit}

-- the digits before the last one, and the last one before and after
pub record LastDigit (old : List ℕ) (n : ℕ) (new : List ℕ) : Type 0 where
  pub front : List ℕ
  pub last : ℕ
  pub before : old ≡ front ++ last ∷ []
  pub after : new ≡ front ++ (48 + n % 10) ∷ []

last_digit : (n : ℕ) → n + 1 < 2 ^ 64 → ((n + 1) % 10 ≡ 0 → ⊥) → LastDigit (decimal n) (n + 1) (decimal (n + 1))
last_digit n small not_ten = by (nat_lt n 10) refl where
  by : (b : Bool) → nat_lt n 10 ≡ b → LastDigit (decimal n) (n + 1) (decimal (n + 1))
  by true e =
      let few : n < 10 = ltb-true n 10 e in
      let more : n + 1 < 10 = omega arith in
      let same : 48 + (n + 1) ≡ 48 + (n + 1) % 10 = omega arith in
      record { front = []; last = 48 + n; before = decimal_digit n few; after = decimal_digit (n + 1) more ∙ ap (λ (d : ℕ). d ∷ []) same }
  by false e =
      let many : 10 ≤ n = ltb-false n 10 e in
      let tens : (n + 1) / 10 ≡ n / 10 = omega arith in
      record {
        front = decimal (n / 10);
        last = 48 + n % 10;
        before = decimal_step n many (omega arith);
        after = decimal_step (n + 1) (omega arith) small ∙ ap (λ (t : ℕ). decimal t ++ (48 + (n + 1) % 10) ∷ []) tens;
      }

pub regroup : (channel : ℕ) (front last : List ℕ) → codes " " ++ (decimal channel ++ codes ":" ++ (front ++ last)) ≡ (codes " " ++ (decimal channel ++ codes ":" ++ front)) ++ last
regroup channel front last =
    let head : List ℕ = decimal channel ++ codes ":" in
    ap (λ (t : List ℕ). codes " " ++ t) (sym (append_assoc head front last)) ∙ sym (append_assoc (codes " ") (head ++ front) last)

-- the same of the names of two source bytes
pub next_name : (last next : SourceByte) → IsNextDigit last next → next.offset < 2 ^ 32 → LastDigit (source_text last) next.offset (source_text next)
next_name last next is small =
    let o : ℕ = last.offset in
    let d : LastDigit (decimal o) (o + 1) (decimal (o + 1)) = last_digit o (omega (arith, is.offset, small)) (λ e. is.digit (ap (λ (n : ℕ). n % 10) is.offset ∙ e)) in
    let named : List ℕ → List ℕ = λ t. codes " " ++ (decimal next.channel ++ codes ":" ++ t) in
    record {
      front = named d.front;
      last = d.last;
      before = ap₂ (λ (c : ℕ) (t : List ℕ). codes " " ++ (decimal c ++ codes ":" ++ t)) (sym is.channel) d.before ∙ regroup next.channel d.front (d.last ∷ []);
      after = ap (λ (n : ℕ). named (decimal n)) is.offset ∙ ap named d.after ∙ regroup next.channel d.front ((48 + (o + 1) % 10) ∷ [])
          ∙ ap (λ (n : ℕ). named d.front ++ (48 + n % 10) ∷ []) (sym is.offset);
    }
